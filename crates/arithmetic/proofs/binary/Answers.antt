-- `arithmetic::binary`: each number by its own equation, any other gives 0.
use Rattle.std.proofs.Common.{ℕ, Bool, not, sym, refl, ap, ◌∙◌}
use Rattle.language.specs.Arithmetic.{Computed, meaning, add, sub, mul, within, shl, shr, rol, ror, truth, binary_of}
use Rattle.arithmetic.specs.Rooms.{sign_matters}
use Rattle.arithmetic.proofs.Meanings.{width_is, same_meaning, least_or_less}
use Rattle.arithmetic.proofs.Numbers.{stands, room_in, first_in, second_in, arm, truth_of, binary_else}
use Rattle.arithmetic.proofs.binary.Goals as goal

pub invariant_of-kind : goal.invariant_of-kind
invariant_of-kind c = record { below = room_in c.requires }

pub invariant_of-kind-in-10 : goal.invariant_of-kind-in-10
invariant_of-kind-in-10 c = record { below = room_in c.requires }

pub invariant_of-kind-in-11 : goal.invariant_of-kind-in-11
invariant_of-kind-in-11 c = record { below = room_in c.requires }

pub invariant_of-kind-in-12 : goal.invariant_of-kind-in-12
invariant_of-kind-in-12 c = record { below = room_in c.requires }

pub invariant_of-kind-in-13 : goal.invariant_of-kind-in-13
invariant_of-kind-in-13 c = record { below = room_in c.requires }

pub invariant_of-kind-in-19 : goal.invariant_of-kind-in-19
invariant_of-kind-in-19 c = record { below = room_in c.requires }

pub invariant_of-kind-in-20 : goal.invariant_of-kind-in-20
invariant_of-kind-in-20 c = record { below = room_in c.requires }

pub invariant_of-kind-in-21 : goal.invariant_of-kind-in-21
invariant_of-kind-in-21 c = record { below = room_in c.requires }

pub invariant_of-kind-in-22 : goal.invariant_of-kind-in-22
invariant_of-kind-in-22 c = record { below = room_in c.requires }

pub invariant_of-kind-in-25 : goal.invariant_of-kind-in-25
invariant_of-kind-in-25 c = record { below = room_in c.requires }

pub invariant_of-kind-in-26 : goal.invariant_of-kind-in-26
invariant_of-kind-in-26 c = record { below = room_in c.requires }

pub invariant_of-kind-in-27 : goal.invariant_of-kind-in-27
invariant_of-kind-in-27 c = record { below = room_in c.requires }

pub invariant_of-kind-in-28 : goal.invariant_of-kind-in-28
invariant_of-kind-in-28 c = record { below = room_in c.requires }

pub sub-requires : goal.sub-requires
unfolding binary_of sign_matters
sub-requires c = second_in c.requires c.in-10.is (λ t. refl)

pub div-requires : goal.div-requires
unfolding binary_of sign_matters
div-requires c = (first_in c.requires, second_in c.requires c.in-12.is (λ t. refl))

pub rem-requires : goal.rem-requires
unfolding binary_of sign_matters
rem-requires c = (first_in c.requires, second_in c.requires c.in-13.is (λ t. refl))

pub shr-requires : goal.shr-requires
unfolding binary_of sign_matters
shr-requires c = first_in c.requires

pub rol-requires : goal.rol-requires
unfolding binary_of sign_matters
rol-requires c = first_in c.requires

pub ror-requires : goal.ror-requires
unfolding binary_of sign_matters
ror-requires c = first_in c.requires

pub less-requires : goal.less-requires
unfolding binary_of sign_matters
less-requires c = (second_in c.requires c.in-25.is (λ t. refl), first_in c.requires)

pub less-requires-in-26 : goal.less-requires-in-26
unfolding binary_of sign_matters
less-requires-in-26 c = (first_in c.requires, second_in c.requires c.in-26.is (λ t. refl))

pub less-requires-in-27 : goal.less-requires-in-27
unfolding binary_of sign_matters
less-requires-in-27 c = (first_in c.requires, second_in c.requires c.in-27.is (λ t. refl))

pub less-requires-in-28 : goal.less-requires-in-28
unfolding binary_of sign_matters
less-requires-in-28 c = (second_in c.requires c.in-28.is (λ t. refl), first_in c.requires)

pub returns-in-9 : goal.returns-in-9
unfolding binary_of sign_matters
returns-in-9 c t h g = let v = c.args in arm t v.a v.b c.in-9.is (ap Computed.value (c.add.ensures ∙ ap (λ (w : ℕ). add w v.a v.b) (width_is t h)))

pub returns-in-10 : goal.returns-in-10
unfolding binary_of sign_matters
returns-in-10 c t h g = let v = c.args in arm t v.a v.b c.in-10.is (ap Computed.value (c.sub.ensures ∙ ap (λ (w : ℕ). sub w v.a v.b) (width_is t h)))

pub returns-in-11 : goal.returns-in-11
unfolding binary_of sign_matters
returns-in-11 c t h g = let v = c.args in arm t v.a v.b c.in-11.is (ap Computed.value (c.mul.ensures ∙ ap (λ (w : ℕ). mul w v.a v.b) (width_is t h)))

pub returns-in-12 : goal.returns-in-12
unfolding binary_of sign_matters
returns-in-12 c t h g = let v = c.args in let e = c.in-12.is in arm t v.a v.b e (c.div.ensures t (stands e refl h g))

pub returns-in-13 : goal.returns-in-13
unfolding binary_of sign_matters
returns-in-13 c t h g = let v = c.args in let e = c.in-13.is in arm t v.a v.b e (c.rem.ensures t (stands e refl h g))

pub returns-in-15 : goal.returns-in-15
unfolding binary_of sign_matters
returns-in-15 c t h g = let v = c.args in arm t v.a v.b c.in-15.is refl

pub returns-in-16 : goal.returns-in-16
unfolding binary_of sign_matters
returns-in-16 c t h g = let v = c.args in arm t v.a v.b c.in-16.is refl

pub returns-in-17 : goal.returns-in-17
unfolding binary_of sign_matters
returns-in-17 c t h g = let v = c.args in arm t v.a v.b c.in-17.is refl

pub returns-in-19 : goal.returns-in-19
unfolding binary_of sign_matters
returns-in-19 c t h g = let v = c.args in arm t v.a v.b c.in-19.is (c.shl.ensures ∙ ap (λ (w : ℕ). within w v.b (shl w v.a v.b)) (width_is t h))

pub returns-in-20 : goal.returns-in-20
unfolding binary_of sign_matters
returns-in-20 c t h g = let v = c.args in let e = c.in-20.is in arm t v.a v.b e (c.shr.ensures t (stands e refl h g) ∙ ap (λ (w : ℕ). within w v.b (shr t v.a v.b)) (width_is t h))

pub returns-in-21 : goal.returns-in-21
unfolding binary_of sign_matters
returns-in-21 c t h g = let v = c.args in arm t v.a v.b c.in-21.is (c.rol.ensures ∙ ap (λ (w : ℕ). within w v.b (rol w v.a v.b)) (width_is t h))

pub returns-in-22 : goal.returns-in-22
unfolding binary_of sign_matters
returns-in-22 c t h g = let v = c.args in arm t v.a v.b c.in-22.is (c.ror.ensures ∙ ap (λ (w : ℕ). within w v.b (ror w v.a v.b)) (width_is t h))

pub returns-in-23 : goal.returns-in-23
unfolding binary_of sign_matters
returns-in-23 c t h g =
    let v = c.args in
    let e = c.in-23.is in
    arm t v.a v.b e (ap Computed.value (truth_of _ c.from.ensures ∙ ap (λ (x : Bool). truth x) (sym (same_meaning t _ _ (rw (← width_is t h) (first_in c.requires)) (rw (← width_is t h) (second_in c.requires e (λ t. refl)))))))

pub returns-in-24 : goal.returns-in-24
unfolding binary_of sign_matters
returns-in-24 c t h g =
    let v = c.args in
    let e = c.in-24.is in
    arm t v.a v.b e (ap Computed.value (truth_of _ c.from-in-24.ensures ∙ ap (λ (x : Bool). truth (not x)) (sym (same_meaning t _ _ (rw (← width_is t h) (first_in c.requires)) (rw (← width_is t h) (second_in c.requires e (λ t. refl)))))))

pub returns-in-25 : goal.returns-in-25
unfolding binary_of sign_matters
returns-in-25 c t h g =
    let v = c.args in
    let e = c.in-25.is in
    arm t v.a v.b e (ap Computed.value (truth_of _ c.from-in-25.ensures ∙ ap truth (c.less.ensures t (stands e refl h g))))

pub returns-in-26 : goal.returns-in-26
unfolding binary_of sign_matters
returns-in-26 c t h g =
    let v = c.args in
    let e = c.in-26.is in
    arm t v.a v.b e (ap Computed.value (truth_of _ c.from-in-26.ensures ∙ ap truth (c.less-in-26.ensures t (stands e refl h g))))

pub returns-in-27 : goal.returns-in-27
unfolding binary_of sign_matters
returns-in-27 c t h g =
    let v = c.args in
    let e = c.in-27.is in
    arm t v.a v.b e (ap Computed.value (truth_of _ c.from-in-27.ensures ∙ ap (λ (x : Bool). truth (not x)) (c.less-in-27.ensures t (stands e refl h g)) ∙ ap truth (sym (least_or_less (meaning t v.b) (meaning t v.a)))))

pub returns-in-28 : goal.returns-in-28
unfolding binary_of sign_matters
returns-in-28 c t h g =
    let v = c.args in
    let e = c.in-28.is in
    arm t v.a v.b e (ap Computed.value (truth_of _ c.from-in-28.ensures ∙ ap (λ (x : Bool). truth (not x)) (c.less-in-28.ensures t (stands e refl h g)) ∙ ap truth (sym (least_or_less (meaning t v.a) (meaning t v.b)))))

pub returns-in_default : goal.returns-in_default
unfolding binary_of sign_matters
returns-in_default c t h g = let v = c.args in sym (binary_else v.op t c.in_default.in_default-own.rest v.a v.b)
