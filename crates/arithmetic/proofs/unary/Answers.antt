-- `arithmetic::unary`: each number by its own equation, any other gives 0.
use Rattle.std.proofs.Common.{ℕ, sym, refl, ap, ◌∙◌, ne_eqb}
use Rattle.language.specs.Arithmetic.{meaning, wrap, neg, flip, unary_of}
use Rattle.language.specs.Instructions.{ari_neg_op, bit_neg_op, conv_op, copy_op}
use Rattle.arithmetic.specs.Rooms.{sign_matters}
use Rattle.arithmetic.proofs.Meanings.{width_is, room_below}
use Rattle.arithmetic.proofs.Numbers.{fits_in, stands}
use Rattle.arithmetic.proofs.unary.Goals as goal

pub neg-requires : goal.neg-requires
unfolding unary_of sign_matters
neg-requires c = fits_in c.requires.kind c.requires.above c.requires.fits

pub flip-requires : goal.flip-requires
unfolding unary_of sign_matters
flip-requires c = fits_in c.requires.kind c.requires.above c.requires.fits

pub conv-requires : goal.conv-requires
unfolding unary_of sign_matters
conv-requires c = fits_in c.requires.kind c.requires.above c.requires.fits

pub invariant_of-from : goal.invariant_of-from
invariant_of-from c = record { below = room_below c.requires.kind c.requires.above }

pub invariant_of-from-in-18 : goal.invariant_of-from-in-18
invariant_of-from-in-18 c = record { below = room_below c.requires.kind c.requires.above }

pub invariant_of-from-in-29 : goal.invariant_of-from-in-29
invariant_of-from-in-29 c = record { below = room_below c.requires.kind c.requires.above }

pub invariant_of-to : goal.invariant_of-to
invariant_of-to c = record { below = room_below c.requires.target c.requires.above_target }

pub returns-in-14 : goal.returns-in-14
unfolding unary_of sign_matters
returns-in-14 c t u h i g = let v = c.args in c.neg.ensures ∙ ap (λ (w : ℕ). neg w v.x) (width_is t h) ∙ ap (λ (n : ℕ). unary_of n t u v.x) (sym c.in-14.is)

pub returns-in-18 : goal.returns-in-18
unfolding unary_of sign_matters
returns-in-18 c t u h i g = let v = c.args in c.flip.ensures ∙ ap (λ (w : ℕ). flip w v.x) (width_is t h) ∙ ap (λ (n : ℕ). unary_of n t u v.x) (sym c.in-18.is)

pub returns-in-29 : goal.returns-in-29
unfolding unary_of sign_matters
returns-in-29 c t u h i g = let v = c.args in c.conv.ensures t (stands c.in-29.is refl h g) ∙ ap (λ (w : ℕ). wrap w (meaning t v.x)) (width_is u i) ∙ ap (λ (n : ℕ). unary_of n t u v.x) (sym c.in-29.is)

pub returns-in-30 : goal.returns-in-30
unfolding unary_of sign_matters
returns-in-30 c t u h i g = ap (λ (n : ℕ). unary_of n t u c.args.x) (sym c.in-30.is)

pub returns-in_default : goal.returns-in_default
unfolding unary_of sign_matters
returns-in_default c t u h i g = let r = c.in_default.in_default-own.rest in sym (simp (ne_eqb _ ari_neg_op r.0.0.0.1, ne_eqb _ bit_neg_op r.0.0.1, ne_eqb _ conv_op r.0.1, ne_eqb _ copy_op r.1))
