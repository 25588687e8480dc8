-- `page::zero_from`: from the place on the slice is filled, and from a place past the end nothing is left to do.
use mathlib.Core.Path.{◌≡◌, refl}
use mathlib.Core.List.{List, []}
use Prim.Native.Nat.{ℕ, ◌-◌, ◌≤◌, ◌<◌}
use native.Mathlib.Omega.{arith}
use borrow.Rule.Slice.PartMut.{put_mid}
use lib.ListN.{length, take, drop, replicate, length-take, length-drop}
use lib.Seq.{take_all}
use Rattle.std.proofs.lemmas.List.{append-nil, drop_all}
use Rattle.page.specs.Page.{closed}
use Rattle.page.proofs.zero_from.Goals as goal

filled : (l : List ℕ) (n : ℕ) {x : List ℕ} → n < length l → x ≡ replicate (length (take (length l - n) (drop n l))) 0 → put_mid n (length l - n) l x ≡ closed l n
unfolding closed
filled l n {x} h e =
    let size : length (take (length l - n) (drop n l)) ≡ length l - n = simp (length-take, length-drop) (omega arith) in
    let none : drop (length l - n) (drop n l) ≡ [] = drop_all (length l - n) (drop n l) (omega (arith, length-drop n l)) in
    rw (e, size, none, append-nil)

past : (l : List ℕ) (n : ℕ) → length l ≤ n → l ≡ closed l n
unfolding closed
past l n h =
    let none : length l - n ≡ 0 = omega arith in
    rw (none, take_all n l h, append-nil)

pub returns-then-at-out : goal.returns-then-at-out
returns-then-at-out c = (refl, filled c.args.out.now c.args.at c.if-at-out.true (c.fill.ensures.after (λ y e. e)))

pub returns-else-at-out : goal.returns-else-at-out
returns-else-at-out c = (refl, past c.args.out.now c.args.at c.if-at-out.false)
