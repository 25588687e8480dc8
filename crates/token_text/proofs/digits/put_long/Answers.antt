-- `token_text::digits::put_long`: what stands in front of the scratch is the digits and the space.
use mathlib.Core.Path.{refl, ap, ◌∙◌}
use Prim.Native.Nat.{ℕ}
use native.Mathlib.Omega.{arith}
use lib.ListN.{length-set, length-take, length-replicate}
use Rattle.decimal.proofs.Writings.{written_then, written_one, written_length}
use Rattle.page.specs.Page.{puts}
use Rattle.token_text.proofs.Spelled.{written_front}
use Rattle.token_text.proofs.digits.put_long.Goals as goal

pub slice_bounds-s-end : goal.slice_bounds-s-end
slice_bounds-s-end c =
    let w = c.put_digits-e.ensures in
    simp length-set (omega (arith, w.1, written_length w.0, length-replicate {A = ℕ} 24 0))

pub slice_bounds-put_part-end : goal.slice_bounds-put_part-end
slice_bounds-put_part-end c =
    let w = c.put_digits-e.ensures in
    simp (length-take, length-set) (omega (arith, w.1, written_length w.0, length-replicate {A = ℕ} 24 0))

pub returns : goal.returns
returns c =
    let w = c.put_digits-e.ensures in
    let small = length-replicate {A = ℕ} 24 0 in
    c.put_part.ensures ∙ ap (puts _) (written_front (written_then w.0 (written_one _ _ refl)) (omega (arith, w.1)))
