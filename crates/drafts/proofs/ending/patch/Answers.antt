use mathlib.Core.Path.{◌≡◌, refl, ap, ◌∙◌}
use Prim.Native.Nat.{ℕ}
use native.Mathlib.Numerals.{add-one}
use native.Mathlib.Omega.{arith}
use Rattle.drafts.specs.Ending.{patch_rows}
use Rattle.drafts.proofs.ending.patch.Goals as goal

pub loop-r-init : goal.loop-r-init
unfolding patch_rows
loop-r-init c = (omega arith, refl, refl)

pub patch_row-requires : goal.patch_row-requires
patch_row-requires c = (omega arith, omega arith, omega arith)

pub loop-r-preserved : goal.loop-r-preserved
unfolding patch_rows
loop-r-preserved c = (
  omega arith,
  omega arith,
  rw (add-one, ← c.loop-r.invariant.2) c.patch_row.ensures,
)

pub shape_of-f : goal.shape_of-f
shape_of-f c = omega arith

pub returns : goal.returns
returns c =
    let args = c.args in
    let done : c.loop-r.r ≡ args.rows = omega arith in
    c.loop-r.invariant.2 ∙ ap (λ (r : ℕ). patch_rows args.f.now args.found.now r) done
