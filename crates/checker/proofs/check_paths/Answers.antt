-- Not marked ssa, a row that breaks 17, or none.
use mathlib.Core.Path.{refl, ap, ◌∙◌}
use native.Mathlib.Omega.{arith}
use Rattle.language.specs.Checking.{Verdict}
use Rattle.checker.proofs.Late.{is_ssa_law, not_ssa, nowhere, somewhere}
use Rattle.checker.proofs.check_paths.Goals as goal

pub function_ssa-requires : goal.function_ssa-requires
function_ssa-requires c = c.requires.sized.0.within

pub returns-then-function_ssa-ne1 : goal.returns-then-function_ssa-ne1
returns-then-function_ssa-ne1 c = let args = c.args in not_ssa args.t.now args.a args.i c.function_ssa.ensures c.if-function_ssa-ne1.true

pub first_late-requires : goal.first_late-requires
first_late-requires c =
    let ssa = is_ssa_law c.args.t.now c.args.a c.args.i c.function_ssa.ensures c.if-function_ssa-ne1.false in
    record { sized = c.requires.sized.0; prepared = c.requires.sized.1.in_ssa ssa; formed = c.requires.formed ssa }

pub row_place-requires : goal.row_place-requires
row_place-requires c = (c.requires.sized.2, omega (arith, c.requires.sized.0.rows, c.in-Some.ensures.within))

pub returns-in-Some : goal.returns-in-Some
returns-in-Some c =
    rw c.refuse.ensures (ap (Verdict.refused 17) c.row_place.ensures ∙ somewhere c.args.t.now c.args.a c.args.i c.in-Some.ensures.first refl c.in-Some.ensures.within)

pub returns : goal.returns
returns c = nowhere c.args.t.now c.args.a c.args.i c.in_default.ensures.first refl (omega arith)
