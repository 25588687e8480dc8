-- The definition's tests, of the same cells: `ssa` first, for no other function needs the rest.
use borrow.Author.Tests.{eq-eqb, ne_eqb}
use Rattle.rules.specs.Cells.{retaken}
use Rattle.rules.proofs.faults.retaken.Goals as goal

pub returns-then-function_ssa-ne1 : goal.returns-then-function_ssa-ne1
unfolding retaken
returns-then-function_ssa-ne1 c = rw (← c.function_ssa.ensures, ne_eqb _ _ c.if-function_ssa-ne1.true)

pub returns : goal.returns
unfolding retaken
returns c = rw (← c.function_ssa.ensures, eq-eqb _ _ c.if-function_ssa-ne1.false, c.function_params.ensures.0, c.assignment.ensures.0)
