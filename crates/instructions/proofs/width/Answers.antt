-- `instructions::width`: 8 shifted by the type's place among its four, and 64 for `int` and `uint`.
use borrow.Author.Tests.{le-ltb}
use Rattle.language.specs.Instructions.{width}
use Rattle.instructions.proofs.ShapeLaws.{width_small}
use Rattle.instructions.proofs.width.Goals as goal

pub returns-then-t-ge-INT : goal.returns-then-t-ge-INT
unfolding width
returns-then-t-ge-INT c = simp (le-ltb _ _ c.if-t-ge-INT.true)

pub returns : goal.returns
unfolding width
returns c = width_small c.args.t c.if-t-ge-INT.false
