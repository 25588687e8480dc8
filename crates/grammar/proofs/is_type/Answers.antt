-- `grammar::is_type` tests what the definition tests, in its order.
use borrow.Author.Tests.{le-leb, lt-leb}
use Rattle.grammar.proofs.is_type.Goals as goal

pub returns-then-w-ge-FIRST_TYPE : goal.returns-then-w-ge-FIRST_TYPE
returns-then-w-ge-FIRST_TYPE c = simp (le-leb _ _ c.if-w-ge-FIRST_TYPE.true)

pub returns-else-w-ge-FIRST_TYPE : goal.returns-else-w-ge-FIRST_TYPE
returns-else-w-ge-FIRST_TYPE c = simp (lt-leb _ _ c.if-w-ge-FIRST_TYPE.false)
