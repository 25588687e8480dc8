-- `grammar::is_instruction` tests what the definition tests, in its order.
use borrow.Author.Tests.{le-leb, lt-leb}
use Rattle.grammar.proofs.is_instruction.Goals as goal

pub returns-then-w-ge-FIRST_INSTRUCTION : goal.returns-then-w-ge-FIRST_INSTRUCTION
returns-then-w-ge-FIRST_INSTRUCTION c = simp (le-leb _ _ c.if-w-ge-FIRST_INSTRUCTION.true)

pub returns-else-w-ge-FIRST_INSTRUCTION : goal.returns-else-w-ge-FIRST_INSTRUCTION
returns-else-w-ge-FIRST_INSTRUCTION c = simp (lt-leb _ _ c.if-w-ge-FIRST_INSTRUCTION.false)
