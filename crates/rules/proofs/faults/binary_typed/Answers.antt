-- The definition's own tests, in its order.
use borrow.Author.Tests.{lt-ltb, le-ltb}
use Rattle.rules.specs.Cells.{binary_typed}
use Rattle.rules.proofs.faults.binary_typed.Goals as goal

pub returns-then-op-lt-SHL : goal.returns-then-op-lt-SHL
unfolding binary_typed
returns-then-op-lt-SHL c = rw (lt-ltb _ _ c.if-op-lt-SHL.true)

pub returns-then-op-lt-CMP_EQ : goal.returns-then-op-lt-CMP_EQ
unfolding binary_typed
returns-then-op-lt-CMP_EQ c = rw (le-ltb _ _ c.if-op-lt-SHL.false, lt-ltb _ _ c.if-op-lt-CMP_EQ.true)

pub returns : goal.returns
unfolding binary_typed
returns c = rw (le-ltb _ _ c.if-op-lt-SHL.false, le-ltb _ _ c.if-op-lt-CMP_EQ.false)
