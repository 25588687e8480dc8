-- `instructions::signed` tests what the definition tests, in its order.
use borrow.Author.Tests.{eq-eqb, ne_eqb}
use Rattle.language.specs.Instructions.{signed}
use Rattle.instructions.proofs.signed.Goals as goal

pub returns-then-t-eq-INT : goal.returns-then-t-eq-INT
unfolding signed
returns-then-t-eq-INT c = simp (eq-eqb _ _ c.if-t-eq-INT.true)

pub returns-else-t-eq-INT : goal.returns-else-t-eq-INT
unfolding signed
returns-else-t-eq-INT c = simp (ne_eqb _ _ c.if-t-eq-INT.false)
