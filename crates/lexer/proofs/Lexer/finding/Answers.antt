-- `lexer::Lexer::finding` tests what its definition tests.
use Rattle.laws.proofs.Branches.{branches}
use Rattle.lexer.specs.Advancing.{finding_at}
use Rattle.lexer.proofs.Lexer.finding.Goals as goal

pub returns-then-action-eq-ENDS : goal.returns-then-action-eq-ENDS
unfolding finding_at
returns-then-action-eq-ENDS c = rw (c.ended.ensures, c.idle.ensures) (search branches depth 12)

pub returns-then-action-eq-SPOILS : goal.returns-then-action-eq-SPOILS
unfolding finding_at
returns-then-action-eq-SPOILS c = rw c.begun-lexer.ensures (search branches depth 12)

pub returns-then-action-eq-CLOSES : goal.returns-then-action-eq-CLOSES
unfolding finding_at
returns-then-action-eq-CLOSES c = rw c.begun-lexer.ensures (search branches depth 12)

pub returns : goal.returns
unfolding finding_at
returns c = rw (c.single.ensures, c.begun-lexer.ensures) (search branches depth 12)
