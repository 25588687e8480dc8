-- `lexer::single` tests what its definition tests.
use Rattle.laws.proofs.Branches.{branches}
use Rattle.lexer.specs.Advancing.{single_at}
use Rattle.lexer.proofs.single.Goals as goal

pub returns-then-action-eq-MARK : goal.returns-then-action-eq-MARK
unfolding single_at
returns-then-action-eq-MARK c = search branches

pub returns : goal.returns
unfolding single_at
returns c = search branches
