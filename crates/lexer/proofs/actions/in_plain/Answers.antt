-- `lexer::actions::in_plain` tests what its definition tests.
use Rattle.laws.proofs.Branches.{branches}
use Rattle.lexer.specs.Actions.{in_plain_at}
use Rattle.lexer.proofs.actions.in_plain.Goals as goal

pub returns-then-kept-lt-MAX_NAME : goal.returns-then-kept-lt-MAX_NAME
unfolding in_plain_at
returns-then-kept-lt-MAX_NAME c = search branches depth 12

pub returns-then-class-lt-SPACE : goal.returns-then-class-lt-SPACE
unfolding in_plain_at
returns-then-class-lt-SPACE c = search branches depth 12

pub returns : goal.returns
unfolding in_plain_at
returns c = search branches depth 12
