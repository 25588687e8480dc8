-- `lexer::actions::after_number` tests what its definition tests.
use Rattle.laws.proofs.Branches.{branches}
use Rattle.lexer.specs.Actions.{after_number_at}
use Rattle.lexer.proofs.actions.after_number.Goals as goal

pub returns-then-class-lt-SPACE : goal.returns-then-class-lt-SPACE
unfolding after_number_at
returns-then-class-lt-SPACE c = search branches depth 12

pub returns : goal.returns
unfolding after_number_at
returns c = search branches depth 12
