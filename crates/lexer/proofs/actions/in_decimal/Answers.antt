-- `lexer::actions::in_decimal` tests what its definition tests.
use Rattle.laws.proofs.Branches.{branches}
use Rattle.lexer.specs.Actions.{in_decimal_at}
use Rattle.lexer.proofs.actions.in_decimal.Goals as goal

pub returns-then-class-eq-DIGIT : goal.returns-then-class-eq-DIGIT
unfolding in_decimal_at
returns-then-class-eq-DIGIT c = search branches depth 12

pub returns : goal.returns
unfolding in_decimal_at
returns c = search branches depth 12
