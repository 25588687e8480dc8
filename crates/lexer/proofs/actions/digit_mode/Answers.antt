-- `lexer::actions::digit_mode` tests what its definition tests.
use Rattle.laws.proofs.Branches.{branches}
use Rattle.lexer.specs.Actions.{digit_mode_at}
use Rattle.lexer.proofs.actions.digit_mode.Goals as goal

pub returns-then-b-eq48 : goal.returns-then-b-eq48
unfolding digit_mode_at
returns-then-b-eq48 c = search branches

pub returns : goal.returns
unfolding digit_mode_at
returns c = search branches
