-- `lexer::actions::begins` tests what its definition tests.
use Rattle.laws.proofs.Branches.{branches}
use Rattle.lexer.specs.Actions.{begins_at}
use Rattle.lexer.proofs.actions.begins.Goals as goal

pub returns-then-b-eq48 : goal.returns-then-b-eq48
unfolding begins_at
returns-then-b-eq48 c = search branches depth 12

pub returns-in-0 : goal.returns-in-0
unfolding begins_at
returns-in-0 c = search branches depth 12

pub returns-else-b-eq48 : goal.returns-else-b-eq48
unfolding begins_at
returns-else-b-eq48 c = search branches depth 12

pub returns-in-2 : goal.returns-in-2
unfolding begins_at
returns-in-2 c = search branches depth 12

pub returns-in-3 : goal.returns-in-3
unfolding begins_at
returns-in-3 c = search branches depth 12

pub returns-in-4 : goal.returns-in-4
unfolding begins_at
returns-in-4 c = search branches depth 12

pub returns-in-5 : goal.returns-in-5
unfolding begins_at
returns-in-5 c = search branches depth 12

pub returns-in-6 : goal.returns-in-6
unfolding begins_at
returns-in-6 c = search branches depth 12

pub returns-in_default : goal.returns-in_default
unfolding begins_at
returns-in_default c = search branches depth 12
