-- `lexer::actions::action` tests what its definition tests.
use Rattle.laws.proofs.Branches.{branches}
use Rattle.lexer.specs.Actions.{action_at}
use Rattle.lexer.proofs.actions.action.Goals as goal

pub returns-then-b-eq47 : goal.returns-then-b-eq47
unfolding action_at
returns-then-b-eq47 c = search branches depth 12

pub returns-then-b-eq10 : goal.returns-then-b-eq10
unfolding action_at
returns-then-b-eq10 c = search branches depth 12

pub returns-in-0 : goal.returns-in-0
unfolding action_at
returns-in-0 c = search branches depth 12

pub returns-in-1 : goal.returns-in-1
unfolding action_at
returns-in-1 c = search branches depth 12

pub returns-in-2 : goal.returns-in-2
unfolding action_at
returns-in-2 c = search branches depth 12

pub returns-in-3 : goal.returns-in-3
unfolding action_at
returns-in-3 c = search branches depth 12

pub returns-else-b-eq47 : goal.returns-else-b-eq47
unfolding action_at
returns-else-b-eq47 c = search branches depth 12

pub returns-else-b-eq10 : goal.returns-else-b-eq10
unfolding action_at
returns-else-b-eq10 c = search branches depth 12

pub returns-in_default : goal.returns-in_default
unfolding action_at
returns-in_default c = search branches depth 12
