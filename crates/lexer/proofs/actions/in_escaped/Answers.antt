-- `lexer::actions::in_escaped` tests what its definition tests.
use Rattle.laws.proofs.Branches.{branches}
use Rattle.lexer.specs.Actions.{in_escaped_at}
use Rattle.lexer.proofs.actions.in_escaped.Goals as goal

pub returns-then-kept-ge-MAX_NAME : goal.returns-then-kept-ge-MAX_NAME
unfolding in_escaped_at
returns-then-kept-ge-MAX_NAME c = search branches depth 12

pub returns-then-b-eq39 : goal.returns-then-b-eq39
unfolding in_escaped_at
returns-then-b-eq39 c = search branches depth 12

pub returns-then-b-eq92 : goal.returns-then-b-eq92
unfolding in_escaped_at
returns-then-b-eq92 c = search branches depth 12

pub returns-then-kept : goal.returns-then-kept
unfolding in_escaped_at
returns-then-kept c = search branches depth 12

pub returns : goal.returns
unfolding in_escaped_at
returns c = search branches depth 12
