-- `lexer::actions::in_quoted` tests what its definition tests.
use Rattle.laws.proofs.Branches.{branches}
use Rattle.lexer.specs.Actions.{in_quoted_at}
use Rattle.lexer.proofs.actions.in_quoted.Goals as goal

pub returns-then-kept-eq0 : goal.returns-then-kept-eq0
unfolding in_quoted_at
returns-then-kept-eq0 c = search branches depth 12

pub returns-then-b-eq39 : goal.returns-then-b-eq39
unfolding in_quoted_at
returns-then-b-eq39 c = search branches depth 12

pub returns-then-b-eq92 : goal.returns-then-b-eq92
unfolding in_quoted_at
returns-then-b-eq92 c = search branches depth 12

pub returns-then-kept-lt-MAX_NAME : goal.returns-then-kept-lt-MAX_NAME
unfolding in_quoted_at
returns-then-kept-lt-MAX_NAME c = search branches depth 12

pub returns : goal.returns
unfolding in_quoted_at
returns c = search branches depth 12
