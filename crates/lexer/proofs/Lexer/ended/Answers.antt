-- `lexer::Lexer::ended` tests what its definition tests.
use Rattle.laws.proofs.Branches.{branches}
use Rattle.lexer.specs.Advancing.{ended_at}
use Rattle.lexer.proofs.Lexer.ended.Goals as goal

pub returns-then-mode-eq-PLAIN : goal.returns-then-mode-eq-PLAIN
unfolding ended_at
returns-then-mode-eq-PLAIN c = search branches depth 12

pub returns-then-mode-eq-BETWEEN : goal.returns-then-mode-eq-BETWEEN
unfolding ended_at
returns-then-mode-eq-BETWEEN c = search branches depth 12

pub returns-then-mode-eq-COMMENT : goal.returns-then-mode-eq-COMMENT
unfolding ended_at
returns-then-mode-eq-COMMENT c = search branches depth 12

pub returns-then-mode-lt-LEADING_ZERO : goal.returns-then-mode-lt-LEADING_ZERO
unfolding ended_at
returns-then-mode-lt-LEADING_ZERO c = search branches depth 12

pub returns-then-mode-eq-PREFIX : goal.returns-then-mode-eq-PREFIX
unfolding ended_at
returns-then-mode-eq-PREFIX c = search branches depth 12

pub returns : goal.returns
unfolding ended_at
returns c = search branches depth 12
