-- `lexer::fresh` asks the definition's question.
use Rattle.laws.proofs.Branches.{branches}
use Rattle.lexer.specs.Advancing.{fresh_at}
use Rattle.lexer.proofs.fresh.Goals as goal

pub returns-then-mode-eq-BETWEEN : goal.returns-then-mode-eq-BETWEEN
unfolding fresh_at
returns-then-mode-eq-BETWEEN c = search branches

pub returns : goal.returns
unfolding fresh_at
returns c = search branches
