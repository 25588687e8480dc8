-- `lexer::begun` tests what its definition tests.
use Rattle.laws.proofs.Branches.{branches}
use Rattle.lexer.specs.Advancing.{begun_at}
use Rattle.lexer.proofs.begun.Goals as goal

pub returns-then-mode-lt-SIGN : goal.returns-then-mode-lt-SIGN
unfolding begun_at
returns-then-mode-lt-SIGN c = search branches

pub returns-then-mode-eq-SIGN : goal.returns-then-mode-eq-SIGN
unfolding begun_at
returns-then-mode-eq-SIGN c = search branches

pub returns : goal.returns
unfolding begun_at
returns c = rw c.digit.ensures (search branches)
