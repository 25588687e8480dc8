-- `store::at_least` meets its contract: each return is the case that its tests lead to. Assumes nothing.
use native.Mathlib.Omega.{arith}
use Rattle.store.proofs.WinnerLaws.{both_low, both_high, low_over_high, high_under_low}
use Rattle.store.proofs.winner.at_least.Goals as goal

pub returns-then-b-ge-NEGATIVE : goal.returns-then-b-ge-NEGATIVE
returns-then-b-ge-NEGATIVE c = let args = c.args in low_over_high args.a args.b (omega arith) (omega arith) (omega arith)

pub returns-then-a-lt-NEGATIVE : goal.returns-then-a-lt-NEGATIVE
returns-then-a-lt-NEGATIVE c = let args = c.args in both_low args.a args.b (omega arith) (omega arith)

pub returns-then-b-lt-NEGATIVE : goal.returns-then-b-lt-NEGATIVE
returns-then-b-lt-NEGATIVE c = let args = c.args in high_under_low args.a args.b (omega arith) (omega arith) (omega arith)

pub returns : goal.returns
returns c = let args = c.args in both_high args.a args.b (omega arith) (omega arith) (omega arith) (omega arith)
