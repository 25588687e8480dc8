-- A block that is none of n changes nothing; of another one more is seen.
use native.Mathlib.Omega.{arith}
use borrow.Author.Tests.{le-leb}
use Rattle.predecessors.proofs.ComparingLaws.{one_agrees, one_seen}
use Rattle.predecessors.proofs.comparing.agrees.Goals as goal

pub returns-in_default : goal.returns-in_default
returns-in_default c = rw c.in_default.is (simp (le-leb c.args.n 255 (omega arith)), simp (le-leb c.args.n 255 (omega arith)))

pub returns-then-n-y : goal.returns-then-n-y
returns-then-n-y c = rw c.in-Some.is (simp (le-leb _ _ c.if-n-y.true), simp (le-leb _ _ c.if-n-y.true))

pub overflow_cast-seen : goal.overflow_cast-seen
overflow_cast-seen c = (let small = rw c.in-Some.is at c.requires.3 in omega (arith, small (omega arith)))

pub returns : goal.returns
returns c = rw c.in-Some.is (search (one_agrees, one_seen))
