-- Two stores, of the low byte and the next, are the run of the two bytes.
use lib.ListN.{length-set}
use native.Mathlib.Numerals.{add-one}
use native.Mathlib.Omega.{arith}
use Rattle.numbers.proofs.stores.put_two.Goals as goal

pub bounds-t-k-2 : goal.bounds-t-k-2
bounds-t-k-2 c = simp length-set (omega arith)

pub returns : goal.returns
returns c = rw (add-one, c.low.ensures, c.low-2.ensures)
