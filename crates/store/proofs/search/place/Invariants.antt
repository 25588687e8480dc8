-- `store::place` meets its contract: the place is one of `lo` and the next `left`, which are halved. Assumes nothing.
use Prim.Native.Nat.{◌+◌}
use Rattle.store.proofs.SearchLaws.{Between}
use Rattle.store.proofs.search.place.Given as goal

abbrev pub invariant-loop-left : goal.invariant-loop-left
invariant-loop-left l = Between l.s l.n l.a l.lo (l.lo + l.left)

abbrev pub decreases-loop-left : goal.decreases-loop-left
decreases-loop-left l = l.left
