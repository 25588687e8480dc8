-- The loop's invariant: so far block x lists and terminators agree.
use Prim.Native.Nat.{◌≤◌}
use Rattle.predecessors.specs.Comparing.{Agreed}
use Rattle.predecessors.proofs.comparing.predecessors_kept.Given as goal

abbrev pub invariant-loop-x : goal.invariant-loop-x
invariant-loop-x l = (l.x ≤ l.n) × Agreed l.t l.a l.seen l.x
