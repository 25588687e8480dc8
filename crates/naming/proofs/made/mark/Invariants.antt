-- The loop's invariant: the numbers of the names passed are marked.
use Prim.Native.Nat.{◌≤◌}
use Rattle.naming.specs.Numbers.{prefix_of}
use Rattle.naming.specs.Numbered.{Marked}
use Rattle.naming.proofs.made.mark.Given as goal

abbrev pub invariant-loop-i : goal.invariant-loop-i
invariant-loop-i l = (l.i ≤ l.count) × Marked (prefix_of l.first) l.t l.at l.stride l.i l.marks
