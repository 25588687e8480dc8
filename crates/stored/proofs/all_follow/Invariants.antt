-- `all_follow`: those passed follow.
use Prim.Native.Nat.{◌≤◌}
use Rattle.stored.specs.Known.{AllFollow}
use Rattle.stored.proofs.all_follow.Given as goal

abbrev pub invariant-loop-i : goal.invariant-loop-i
invariant-loop-i l = (l.i ≤ l.n) × AllFollow l.s l.i
