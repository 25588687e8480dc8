-- `write_phis`: the targets of the first i phi are phis_written.
use mathlib.Core.Path.{◌≡◌}
use Prim.Native.Nat.{◌≤◌}
use Rattle.machine.specs.Phis.{phis_written}
use Rattle.machine.proofs.phis.write_phis.Given as goal

abbrev pub invariant-loop-i : goal.invariant-loop-i
invariant-loop-i l = (l.i ≤ l.n) × (l.registers ≡ phis_written l.t l.a l.first l.k l.initial.registers l.i)
