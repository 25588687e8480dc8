-- `start`: the cells before i are those of the arguments followed by zeros.
use mathlib.Core.Path.{◌≡◌}
use Prim.Native.Nat.{◌≤◌}
use lib.ListN.{length}
use Rattle.machine.specs.Phis.{Upto}
use Rattle.machine.proofs.StartsLaws.{start_cell}
use Rattle.machine.proofs.starts.start.Given as goal

abbrev pub invariant-loop-i : goal.invariant-loop-i
invariant-loop-i l = (l.i ≤ length l.args) × (length l.registers ≡ length l.initial.registers) × Upto (start_cell l.args) l.i l.registers

abbrev pub invariant-loop-i-2 : goal.invariant-loop-i-2
invariant-loop-i-2 l = (length l.args ≤ l.i) × (l.i ≤ length l.initial.registers) × (length l.registers ≡ length l.initial.registers) × Upto (start_cell l.args) l.i l.registers
