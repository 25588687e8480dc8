-- `read_phis`: the first i numbers of the scratch are those read, and e is where the entry of the next phi stands.
use mathlib.Core.Path.{◌≡◌}
use Prim.Native.Nat.{◌+◌, ◌≤◌, ◌<◌}
use lib.ListN.{length}
use Rattle.language.specs.Table.{phi_first}
use Rattle.machine.specs.Phis.{Taken}
use Rattle.machine.proofs.phis.read_phis.Given as goal

abbrev pub invariant-loop-i : goal.invariant-loop-i
invariant-loop-i l =
    (l.i ≤ l.n) × (length l.taken ≡ length l.initial.taken) × Taken l.t l.a l.first l.i l.k l.registers l.taken × (l.i < l.n → l.e ≡ phi_first l.t l.a (l.first + l.i) + l.k)
