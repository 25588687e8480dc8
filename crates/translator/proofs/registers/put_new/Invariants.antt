-- The loop's invariant: the first i new registers are put down.
use Prim.Native.Nat.{◌+◌, ◌≤◌}
use mathlib.Core.Path.{◌≡◌}
use lib.ListN.{length}
use Rattle.language.specs.Table.{block_first, decode_function, table_length}
use Rattle.theorems.proofs.SimulationRows.{phis_at}
use Rattle.translator.specs.Source.{declared}
use Rattle.translator.proofs.registers.put_new.Given as goal

abbrev pub invariant-loop-i : goal.invariant-loop-i
invariant-loop-i l =
    (l.p ≡ length (phis_at (decode_function l.t l.a) l.y)) × (l.first ≡ block_first l.t l.a l.y) × (l.i ≤ l.p) × (l.n + l.p ≤ 256) × (length l.out ≡ length l.initial.out) × (length l.initial.out ≡ table_length)
    × (l.out ≡ declared l.t l.a (l.n + l.i))
