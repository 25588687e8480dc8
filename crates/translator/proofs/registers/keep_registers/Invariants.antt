-- The loop's invariant: the first r registers are put down.
use Prim.Native.Nat.{◌≤◌}
use mathlib.Core.Path.{◌≡◌}
use lib.ListN.{length}
use Rattle.language.specs.Table.{register_count, table_length}
use Rattle.translator.specs.Source.{declared}
use Rattle.translator.proofs.registers.keep_registers.Given as goal

abbrev pub invariant-loop-r : goal.invariant-loop-r
invariant-loop-r l = (l.n ≡ register_count l.t l.a) × (l.r ≤ l.n) × (length l.out ≡ length l.initial.out) × (length l.initial.out ≡ table_length) × (l.out ≡ declared l.t l.a l.r)
