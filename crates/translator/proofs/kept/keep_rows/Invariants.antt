-- The loop's invariant: the first i rows are put down.
use Prim.Native.Nat.{◌+◌, ◌≤◌}
use mathlib.Core.Path.{◌≡◌}
use lib.ListN.{length}
use Rattle.translator.specs.Source.{built}
use Rattle.language.specs.Table.{table_length}
use Rattle.translator.proofs.kept.keep_rows.Given as goal

abbrev pub invariant-loop-i : goal.invariant-loop-i
invariant-loop-i l = (l.i ≤ l.n) × (length l.out ≡ length l.initial.out) × (length l.initial.out ≡ table_length) × (l.out ≡ built l.t l.a (l.x + 1) (l.k + l.i))
