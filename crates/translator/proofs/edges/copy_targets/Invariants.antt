-- The loop's invariant: the first i targets are written.
use Prim.Native.Nat.{ℕ, ◌+◌, ◌≤◌, ◌<◌}
use mathlib.Core.Path.{◌≡◌}
use lib.ListN.{length}
use Rattle.language.specs.Table.{block_first, table_length}
use Rattle.flow.specs.Layout.{phis_in}
use Rattle.translator.specs.Source.{built, edge_number}
use Rattle.translator.proofs.EdgesLaws.{Bounds}
use Rattle.translator.proofs.edges.copy_targets.Given as goal

abbrev pub invariant-loop-i : goal.invariant-loop-i
invariant-loop-i l =
    (l.p ≡ phis_in l.m l.y) × (l.first ≡ block_first l.t l.a l.y) × (l.i ≤ l.p) × (length l.out ≡ length l.initial.out) × (length l.initial.out ≡ table_length)
    × ((v : ℕ) → v < l.p → Bounds l.t l.a l.j l.n l.k l.p l.first v)
    × (l.out ≡ built l.t l.a (edge_number l.t l.a l.y l.j + 1) (l.k + l.p + l.i))
