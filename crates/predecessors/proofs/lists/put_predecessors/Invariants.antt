-- The loop's invariant: every function that stood there without lists stands there with what the blocks before x give.
use mathlib.Core.Path.{◌≡◌}
use mathlib.Core.List.{List}
use Prim.Native.Nat.{ℕ, ◌≤◌}
use lib.ListN.{length}
use Rattle.language.specs.Programs.{Func}
use Rattle.language.specs.Table.{block_count}
use Rattle.predecessors.specs.Ranked.{lists_before}
use Rattle.predecessors.specs.Listing.{FunctionStands, no_lists}
use Rattle.predecessors.proofs.lists.put_predecessors.Given as goal

abbrev pub invariant-loop-x : goal.invariant-loop-x
invariant-loop-x l =
    (l.x ≤ l.n) × (length l.t ≡ length l.initial.t) × (block_count l.t l.a ≡ l.n)
    × ((g : Func) (before behind : List ℕ) → FunctionStands l.initial.t l.a (no_lists g) g before behind → FunctionStands l.t l.a (lists_before g l.x) g before behind)
