-- The loop's invariant: the blocks before b keep as many as were seen.
use mathlib.Core.Path.{◌≡◌}
use mathlib.Core.Bool.{true}
use Prim.Native.Nat.{ℕ, ◌≤◌, ◌<◌}
use lib.Dec.{eqb}
use lib.ListN.{get_or}
use Rattle.language.specs.Table.{predecessor_count}
use Rattle.predecessors.proofs.comparing.counted.Given as goal

abbrev pub invariant-loop-b : goal.invariant-loop-b
invariant-loop-b l = (l.b ≤ l.n) × ((i : ℕ) → i < l.b → eqb (predecessor_count l.t l.a i) (get_or l.seen i 0) ≡ true)
