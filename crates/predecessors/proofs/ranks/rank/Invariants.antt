-- The loop's invariant: no cell before k is block x.
use mathlib.Core.Path.{◌≡◌}
use mathlib.Core.Bool.{false}
use Prim.Native.Nat.{ℕ, ◌≤◌, ◌<◌}
use lib.Dec.{eqb}
use Rattle.language.specs.Table.{predecessor_at}
use Rattle.predecessors.proofs.ranks.rank.Given as goal

abbrev pub invariant-loop-k : goal.invariant-loop-k
invariant-loop-k l = (l.k ≤ l.n) × ((i : ℕ) → i < l.k → eqb (predecessor_at l.t l.a l.b i) l.x ≡ false)
