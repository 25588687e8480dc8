-- The loop's invariant: what stands before `low` is smaller than x.
use Prim.Native.Nat.{ℕ, ◌≤◌, ◌<◌, ◌-◌}
use Rattle.language.specs.Table.{predecessor_at}
use Rattle.predecessors.proofs.ranks.skipped.Given as goal

abbrev pub invariant-loop-low : goal.invariant-loop-low
invariant-loop-low l = (l.low ≤ l.high) × (l.high ≤ l.n) × ((i : ℕ) → i < l.low → predecessor_at l.t l.a l.b i < l.x)

abbrev pub decreases-loop-low : goal.decreases-loop-low
decreases-loop-low l = l.high - l.low
