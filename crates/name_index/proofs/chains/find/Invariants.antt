-- The loop's invariant: a name of these bytes is in the chain that is left.
use Prim.Native.Nat.{ℕ, ◌≤◌, ◌<◌}
use mathlib.Core.Bool.{true}
use mathlib.Core.Path.{◌≡◌}
use Rattle.table.specs.Named.{is_named}
use Rattle.name_index.specs.Chains.{Chained}
use Rattle.name_index.proofs.chains.find.Given as goal

abbrev pub invariant-loop-y : goal.invariant-loop-y
invariant-loop-y l = (l.y ≤ l.count) × ((j : ℕ) → j < l.count → is_named l.t l.at l.stride l.name j ≡ true → Chained l.before l.y j)

abbrev pub decreases-loop-y : goal.decreases-loop-y
decreases-loop-y l = l.y
