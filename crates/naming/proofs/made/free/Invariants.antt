-- The loop's invariant: every number passed is marked, so that those left to come are fewer by as many.
use mathlib.Core.Path.{◌≡◌}
use Prim.Native.Nat.{ℕ, ◌+◌, ◌-◌, ◌≤◌, ◌<◌}
use lib.ListN.{get_or, drop}
use Rattle.laws.specs.Lists.{sum}
use Rattle.naming.proofs.made.free.Given as goal

abbrev pub invariant-loop-next : goal.invariant-loop-next
invariant-loop-next l =
    (l.k ≤ l.next) × (l.next + sum (drop l.next l.marks) ≤ l.k + sum (drop l.k l.marks)) × ((j : ℕ) → l.k ≤ j → j < l.next → get_or l.marks j 0 ≡ 0 → ⊥)

abbrev pub decreases-loop-next : goal.decreases-loop-next
decreases-loop-next l = 513 - l.next
