-- The loop's invariant: the types passed are as asked for.
use mathlib.Core.Path.{◌≡◌}
use Prim.Native.Nat.{ℕ, ◌-◌, ◌≤◌, ◌<◌}
use lib.ListN.{length, get_or}
use Rattle.language.specs.Table.{register_type}
use Rattle.ial.proofs.signature.has_types.Given as goal

abbrev pub invariant-loop-r : goal.invariant-loop-r
invariant-loop-r l = (l.r ≤ length l.types) × ((k : ℕ) → k < l.r → register_type l.t l.a k ≡ get_or l.types k 0)
