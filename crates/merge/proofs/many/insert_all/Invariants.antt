-- `insert_all`: what is still to come, from one to the next.
use mathlib.Core.List.{map}
use mathlib.Core.Path.{◌≡◌}
use Prim.Native.Nat.{◌-◌, ◌/◌}
use lib.ListN.{length}
use Rattle.laws.specs.Lists.{from}
use Rattle.records.specs.Stores.{inserts}
use Rattle.merge.specs.Tries.{record_by, records_by, Underway}
use Rattle.merge.proofs.many.insert_all.Given as goal

abbrev pub invariant-loop-j : goal.invariant-loop-j
invariant-loop-j l =
    (length l.s ≡ length l.initial.s) × Underway l.initial.s (inserts (records_by l.tests l.answers)) (map (record_by l.tests l.answers) (from l.j (length l.tests / 4 - l.j))) l.s

abbrev pub decreases-loop-j : goal.decreases-loop-j
decreases-loop-j l = length l.tests / 4 - l.j
