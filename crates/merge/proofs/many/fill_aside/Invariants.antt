-- `fill_aside`: the copy begins as the store, and from one part to the next less is still to come.
use mathlib.Core.Path.{◌≡◌}
use Prim.Native.Nat.{◌-◌, ◌%◌, ◌≤◌}
use lib.ListN.{length}
use Rattle.records.specs.Stores.{store_length}
use Rattle.merge.specs.Tries.{Underway}
use Rattle.merge.proofs.ManyLaws.{all, rest_of}
use Rattle.merge.proofs.many.fill_aside.Given as goal

abbrev pub invariant-loop-k : goal.invariant-loop-k
invariant-loop-k l =
    (length l.aside ≡ store_length) × (l.k % 4 ≡ 0) × (l.k ≤ length l.records) × Underway l.store (all l.table l.function l.budget l.records) (rest_of l.table l.function l.budget l.records l.k) l.aside

abbrev pub decreases-loop-k : goal.decreases-loop-k
decreases-loop-k l = length l.records - l.k
