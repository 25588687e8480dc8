-- The loop's invariant: the blocks of the first k names are there, and stand in `found`.
use Prim.Native.Nat.{ℕ, ◌≤◌, ◌<◌}
use mathlib.Core.Path.{◌≡◌}
use lib.ListN.{length, get_or}
use Rattle.drafts.specs.Ending.{block_named}
use Rattle.drafts.proofs.ending.resolve.Given as goal

abbrev pub invariant-loop-k : goal.invariant-loop-k
invariant-loop-k l =
    (l.k ≤ l.names) × (length l.found ≡ length l.initial.found)
    × ((j : ℕ) → j < l.k → (get_or l.found j 0 ≡ block_named l.f l.blocks l.pend j) × (block_named l.f l.blocks l.pend j < l.blocks))
