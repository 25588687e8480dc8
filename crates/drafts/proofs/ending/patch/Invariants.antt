-- The loop's invariant: the first r rows are patched.
use mathlib.Core.Path.{◌≡◌}
use Prim.Native.Nat.{◌≤◌}
use lib.ListN.{length}
use Rattle.drafts.specs.Ending.{patch_rows}
use Rattle.drafts.proofs.ending.patch.Given as goal

abbrev pub invariant-loop-r : goal.invariant-loop-r
invariant-loop-r l = (l.r ≤ l.rows) × (length l.f ≡ length l.initial.f) × (l.f ≡ patch_rows l.initial.f l.found l.r)
