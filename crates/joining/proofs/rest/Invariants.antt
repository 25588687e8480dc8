-- The loop's invariant: the first d records are put.
use Prim.Native.Nat.{◌-◌, ◌≤◌}
use mathlib.Core.Path.{◌≡◌}
use lib.ListN.{length}
use Rattle.joining.proofs.Parts.{Put}
use Rattle.joining.proofs.rest.Given as goal

abbrev pub invariant-loop-d : goal.invariant-loop-d
invariant-loop-d l = (l.d ≤ l.n - l.i) × (length l.out ≡ length l.initial.out) × Put l.s l.initial.out l.i l.w l.d l.out
