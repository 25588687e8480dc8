-- The loop's invariant: the cells from j on have moved.
use mathlib.Core.Path.{◌≡◌}
use Prim.Native.Nat.{◌≤◌}
use lib.ListN.{length}
use Rattle.numbers.specs.Moving.{moved}
use Rattle.numbers.proofs.moves.move_up.Given as goal

abbrev pub invariant-loop-j : goal.invariant-loop-j
invariant-loop-j l = (l.at ≤ l.j) × (l.j ≤ l.end) × (length l.s ≡ length l.initial.s) × (l.s ≡ moved l.initial.s l.j l.end l.by)
