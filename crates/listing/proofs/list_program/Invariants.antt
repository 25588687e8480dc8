-- The loop's invariant: the lines of the functions passed are written, and each has its room.
use Prim.Native.Nat.{◌-◌, ◌*◌, ◌≤◌}
use Rattle.decimal.specs.Writing.{Written}
use Rattle.listing.proofs.Lines.{lines_of}
use Rattle.listing.specs.Lines.{line_most}
use Rattle.listing.proofs.list_program.Given as goal

abbrev pub invariant-loop-i : goal.invariant-loop-i
invariant-loop-i l = (l.at ≤ line_most * l.i) × Written l.initial.out 0 (lines_of l.t l.i) l.out l.at
