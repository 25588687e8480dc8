-- The loop's invariant: the names before i are given or have their numbers.
use mathlib.Core.Path.{◌≡◌}
use lib.ListN.{length}
use Rattle.naming.specs.Numbers.{prefix_of}
use Rattle.naming.proofs.MadeLaws.{Going}
use Rattle.naming.proofs.made.number_names.Given as goal

abbrev pub invariant-loop-i : goal.invariant-loop-i
invariant-loop-i l =
    Going (prefix_of l.first) l.t l.at l.stride l.count l.kept l.marks l.i l.next l.made × (length l.made ≡ length l.initial.made)
