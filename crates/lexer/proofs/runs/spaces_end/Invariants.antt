-- `lexer::runs::spaces_end`: every byte passed is a space.
use Prim.Native.Nat.{◌≤◌}
use lib.ListN.{length}
use Rattle.lexer.specs.Runs.{is_space, Run}
use Rattle.lexer.proofs.runs.spaces_end.Given as goal

abbrev pub invariant-loop-i : goal.invariant-loop-i
invariant-loop-i l = Run is_space l.text l.from l.i × (l.i ≤ length l.text)
