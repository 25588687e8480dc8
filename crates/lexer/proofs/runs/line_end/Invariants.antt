-- `lexer::runs::line_end`: none of the bytes passed is LF.
use Prim.Native.Nat.{◌≤◌}
use lib.ListN.{length}
use Rattle.lexer.specs.Runs.{in_line, Run}
use Rattle.lexer.proofs.runs.line_end.Given as goal

abbrev pub invariant-loop-i : goal.invariant-loop-i
invariant-loop-i l = Run in_line l.text l.from l.i × (l.i ≤ length l.text)
