-- `lexer::runs::line_ends`: none of the bytes passed is LF.
use Rattle.lexer.specs.Runs.{in_line, Run}
use Rattle.lexer.proofs.runs.line_ends.Given as goal

abbrev pub invariant-loop-j : goal.invariant-loop-j
invariant-loop-j l = Run in_line l.text l.i l.j
