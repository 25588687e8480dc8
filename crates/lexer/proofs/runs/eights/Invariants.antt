-- `lexer::runs::eights`: none of the bytes passed is LF.
use Prim.Native.Nat.{◌+◌, ◌*◌}
use Rattle.lexer.specs.Runs.{in_line, Run}
use Rattle.lexer.proofs.runs.eights.Given as goal

abbrev pub invariant-loop-k : goal.invariant-loop-k
invariant-loop-k l = Run in_line l.text l.from (l.from + 8 * l.k)
