-- `lexer::runs::name_end`: every byte passed is one of a name.
use Prim.Native.Nat.{◌+◌, ◌≤◌}
use Rattle.language.specs.Bytes.{name_byte}
use Rattle.lexer.specs.Runs.{Run}
use Rattle.lexer.proofs.runs.name_end.Given as goal

abbrev pub invariant-loop-i : goal.invariant-loop-i
invariant-loop-i l = Run name_byte l.text (l.start + 1) l.i × (l.i ≤ l.end)
