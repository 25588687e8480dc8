-- The loop's invariant: the rows before the block and its first j are noted.
use Prim.Native.Nat.{◌+◌, ◌≤◌}
use Rattle.language.specs.Table.{decode_function}
use Rattle.flow.specs.Assignments.{Noted}
use Rattle.flow.proofs.assignments.note_rows.Given as goal

abbrev pub invariant-loop-j : goal.invariant-loop-j
invariant-loop-j l = (l.j ≤ l.rows) × Noted (decode_function l.t l.a) l.m (l.first + l.j)
