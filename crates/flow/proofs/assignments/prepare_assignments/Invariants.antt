-- The loop's invariant: the rows before block b are noted.
use Prim.Native.Nat.{◌≤◌}
use Rattle.language.specs.Table.{rows_before, decode_function}
use Rattle.flow.specs.Assignments.{Noted}
use Rattle.flow.proofs.assignments.prepare_assignments.Given as goal

abbrev pub invariant-loop-b : goal.invariant-loop-b
invariant-loop-b l = (l.b ≤ l.b-end) × Noted (decode_function l.t l.a) l.m (rows_before l.t l.a l.b)
