-- The loop's invariant: the leading phi of the blocks before b are put down.
use Prim.Native.Nat.{◌≤◌}
use Rattle.language.specs.Table.{decode_function}
use Rattle.flow.specs.Leading.{Led}
use Rattle.flow.proofs.leading.prepare_leading.Given as goal

abbrev pub invariant-loop-b : goal.invariant-loop-b
invariant-loop-b l = (l.b ≤ l.b-end) × Led (decode_function l.t l.a) l.initial.m l.m l.b
