-- The loop's invariant: the bytes passed agree. Lists as long that agree at each index are equal.
use Rattle.table.specs.Named.{CellsAgree}
use Rattle.table.proofs.names.same.Given as goal

abbrev pub invariant-loop-i : goal.invariant-loop-i
invariant-loop-i l = CellsAgree l.a l.b l.i
