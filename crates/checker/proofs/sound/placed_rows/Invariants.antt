-- The loop's invariant: the blocks passed are in sequence, and n is the number of their rows.
use Rattle.checker.proofs.RowsLaws.{Blocks}
use Rattle.checker.proofs.sound.placed_rows.Given as goal

abbrev pub invariant-loop-b : goal.invariant-loop-b
invariant-loop-b l = Blocks l.t l.a l.b l.n
