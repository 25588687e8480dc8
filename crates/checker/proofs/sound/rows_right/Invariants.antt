-- The loop's invariant: the rows passed have right numbers, and `entries` phi entries.
use Rattle.checker.proofs.RowsLaws.{Rows}
use Rattle.checker.proofs.sound.rows_right.Given as goal

abbrev pub invariant-loop-k : goal.invariant-loop-k
invariant-loop-k l = Rows l.t l.a l.k l.entries
