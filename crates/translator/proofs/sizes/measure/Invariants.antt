-- The loop's invariant: the sizes of the first b blocks are counted.
use mathlib.Core.Path.{◌≡◌}
use Rattle.language.specs.Table.{block_count}
use Rattle.translator.proofs.SizesLaws.{Measured}
use Rattle.translator.proofs.sizes.measure.Given as goal

abbrev pub invariant-loop-b : goal.invariant-loop-b
invariant-loop-b l = (l.n ≡ block_count l.t l.a) × Measured l.t l.a l.n l.new l.edges l.rows l.b
