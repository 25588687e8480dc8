-- The loop's invariant: the first y blocks are planned.
use mathlib.Core.Path.{◌≡◌}
use Rattle.language.specs.Table.{block_count, decode_function}
use Rattle.translator.proofs.SizesLaws.{Planning}
use Rattle.translator.proofs.sizes.plan_edges.Given as goal

abbrev pub invariant-loop-y : goal.invariant-loop-y
invariant-loop-y l = (l.n ≡ block_count l.t l.a) × Planning (decode_function l.t l.a) l.plan l.next l.y
