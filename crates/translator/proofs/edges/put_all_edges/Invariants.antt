-- The loop's invariant: the edges to the first y blocks are put down.
use Prim.Native.Nat.{◌+◌, ◌≤◌}
use mathlib.Core.Path.{◌≡◌}
use lib.ListN.{length}
use Rattle.language.specs.Programs.{first_row}
use Rattle.language.specs.Table.{block_count, decode_function}
use Rattle.language.specs.Translating.{pairs_before, new_register}
use Rattle.translator.specs.Source.{translated, built}
use Rattle.translator.proofs.edges.put_all_edges.Given as goal

abbrev pub invariant-loop-y : goal.invariant-loop-y
invariant-loop-y l =
    (l.blocks ≡ block_count l.t l.a) × (l.y ≤ l.blocks) × (l.n ≡ new_register (decode_function l.t l.a) l.y) × (l.b ≡ block_count l.t l.a + pairs_before (decode_function l.t l.a) l.y)
    × (l.r ≡ first_row (translated l.t l.a) l.b) × (length l.out ≡ length l.initial.out) × (l.out ≡ built l.t l.a l.b l.r)
