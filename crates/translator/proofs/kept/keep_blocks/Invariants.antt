-- The loop's invariant: the first x blocks are put down.
use Prim.Native.Nat.{◌≤◌}
use mathlib.Core.Path.{◌≡◌}
use lib.ListN.{length}
use Rattle.language.specs.Programs.{first_row}
use Rattle.language.specs.Table.{block_count}
use Rattle.translator.specs.Source.{translated, built}
use Rattle.translator.proofs.kept.keep_blocks.Given as goal

abbrev pub invariant-loop-x : goal.invariant-loop-x
invariant-loop-x l = (l.n ≡ block_count l.t l.a) × (l.x ≤ l.n) × (l.k ≡ first_row (translated l.t l.a) l.x) × (length l.out ≡ length l.initial.out) × (l.out ≡ built l.t l.a l.x l.k)
