-- The loop's invariant: x is what is noted of the first b blocks.
use Prim.Native.Nat.{◌≤◌}
use mathlib.Core.Path.{◌≡◌}
use Rattle.language.specs.Table.{decode_function}
use Rattle.checker.specs.Lows.{low_of, IsOfRow}
use Rattle.checker.proofs.FormsLaws.{noted_blocks}
use Rattle.checker.proofs.forms.note_blocks.Given as goal

abbrev pub invariant-loop-b : goal.invariant-loop-b
invariant-loop-b l = (l.b ≤ l.blocks) × (low_of l.x ≡ noted_blocks (decode_function l.t l.a) l.b) × IsOfRow l.x
