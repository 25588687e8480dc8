-- The loop's invariant: x is what is noted of the first j rows of the block.
use Prim.Native.Nat.{◌≤◌}
use mathlib.Core.Path.{◌≡◌}
use Rattle.language.specs.Table.{decode_function}
use Rattle.checker.specs.Lows.{low_of, IsOfRow}
use Rattle.checker.proofs.FormsLaws.{noted_upto}
use Rattle.checker.proofs.forms.note_block.Given as goal

abbrev pub invariant-loop-j : goal.invariant-loop-j
invariant-loop-j l = (l.j ≤ l.rows) × (low_of l.x ≡ noted_upto (decode_function l.t l.a) l.b (low_of l.initial.x) l.j) × IsOfRow l.x
