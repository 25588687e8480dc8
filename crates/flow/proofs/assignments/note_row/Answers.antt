-- By its number the row has a target or none.
use mathlib.Core.Path.{◌≡◌}
use mathlib.Core.List.{List, [], ◌∷◌}
use Prim.Native.Nat.{ℕ}
use Rattle.language.specs.Programs.{targets_of}
use Rattle.language.specs.Table.{decode_row, row_target}
use Rattle.flow.specs.Assignments.{with_note, with_notes}
use Rattle.flow.proofs.AssignmentLaws.{nop_targets, end_targets, own_target}
use Rattle.flow.proofs.assignments.note_row.Goals as goal

no_target : (t : List ℕ) (a k : ℕ) (m : List ℕ) (b : ℕ) → targets_of (decode_row t a k) ≡ [] → m ≡ with_notes m b k (targets_of (decode_row t a k))
no_target t a k m b e = rw e

one_target : (t : List ℕ) (a k : ℕ) (m m' : List ℕ) (b u : ℕ) → targets_of (decode_row t a k) ≡ row_target t a k ∷ [] → u ≡ row_target t a k → m' ≡ with_note m u b k
    → m' ≡ with_notes m b k (targets_of (decode_row t a k))
one_target t a k m m' b u e p q = rw (e, ← p) q

pub returns-then-op-eq-NOP : goal.returns-then-op-eq-NOP
returns-then-op-eq-NOP c = search (no_target, nop_targets)

pub returns-then-is_terminator : goal.returns-then-is_terminator
returns-then-is_terminator c = search (no_target, end_targets)

pub returns : goal.returns
returns c = search (one_target, own_target)
