-- A kept row: its cells, with the blocks that a terminator names renamed.
-- Assumes nothing.
use mathlib.Core.Path.{◌≡◌, refl, ap, ◌∙◌}
use mathlib.Core.Bool.{true, false, true≢false}
use mathlib.Core.List.{List}
use Prim.Native.Nat.{ℕ, ◌+◌, ◌≤◌, ◌<◌}
use native.Mathlib.Omega.{arith}
use lib.Dec.{eqb, ltb, lit<, ltb→lt}
use lib.ListN.{length, get_or}
use borrow.Author.Tests.{eq-eqb}
use Rattle.laws.specs.Lists.{position}
use Rattle.laws.specs.Sections.{pad}
use Rattle.laws.proofs.Indexing.{any_at, all_at}
use Rattle.language.specs.Instructions.{Form, form_of}
use Rattle.language.specs.Programs.{Row, Func, rows_at, is_phi, is_terminator, named_by, op_of}
use Rattle.language.specs.Checking.{goes_to, last_row}
use Rattle.language.specs.Table.{row_cells, row_op, jump_first, jump_second, block_count, stored_predecessors, decode_as, decode_function}
use Rattle.language.specs.Translating.{edge_of, retargeted, retarget, translation}
use Rattle.instructions.specs.Shapes.{shape_of}
use Rattle.language.proofs.TableLaws.{eight_of_one, eight_of_ones}
use Rattle.language.proofs.TableView.{block_count_law, stored_is}
use Rattle.theorems.specs.Clean.{Clean}
use Rattle.theorems.proofs.SimulationRows.{row_of, in_range_law, last_row_law, named_known}
use Rattle.theorems.proofs.AcceptanceNumbers.{retargeted_lt}
use Rattle.predecessors.proofs.SearchLaws.{stored_ascends}
use Rattle.flow.specs.Layout.{phis_in}
use Rattle.flow.specs.Prepared.{Prepared}
use Rattle.flow.specs.Sized.{Sized}
use Rattle.translator.specs.Source.{Planned, Nameable, renamed_as, kept_operand, kept_cells}
use Rattle.translator.proofs.Counting.{by_count}
use Rattle.translator.proofs.SizesLaws.{phis_here}

-- ---- the blocks a row names

-- Block y, which block x names, goes by the plan to the block that the definition names.
module _ (t : List ℕ) (a : ℕ) (m plan : List ℕ) where
  pub record Renamed (x y : ℕ) : Type 0 where
    pub names : Nameable t a y
    pub is : renamed_as t a m plan x y ≡ retargeted (decode_function t a) x y
    pub byte : retargeted (decode_function t a) x y < 256

  abbrev pub Renames : ℕ → Row → Type 0
  Renames x Row.nop = Unit {0}
  Renames x (Row.load op t n) = Unit {0}
  Renames x (Row.unary op t s) = Unit {0}
  Renames x (Row.binary op t l r) = Unit {0}
  Renames x (Row.phi t es) = Unit {0}
  Renames x (Row.jump y) = Renamed x y
  Renames x (Row.branch s y z) = Renamed x y × Renamed x z
  Renames x (Row.return s) = Unit {0}
  Renames x Row.leave = Unit {0}
  Renames x (Row.unknown op) = Unit {0}

module _ (t : List ℕ) (a : ℕ) (s : Sized t a) (c : Clean (decode_function t a)) (m plan : List ℕ) (p : Prepared (decode_function t a) m) (q : Planned (decode_function t a) plan) (small : length (translation (decode_function t a)).blocks ≤ 64) where
  abbrev f : Func
  f = decode_function t a

  -- the place among the predecessors that y keeps is the one among those it has
  renamed_is : (x y : ℕ) → y < block_count t a → renamed_as t a m plan x y ≡ retargeted f x y
  unfolding renamed_as retargeted edge_of
  renamed_is x y l =
      rw (by_count f c y (phis_in m y) y (get_or plan y 0 + position (λ z. eqb z x) (stored_predecessors t a y)) (phis_here t a m p c y l), q.first y (rw (block_count_law t a) l), stored_is t a s.placed y l)

  module _ (x j : ℕ) (lx : x < length f.blocks) (h : j < length (rows_at f x)) where
    -- only a terminator names blocks, and it is the last row
    renamed_at : (row : Row) → row_of f x j ≡ row → is_terminator row ≡ true → (k : ℕ) → k < length (named_by row) → Renamed t a m plan x (get_or (named_by row) k 0)
    unfolding goes_to
    renamed_at row e end k l =
        let last : named_by (last_row (rows_at f x)) ≡ named_by row = ap named_by (last_row_law f c x j h (ap is_terminator e ∙ end) ∙ e) in
        let y = get_or (named_by row) k 0 in
        let known : y < length f.blocks = ltb→lt y (length f.blocks) (all_at (λ b. ltb b (length f.blocks)) (named_by row) k 0 (rw e at (named_known f (row_of f x j) (in_range_law f c x j h))) l) in
        let goes : goes_to f x y ≡ true = rw last (any_at (λ z. eqb z y) (named_by row) k 0 l (eq-eqb y y refl)) in
        let here : y < block_count t a = rw (block_count_law t a) at known in
        record { names = record { below = omega (arith, s.blocks); ascends = stored_ascends t a s.placed y here }; is = renamed_is x y here; byte = omega (arith, retargeted_lt f x y lx known goes) }

    pub renames : (row : Row) → row_of f x j ≡ row → Renames t a m plan x row
    renames Row.nop e = tt
    renames (Row.load op u n) e = tt
    renames (Row.unary op u v) e = tt
    renames (Row.binary op u l r) e = tt
    renames (Row.phi u es) e = tt
    renames (Row.jump y) e = renamed_at (Row.jump y) e refl 0 (lit< tt)
    renames (Row.branch u y z) e = (renamed_at (Row.branch u y z) e refl 0 (lit< tt), renamed_at (Row.branch u y z) e refl 1 (lit< tt))
    renames (Row.return u) e = tt
    renames Row.leave e = tt
    renames (Row.unknown op) e = tt

-- ---- the cells of a kept row

module _ (t : List ℕ) (a : ℕ) (m plan : List ℕ) (x r : ℕ) where
  pub cells_as_law : (g : Form) → form_of (row_op t a r) ≡ g → op_of (decode_as g t a r) ≡ row_op t a r → is_phi (decode_as g t a r) ≡ false → Renames t a m plan x (decode_as g t a r)
      → row_cells 0 (retarget (decode_function t a) x (decode_as g t a r)) ≡ kept_cells t a m plan x r
  unfolding pad row_cells retarget decode_as kept_cells kept_operand shape_of
  cells_as_law Form.nop e o n k = rw (e, ← o)
  cells_as_law Form.load e o n k = rw e
  cells_as_law Form.unary e o n k = rw e
  cells_as_law Form.binary e o n k = rw e
  cells_as_law Form.phi e o n k = absurd (true≢false n)
  cells_as_law Form.jump e o n k = rw (e, ← o, k.is, eight_of_one (retargeted (decode_function t a) x (jump_first t a r)) k.byte)
  cells_as_law Form.branch e o n k =
      rw (e, ← o, k.0.is, k.1.is, eight_of_ones (retargeted (decode_function t a) x (jump_first t a r)) (retargeted (decode_function t a) x (jump_second t a r)) k.0.byte k.1.byte)
  cells_as_law Form.return e o n k = rw (e, ← o)
  cells_as_law Form.leave e o n k = rw (e, ← o)
  cells_as_law Form.unknown e o n k = rw e
