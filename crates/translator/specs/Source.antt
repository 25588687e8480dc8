-- What is translated, and what is looked up on the way.
-- Assumes nothing.
use Rattle.std.specs.Prelude.{cond, ◌≡◌, List, ◌∷◌, ◌++◌, ℕ, ◌+◌, ◌*◌, ◌≤◌, ◌<◌, T, eqb, ltb, length, get_or}
use Rattle.laws.specs.Lists.{position}
use Rattle.language.specs.Programs.{Func, is_ssa, first_row, max_blocks}
use Rattle.language.specs.Table.{row_op, row_target, row_left, row_right, load_number, jump_first, jump_second, two_bytes, eight_bytes}
use Rattle.language.specs.Table.{function_result, function_params, function_entry, function_name, block_count, block_first, block_rows, stored_predecessors, decode_function}
use Rattle.language.specs.Translating.{pairs_before, new_register, translation, translation_fits}
use Rattle.instructions.specs.Shapes.{shape_of, operand_number}
use Rattle.theorems.specs.Clean.{Clean}
use Rattle.predecessors.specs.Ranked.{Ascending}
use Rattle.flow.specs.Layout.{phis_in}
use Rattle.flow.specs.Sized.{Sized}
use Rattle.translator.specs.Filling.{filled}
use Rattle.language.specs.Instructions.{Operand}

-- The function at cell a of t is accepted as ssa, and its translation is within the sizes.
pub record TranslatableAt (t : List ℕ) (a : ℕ) : Type 0 where
  pub sized : Sized t a
  pub clean : Clean (decode_function t a)
  pub ssa : T (is_ssa (decode_function t a))
  pub fits : T (translation_fits (decode_function t a))

-- Its translation.
abbrev pub translated : List ℕ → ℕ → Func
translated t a = translation (decode_function t a)

-- ---- the pairs of which block b is the phi block: one for each predecessor that it keeps, if phi are prepared of it (`flow`)

abbrev pub pairs_in : (t : List ℕ) (a : ℕ) (m : List ℕ) → ℕ → ℕ
pairs_in t a m b = cond (eqb (phis_in m b) 0) 0 (length (stored_predecessors t a b))

-- ---- the plan: the number of each block's first edge block, were it to have phi

pub record Planned (f : Func) (plan : List ℕ) : Type 0 where
  pub count : length plan ≡ max_blocks
  pub first : (y : ℕ) → y < length f.blocks → get_or plan y 0 ≡ length f.blocks + pairs_before f y

-- The block that block x names in place of y.
unfoldable pub renamed_as : (t : List ℕ) (a : ℕ) (m plan : List ℕ) → (x y : ℕ) → ℕ
renamed_as t a m plan x y = cond (eqb (phis_in m y) 0) y (get_or plan y 0 + position (λ z. eqb z x) (stored_predecessors t a y))

-- ---- cells

-- The head of the translation, up to the end of its name; the function count stands before it.
unfoldable pub head_of : List ℕ → (a registers blocks : ℕ) → List ℕ
head_of t a registers blocks =
    1
    ∷ 0
    ∷ function_result t a
    ∷ (two_bytes (function_params t a) ++ (two_bytes registers ++ (blocks ∷ function_entry t a ∷ length (function_name t a) ∷ function_name t a)))

-- The operand of row r of block x by its kind, 0 where a kept row has none: a load's number, the one block of a jump, the two of a jump.cond.
unfoldable pub kept_operand : (t : List ℕ) (a : ℕ) (m plan : List ℕ) → (x r kind : ℕ) → ℕ
kept_operand t a m plan x r kind =
    cond (eqb kind (operand_number Operand.number)) (load_number t a r)
    (cond (eqb kind (operand_number Operand.block)) (renamed_as t a m plan x (jump_first t a r))
    (cond (eqb kind (operand_number Operand.blocks)) (renamed_as t a m plan x (jump_first t a r) + 256 * renamed_as t a m plan x (jump_second t a r)) 0))

-- Block y is within the limit, and the predecessors that it keeps can be searched.
pub record Nameable (t : List ℕ) (a y : ℕ) : Type 0 where
  pub below : y < max_blocks
  pub ascends : Ascending (stored_predecessors t a y)

-- So are the blocks that row r names by the kind of its operand.
pub record Naming (t : List ℕ) (a r kind : ℕ) : Type 0 where
  pub first : operand_number Operand.block ≤ kind → Nameable t a (jump_first t a r)
  pub second : operand_number Operand.blocks ≤ kind → Nameable t a (jump_second t a r)

-- Row r of block x as it is kept: the cells that its form needs, every other 0.
unfoldable pub kept_cells : (t : List ℕ) (a : ℕ) (m plan : List ℕ) → (x r : ℕ) → List ℕ
kept_cells t a m plan x r =
    let s = shape_of (row_op t a r) in
    row_op t a r
    ∷ cond s.target (row_target t a r) 0
    ∷ cond (ltb 0 s.sources) (row_left t a r) 0
    ∷ cond (ltb 1 s.sources) (row_right t a r) 0
    ∷ eight_bytes (kept_operand t a m plan x r s.operand)

-- ---- how far the translation has been put down: i registers; or all registers, j blocks and k rows

abbrev pub declared : List ℕ → (a i : ℕ) → List ℕ
declared t a i = filled (translated t a) i 0 0

abbrev pub built : List ℕ → (a j k : ℕ) → List ℕ
built t a j k = filled (translated t a) (length (translated t a).registers) j k

-- The rows of kept block x: n of them from row r on, put down from row k on.
pub record KeptRows (t : List ℕ) (a : ℕ) (m : List ℕ) (x r n k : ℕ) : Type 0 where
  pub block : x < block_count t a
  pub first : r ≡ block_first t a x + phis_in m x
  pub count : phis_in m x + n ≡ block_rows t a x
  pub place : k ≡ first_row (translated t a) x

-- The number of the edge block from the j-th predecessor of block y.
abbrev pub edge_number : List ℕ → (a y j : ℕ) → ℕ
edge_number t a y j = block_count t a + pairs_before (decode_function t a) y + j

-- There is such an edge, n is its first new register and k its first row.
pub record Edge (t : List ℕ) (a : ℕ) (m : List ℕ) (y j n k : ℕ) : Type 0 where
  pub block : y < block_count t a
  pub pair : j < pairs_in t a m y
  pub new : n ≡ new_register (decode_function t a) y
  pub place : k ≡ first_row (translated t a) (edge_number t a y j)
