-- What the text of a function's rows needs of a table. Assumes nothing.
use Rattle.std.specs.Prelude.{true, List, [], ◌∷◌, map, ◌≡◌, ℕ, ◌+◌, ◌^◌, ◌<◌, ◌≤◌, length, get_or}
use Rattle.laws.specs.Lists.{from}
use Rattle.language.specs.Instructions.{width, load_type, instruction_count, Operand}
use Rattle.language.specs.MadeNames.{named_function}
use Rattle.language.specs.Programs.{Func, max_registers, max_blocks, max_entries}
use Rattle.language.specs.Table.{register_count, block_count, row_count, row_op, row_target, row_left, row_right, load_number, jump_first, jump_second, phi_first, phi_count, phi_entry, decode_function}
use Rattle.language.specs.Tokens.{Token}
use Rattle.language.specs.Writing.{number_token, registers_part, blocks_part, in_parens}
use Rattle.instructions.specs.Shapes.{shape_of, operand_number}
use Rattle.naming.specs.Numbered.{RegistersNumbered, BlocksNumbered}
use Rattle.flow.specs.Sized.{Sized}

-- The function at cell a of t with the made names filled in.
abbrev pub titled : List ℕ → ℕ → Func
titled t a = named_function (decode_function t a)

-- ---- what acceptance gives of a row

-- These phi entries are registers of the function.
pub record Entries (t : List ℕ) (a first count : ℕ) : Type 0 where
  pub within : first + count ≤ max_entries
  pub registers : (k : ℕ) → k < count → phi_entry t a (first + k) < register_count t a

-- The numbers of row r that its instruction needs are in their range.
pub record RowReady (t : List ℕ) (a r : ℕ) : Type 0 where
  pub instruction : row_op t a r < instruction_count
  pub target : (shape_of (row_op t a r)).target ≡ true → row_target t a r < register_count t a
  pub left : 0 < (shape_of (row_op t a r)).sources → row_left t a r < register_count t a
  pub right : 1 < (shape_of (row_op t a r)).sources → row_right t a r < register_count t a
  pub number : (shape_of (row_op t a r)).operand ≡ operand_number Operand.number → load_number t a r < 2 ^ width (load_type (row_op t a r))
  pub entries : (shape_of (row_op t a r)).operand ≡ operand_number Operand.registers → Entries t a (phi_first t a r) (phi_count t a r)
  pub first : operand_number Operand.registers < (shape_of (row_op t a r)).operand → jump_first t a r < block_count t a
  pub second : operand_number Operand.block < (shape_of (row_op t a r)).operand → jump_second t a r < block_count t a

-- Every row of the function at cell a is so, and the numbers of its made names are prepared.
pub record TextReady (t : List ℕ) (a : ℕ) (rs bs : List ℕ) : Type 0 where
  pub sized : Sized t a
  pub rows : (r : ℕ) → r < row_count t a → RowReady t a r
  pub registers : RegistersNumbered (decode_function t a) rs
  pub blocks : BlocksNumbered (decode_function t a) bs
  pub register_room : max_registers ≤ length rs
  pub block_room : max_blocks ≤ length bs

-- ---- the operand of row r by its kind, with the parentheses

abbrev pub operand_tokens : List ℕ → (a r kind : ℕ) → List Token
operand_tokens t a r kind =
    get_or
    ([]
    ∷ in_parens (number_token (load_type (row_op t a r)) (load_number t a r) ∷ [])
    ∷ in_parens (registers_part (titled t a) (map (phi_entry t a) (from (phi_first t a r) (phi_count t a r))))
    ∷ in_parens (blocks_part (titled t a) (jump_first t a r ∷ []))
    ∷ in_parens (blocks_part (titled t a) (jump_first t a r ∷ jump_second t a r ∷ []))
    ∷ [])
    kind
    []
