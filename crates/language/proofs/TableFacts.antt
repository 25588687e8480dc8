-- The table's cells on small examples, by computation: the cells of a row of each form, of a register and of a block, and
-- one function written and read back. The law for every program is in `theorems`.
use mathlib.Core.Bool.{true, false}
use mathlib.Core.Path.{◌≡◌, refl}
use mathlib.Core.List.{List, [], ◌∷◌}
use Prim.Native.Nat.{ℕ, zero, suc, ◌+◌, ◌-◌}
use lib.ListN.{take, drop}
use Rattle.laws.specs.Sections.{pad}
use Rattle.language.specs.Instructions.{form_of}
use Rattle.language.specs.Programs.{Row, Func, rows_of}
use Rattle.language.specs.Table.{decode_row, decode_as, decode_register, decode_block, blocks_placed, phis_placed, predecessors_kept, decode_function, rows_offset, block_count_offset, blocks_offset, blocks_length}
use Rattle.language.specs.Table.{name_cells, register_cells, predecessor_cells, block_cells, row_cells, head_cells, register_section, block_section, row_section}
use Rattle.language.specs.Table.{entry_section, cells_listing, predecessor_lists, function_cells}
use Rattle.language.specs.Checking.{goes_to, predecessors}

-- ---- A row of each form, its entries beginning at 259.

nop_cells : row_cells 259 Row.nop ≡ 0 ∷ 0 ∷ 0 ∷ 0 ∷ 0 ∷ 0 ∷ 0 ∷ 0 ∷ 0 ∷ 0 ∷ 0 ∷ 0 ∷ []
unfolding row_cells pad
nop_cells = refl

load_cells : row_cells 259 (Row.load 8 3 0x1122334455667788) ≡ 8 ∷ 3 ∷ 0 ∷ 0 ∷ 0x88 ∷ 0x77 ∷ 0x66 ∷ 0x55 ∷ 0x44 ∷ 0x33 ∷ 0x22 ∷ 0x11 ∷ []
unfolding row_cells pad
load_cells = refl

unary_cells : row_cells 259 (Row.unary 30 3 4) ≡ 30 ∷ 3 ∷ 4 ∷ 0 ∷ 0 ∷ 0 ∷ 0 ∷ 0 ∷ 0 ∷ 0 ∷ 0 ∷ 0 ∷ []
unfolding row_cells pad
unary_cells = refl

binary_cells : row_cells 259 (Row.binary 10 3 4 5) ≡ 10 ∷ 3 ∷ 4 ∷ 5 ∷ 0 ∷ 0 ∷ 0 ∷ 0 ∷ 0 ∷ 0 ∷ 0 ∷ 0 ∷ []
unfolding row_cells pad
binary_cells = refl

phi_cells : row_cells 259 (Row.phi 3 (6 ∷ 7 ∷ [])) ≡ 31 ∷ 3 ∷ 0 ∷ 0 ∷ 3 ∷ 1 ∷ 2 ∷ 0 ∷ 0 ∷ 0 ∷ 0 ∷ 0 ∷ []
unfolding row_cells pad
phi_cells = refl

jump_cells : row_cells 259 (Row.jump 8) ≡ 32 ∷ 0 ∷ 0 ∷ 0 ∷ 8 ∷ 0 ∷ 0 ∷ 0 ∷ 0 ∷ 0 ∷ 0 ∷ 0 ∷ []
unfolding row_cells pad
jump_cells = refl

branch_cells : row_cells 259 (Row.branch 4 8 9) ≡ 33 ∷ 0 ∷ 4 ∷ 0 ∷ 8 ∷ 9 ∷ 0 ∷ 0 ∷ 0 ∷ 0 ∷ 0 ∷ 0 ∷ []
unfolding row_cells pad
branch_cells = refl

return_cells : row_cells 259 (Row.return 4) ≡ 34 ∷ 0 ∷ 4 ∷ 0 ∷ 0 ∷ 0 ∷ 0 ∷ 0 ∷ 0 ∷ 0 ∷ 0 ∷ 0 ∷ []
unfolding row_cells pad
return_cells = refl

leave_cells : row_cells 259 Row.leave ≡ 35 ∷ 0 ∷ 0 ∷ 0 ∷ 0 ∷ 0 ∷ 0 ∷ 0 ∷ 0 ∷ 0 ∷ 0 ∷ 0 ∷ []
unfolding row_cells pad
leave_cells = refl

-- ---- A register, and a block whose first row is 259.

register_cells_law : take 6 (register_cells (record { type = 9; name = 97 ∷ 98 ∷ [] })) ≡ 9 ∷ 2 ∷ 97 ∷ 98 ∷ 0 ∷ 0 ∷ []
unfolding register_cells name_cells pad
register_cells_law = refl

abbrev laid : List ℕ
laid = block_cells 259 (record { block = record { name = 99 ∷ []; rows = Row.nop ∷ Row.leave ∷ [] }; list = 2 ∷ 5 ∷ [] })

block_cells_law : take 8 laid ≡ 3 ∷ 1 ∷ 2 ∷ 0 ∷ 1 ∷ 99 ∷ 0 ∷ 0 ∷ []
unfolding block_cells name_cells pad
block_cells_law = refl

predecessor_cells_law : take 5 (drop 69 laid) ≡ 2 ∷ 2 ∷ 5 ∷ 0 ∷ 0 ∷ []
unfolding block_cells name_cells predecessor_cells pad
predecessor_cells_law = refl

-- ---- One function, written and read back.

abbrev example : Func
example =
    record {
      name = 102 ∷ [];
      ssa = 1;
      result = 4;
      params = 1;
      registers = record { type = 4; name = 97 ∷ 98 ∷ [] } ∷ record { type = 9; name = [] } ∷ [];
      blocks =
          record { name = []; rows = Row.load 2 1 255 ∷ Row.branch 1 1 1 ∷ [] }
          ∷ record { name = 99 ∷ []; rows = Row.phi 0 (1 ∷ []) ∷ [] }
          ∷ [];
      entry = 0;
      placed = true;
    }

example_back : decode_function (function_cells example) 0 ≡ example
unfolding pad form_of rows_of decode_row decode_as decode_register decode_block blocks_placed phis_placed predecessors_kept decode_function name_cells register_cells predecessor_cells block_cells row_cells head_cells register_section block_section row_section entry_section goes_to predecessors predecessor_lists cells_listing function_cells
example_back = refl

-- "each once": a branch that names a block twice is one predecessor.
once : predecessor_lists example ≡ [] ∷ (0 ∷ []) ∷ []
unfolding goes_to predecessors predecessor_lists
once = refl

-- A list with that block twice is not document 01's.
twice : (decode_function (cells_listing ([] ∷ (0 ∷ 0 ∷ []) ∷ []) example) 0).placed ≡ false
unfolding pad form_of rows_of decode_row decode_as decode_register decode_block blocks_placed phis_placed predecessors_kept decode_function name_cells register_cells predecessor_cells block_cells row_cells head_cells register_section block_section row_section entry_section goes_to predecessors cells_listing
twice = refl

-- ---- A stored position that is not the one the counts give: a block at row x, whose one row is a phi with its entries
-- from y on. Right are 0 and 0.

-- n cells that are not needed, here 7, then xs
abbrev behind : ℕ → List ℕ → List ℕ
behind zero xs = xs
behind (suc n) xs = let rest = behind n xs in 7 ∷ rest

abbrev stored : ℕ → ℕ → List ℕ
stored x y = behind block_count_offset (1 ∷ behind (blocks_offset - (block_count_offset + 1)) (x ∷ 0 ∷ 1 ∷ 0 ∷ behind (blocks_length - 4) (31 ∷ 7 ∷ 7 ∷ 7 ∷ y ∷ 0 ∷ 2 ∷ 0 ∷ [])))

block_misplaced : blocks_placed (stored 1 0) 0 ≡ false
unfolding blocks_placed
block_misplaced = refl

phi_misplaced : phis_placed (stored 0 1) 0 ≡ false
unfolding phis_placed
phi_misplaced = refl

-- ---- Cells that are not needed are not looked at.

jump_alone : decode_row (behind rows_offset (32 ∷ 7 ∷ 7 ∷ 7 ∷ 3 ∷ 7 ∷ 7 ∷ [])) 0 0 ≡ Row.jump 3
unfolding form_of decode_row decode_as
jump_alone = refl

return_alone : decode_row (behind rows_offset (34 ∷ 7 ∷ 4 ∷ 7 ∷ 7 ∷ 7 ∷ 7 ∷ [])) 0 0 ≡ Row.return 4
unfolding form_of decode_row decode_as
return_alone = refl

leave_alone : decode_row (behind rows_offset (35 ∷ 7 ∷ 7 ∷ 7 ∷ 7 ∷ 7 ∷ 7 ∷ [])) 0 0 ≡ Row.leave
unfolding form_of decode_row decode_as
leave_alone = refl
