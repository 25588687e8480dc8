-- The table: a program as bytes at fixed offsets (document 01, "A table holds the same as numbers and name bytes:
-- functions, their registers, their blocks with the rows of each, one block after the other, and which block is entry").
-- docs/TABLE.md states the layout cell by cell. "cells not needed are 0 in an output and ignored in an input": `cells` writes
-- those as 0, `decode` never looks at one. `decode` takes any list: a cell past the end counts as 0.
-- A block's record also holds its predecessors (document 02: "Keep each block's predecessor list in its record").
-- Assumes nothing.
use Rattle.std.specs.Prelude.{Bool, true, cond, ◌&&◌, List, [], ◌∷◌, ◌++◌, map, ℕ, ◌+◌, ◌*◌, ◌/◌, ◌%◌, ◌≤◌, eqb, length, get_or, take, drop}
use Rattle.laws.specs.Lists.{all, below, from, gather, same, sum, together}
use Rattle.laws.specs.Sections.{pad, gather_from}
use Rattle.language.specs.Instructions.{Form, form_of, nop_op, phi_op, jump_op, jump_cond_op, return_op, leave_op}
use Rattle.language.specs.Programs.{Row, Register, Block, Func, Program, entries_of, rows_of, max_functions, max_registers, max_blocks, max_rows, max_entries, max_name}
use Rattle.language.specs.Checking.{predecessors}

-- ---- The layout: every offset and length from the parts. No other page says these numbers.

-- A name: its length, and 64 cells for its bytes.
abbrev pub name_length : ℕ
name_length = 1 + max_name

-- A register: its type and its name.
abbrev pub register_length : ℕ
register_length = 1 + name_length

-- The predecessors of a block: their count, and 64 cells for their numbers.
abbrev pub predecessors_length : ℕ
predecessors_length = 1 + max_blocks

-- A block: its first row and the count of its rows, two cells each, its name and its predecessors.
abbrev pub block_length : ℕ
block_length = 4 + name_length + predecessors_length

-- A row: its instruction, target, two sources and eight operand cells.
abbrev pub row_length : ℕ
row_length = 12

-- A function: its head, which is ssa, result, params and the count of registers in two cells each, the count of blocks, entry and
-- the name; then four sections, each of records of one length.
abbrev pub result_offset : ℕ
result_offset = 1

abbrev pub params_offset : ℕ
params_offset = result_offset + 1

abbrev pub register_count_offset : ℕ
register_count_offset = params_offset + 2

abbrev pub block_count_offset : ℕ
block_count_offset = register_count_offset + 2

abbrev pub entry_offset : ℕ
entry_offset = block_count_offset + 1

abbrev pub name_offset : ℕ
name_offset = entry_offset + 1

abbrev pub registers_offset : ℕ
registers_offset = name_offset + name_length

abbrev pub registers_length : ℕ
registers_length = max_registers * register_length

abbrev pub blocks_offset : ℕ
blocks_offset = registers_offset + registers_length

abbrev pub blocks_length : ℕ
blocks_length = max_blocks * block_length

abbrev pub rows_offset : ℕ
rows_offset = blocks_offset + blocks_length

abbrev pub rows_length : ℕ
rows_length = max_rows * row_length

abbrev pub entries_offset : ℕ
entries_offset = rows_offset + rows_length

abbrev pub function_length : ℕ
function_length = entries_offset + max_entries

-- The columns of a section: where the field of its first record stands.
abbrev pub register_names_offset : ℕ
register_names_offset = registers_offset + 1

abbrev pub block_rows_offset : ℕ
block_rows_offset = blocks_offset + 2

abbrev pub block_names_offset : ℕ
block_names_offset = blocks_offset + 4

abbrev pub predecessors_offset : ℕ
predecessors_offset = block_names_offset + name_length

abbrev pub targets_offset : ℕ
targets_offset = rows_offset + 1

abbrev pub lefts_offset : ℕ
lefts_offset = rows_offset + 2

abbrev pub rights_offset : ℕ
rights_offset = rows_offset + 3

abbrev pub operands_offset : ℕ
operands_offset = rows_offset + 4

-- "A lent table has the one length that docs/ states": the function count, and room for 16 functions.
abbrev pub functions_length : ℕ
functions_length = max_functions * function_length

abbrev pub table_length : ℕ
table_length = 1 + functions_length

-- Where function i begins, and where its name stands.
abbrev pub function_at : ℕ → ℕ
function_at i = 1 + function_length * i

abbrev pub function_names_offset : ℕ
function_names_offset = 1 + name_offset

-- The function at a lies within the table.
abbrev pub InTable : List ℕ → ℕ → Type 0
InTable t a = a + function_length ≤ length t

-- ---- Cells to numbers: the number of two, four or eight bytes from cell k on, low byte first, and a list.

abbrev pub two : List ℕ → ℕ → ℕ
two t k = get_or t k 0 + 256 * get_or t (k + 1) 0

abbrev pub four : List ℕ → ℕ → ℕ
four t k = two t k + 65536 * two t (k + 2)

abbrev pub eight : List ℕ → ℕ → ℕ
eight t k = four t k + 4294967296 * four t (k + 4)

-- The list whose length is cell k and whose numbers follow; so stand names and predecessors.
abbrev pub list_at : List ℕ → ℕ → List ℕ
list_at t k = take (get_or t k 0) (drop (k + 1) t)

abbrev pub name_at : List ℕ → ℕ → List ℕ
name_at t k = list_at t k

-- ---- The accessors. `a` is the cell where the function begins.

abbrev pub function_count : List ℕ → ℕ
function_count t = get_or t 0 0

abbrev pub function_ssa : List ℕ → ℕ → ℕ
function_ssa t a = get_or t a 0

abbrev pub function_result : List ℕ → ℕ → ℕ
function_result t a = get_or t (a + result_offset) 0

abbrev pub function_params : List ℕ → ℕ → ℕ
function_params t a = two t (a + params_offset)

abbrev pub register_count : List ℕ → ℕ → ℕ
register_count t a = two t (a + register_count_offset)

abbrev pub block_count : List ℕ → ℕ → ℕ
block_count t a = get_or t (a + block_count_offset) 0

abbrev pub function_entry : List ℕ → ℕ → ℕ
function_entry t a = get_or t (a + entry_offset) 0

abbrev pub function_name : List ℕ → ℕ → List ℕ
function_name t a = name_at t (a + name_offset)

abbrev pub register_type : List ℕ → ℕ → ℕ → ℕ
register_type t a r = get_or t (a + registers_offset + register_length * r) 0

abbrev pub register_name : List ℕ → ℕ → ℕ → List ℕ
register_name t a r = name_at t (a + register_names_offset + register_length * r)

abbrev pub block_first : List ℕ → ℕ → ℕ → ℕ
block_first t a b = two t (a + blocks_offset + block_length * b)

abbrev pub block_rows : List ℕ → ℕ → ℕ → ℕ
block_rows t a b = two t (a + block_rows_offset + block_length * b)

abbrev pub block_name : List ℕ → ℕ → ℕ → List ℕ
block_name t a b = name_at t (a + block_names_offset + block_length * b)

-- The predecessors that a block stores: their count, the cell of the k-th, and the list.
abbrev pub predecessor_count : List ℕ → ℕ → ℕ → ℕ
predecessor_count t a b = get_or t (a + predecessors_offset + block_length * b) 0

abbrev pub predecessor_at : List ℕ → ℕ → ℕ → ℕ → ℕ
predecessor_at t a b k = get_or t (a + (predecessors_offset + 1) + block_length * b + k) 0

abbrev pub stored_predecessors : List ℕ → ℕ → ℕ → List ℕ
stored_predecessors t a b = list_at t (a + predecessors_offset + block_length * b)

-- A row: the instruction's number, its target, its first and second source, and eight operand bytes,
abbrev pub row_op : List ℕ → ℕ → ℕ → ℕ
row_op t a r = get_or t (a + rows_offset + row_length * r) 0

abbrev pub row_target : List ℕ → ℕ → ℕ → ℕ
row_target t a r = get_or t (a + targets_offset + row_length * r) 0

abbrev pub row_left : List ℕ → ℕ → ℕ → ℕ
row_left t a r = get_or t (a + lefts_offset + row_length * r) 0

abbrev pub row_right : List ℕ → ℕ → ℕ → ℕ
row_right t a r = get_or t (a + rights_offset + row_length * r) 0

-- which are a load's number,
abbrev pub load_number : List ℕ → ℕ → ℕ → ℕ
load_number t a r = eight t (a + operands_offset + row_length * r)

-- the one block of a jump or the two of a jump.cond,
abbrev pub jump_first : List ℕ → ℕ → ℕ → ℕ
jump_first t a r = get_or t (a + operands_offset + row_length * r) 0

abbrev pub jump_second : List ℕ → ℕ → ℕ → ℕ
jump_second t a r = get_or t (a + (operands_offset + 1) + row_length * r) 0

-- or where a phi's entries begin, and their count.
abbrev pub phi_first : List ℕ → ℕ → ℕ → ℕ
phi_first t a r = two t (a + operands_offset + row_length * r)

abbrev pub phi_count : List ℕ → ℕ → ℕ → ℕ
phi_count t a r = two t (a + (operands_offset + 2) + row_length * r)

-- Phi entry k of the function, a register.
abbrev pub phi_entry : List ℕ → ℕ → ℕ → ℕ
phi_entry t a k = get_or t (a + entries_offset + k) 0

-- ---- Cells to program.

-- Row r, in the form of its instruction.
unfoldable pub decode_as : Form → List ℕ → ℕ → ℕ → Row
decode_as Form.nop t a r = Row.nop
decode_as Form.load t a r = Row.load (row_op t a r) (row_target t a r) (load_number t a r)
decode_as Form.unary t a r = Row.unary (row_op t a r) (row_target t a r) (row_left t a r)
decode_as Form.binary t a r = Row.binary (row_op t a r) (row_target t a r) (row_left t a r) (row_right t a r)
decode_as Form.phi t a r = Row.phi (row_target t a r) (map (phi_entry t a) (from (phi_first t a r) (phi_count t a r)))
decode_as Form.jump t a r = Row.jump (jump_first t a r)
decode_as Form.branch t a r = Row.branch (row_left t a r) (jump_first t a r) (jump_second t a r)
decode_as Form.return t a r = Row.return (row_left t a r)
decode_as Form.leave t a r = Row.leave
decode_as Form.unknown t a r = Row.unknown (row_op t a r)

unfoldable pub decode_row : List ℕ → ℕ → ℕ → Row
decode_row t a r = decode_as (form_of (row_op t a r)) t a r

unfoldable pub decode_register : List ℕ → ℕ → ℕ → Register
decode_register t a r = record { type = register_type t a r; name = register_name t a r }

unfoldable pub decode_block : List ℕ → ℕ → ℕ → Block
decode_block t a b = record { name = block_name t a b; rows = map (decode_row t a) (from (block_first t a b) (block_rows t a b)) }

-- The rows before block b, and those of the whole function.
abbrev pub rows_before : List ℕ → ℕ → ℕ → ℕ
rows_before t a b = sum (map (block_rows t a) (below b))

abbrev pub row_count : List ℕ → ℕ → ℕ
row_count t a = rows_before t a (block_count t a)

-- The phi entries of row r, and those of the rows before it.
abbrev pub row_entries : List ℕ → ℕ → ℕ → ℕ
row_entries t a r = cond (eqb (row_op t a r) phi_op) (phi_count t a r) 0

abbrev pub entries_before : List ℕ → ℕ → ℕ → ℕ
entries_before t a r = sum (map (row_entries t a) (below r))

-- The stored positions are those the counts give: each block's first row, each phi's first entry.
unfoldable pub blocks_placed : List ℕ → ℕ → Bool
blocks_placed t a = all (λ b. eqb (block_first t a b) (rows_before t a b)) (below (block_count t a))

unfoldable pub phis_placed : List ℕ → ℕ → Bool
phis_placed t a = all (λ r. cond (eqb (row_op t a r) phi_op) (eqb (phi_first t a r) (entries_before t a r)) true) (below (row_count t a))

-- The function at a, `placed` being told.
abbrev pub decode_at : List ℕ → ℕ → Bool → Func
decode_at t a placed =
    record {
      name = function_name t a;
      ssa = function_ssa t a;
      result = function_result t a;
      params = function_params t a;
      registers = map (decode_register t a) (below (register_count t a));
      blocks = map (decode_block t a) (below (block_count t a));
      entry = function_entry t a;
      placed = placed;
    }

-- The stored predecessors of each block are document 01's. "A lent table whose stored list differs is refused with 9; only a block's
-- last row names blocks there."
unfoldable pub predecessors_kept : List ℕ → ℕ → Bool
predecessors_kept t a =
    all (λ b. same (stored_predecessors t a b) (predecessors (decode_at t a true) b)) (below (block_count t a))

unfoldable pub decode_function : List ℕ → ℕ → Func
decode_function t a = decode_at t a (blocks_placed t a && (phis_placed t a && predecessors_kept t a))

unfoldable pub decode : List ℕ → Program
decode t = map (λ i. decode_function t (function_at i)) (below (function_count t))

-- ---- Numbers to cells, low byte first.

abbrev pub two_bytes : ℕ → List ℕ
two_bytes n = n % 256 ∷ n / 256 % 256 ∷ []

abbrev pub four_bytes : ℕ → List ℕ
four_bytes n = two_bytes n ++ two_bytes (n / 65536)

abbrev pub eight_bytes : ℕ → List ℕ
eight_bytes n = four_bytes n ++ four_bytes (n / 4294967296)

-- A name's length and its bytes.
unfoldable pub name_cells : List ℕ → List ℕ
name_cells name = length name ∷ pad max_name name

-- ---- Program to cells. Positions come from the counts.

-- A register.
unfoldable pub register_cells : Register → List ℕ
register_cells r = r.type ∷ name_cells r.name

-- A list of predecessors: their count and their numbers.
unfoldable pub predecessor_cells : List ℕ → List ℕ
predecessor_cells list = length list ∷ pad max_blocks list

-- A block and the list of its predecessors.
pub record BlockRecord : Type 0 where
  pub block : Block
  pub list : List ℕ

-- One whose first row is n.
unfoldable pub block_cells : ℕ → BlockRecord → List ℕ
block_cells n b =
    two_bytes n ++ (two_bytes (length b.block.rows) ++ (name_cells b.block.name ++ predecessor_cells b.list))

-- A row; the entries of a phi begin at n.
unfoldable pub row_cells : ℕ → Row → List ℕ
row_cells n Row.nop = pad row_length (nop_op ∷ [])
row_cells n (Row.load op t x) = op ∷ t ∷ 0 ∷ 0 ∷ eight_bytes x
row_cells n (Row.unary op t s) = pad row_length (op ∷ t ∷ s ∷ [])
row_cells n (Row.binary op t l r) = pad row_length (op ∷ t ∷ l ∷ r ∷ [])
row_cells n (Row.phi t es) = pad row_length (phi_op ∷ t ∷ 0 ∷ 0 ∷ (two_bytes n ++ two_bytes (length es)))
row_cells n (Row.jump b) = pad row_length (jump_op ∷ 0 ∷ 0 ∷ 0 ∷ b ∷ [])
row_cells n (Row.branch s x y) = pad row_length (jump_cond_op ∷ 0 ∷ s ∷ 0 ∷ x ∷ y ∷ [])
row_cells n (Row.return s) = pad row_length (return_op ∷ 0 ∷ s ∷ [])
row_cells n Row.leave = pad row_length (leave_op ∷ [])
row_cells n (Row.unknown op) = pad row_length (op ∷ [])

-- The head, at a function's beginning.
unfoldable pub head_cells : Func → List ℕ
head_cells f =
    f.ssa ∷ f.result ∷ (two_bytes f.params ++ (two_bytes (length f.registers) ++ (length f.blocks ∷ f.entry ∷ name_cells f.name)))

-- The sections of a function: head, registers, blocks, rows, phi entries.
unfoldable pub register_section : Func → List ℕ
register_section f = pad registers_length (gather register_cells f.registers)

-- The blocks with these lists of predecessors.
abbrev pub block_records : List (List ℕ) → List Block → List BlockRecord
block_records lists blocks = together (λ b list. record { block = b; list = list }) blocks lists

unfoldable pub block_section : List (List ℕ) → Func → List ℕ
block_section lists f = pad blocks_length (gather_from (λ b. length b.block.rows) block_cells 0 (block_records lists f.blocks))

unfoldable pub row_section : Func → List ℕ
row_section f = pad rows_length (gather_from (λ r. length (entries_of r)) row_cells 0 (rows_of f))

unfoldable pub entry_section : Func → List ℕ
entry_section f = pad max_entries (gather entries_of (rows_of f))

-- A function with these lists of its blocks' predecessors.
unfoldable pub cells_listing : List (List ℕ) → Func → List ℕ
cells_listing lists f = head_cells f ++ (register_section f ++ (block_section lists f ++ (row_section f ++ entry_section f)))

-- The predecessors of each block, "each once, in the order declared".
unfoldable pub predecessor_lists : Func → List (List ℕ)
predecessor_lists f = map (predecessors f) (below (length f.blocks))

unfoldable pub function_cells : Func → List ℕ
function_cells f = cells_listing (predecessor_lists f) f

unfoldable pub cells : Program → List ℕ
cells p = length p ∷ pad functions_length (gather function_cells p)
