-- The cells of the function in hand, as far as it has been put down. Assumes nothing.
use Rattle.std.specs.Prelude.{Bool, true, cond, ◌&&◌, List, [], ◌∷◌, ◌++◌, map, ◌≡◌, ℕ, ◌+◌, ◌*◌, ◌≤◌, T, eqb, leb, ltb, length, get_or}
use Rattle.std.proofs.lemmas.List.Edits.{sets}
use Rattle.laws.specs.Lists.{all, empty, gather}
use Rattle.laws.specs.Sections.{pad, gather_from}
use Rattle.language.specs.Programs.{Row, Block, entries_of, named_by, op_of, form_in, max_functions, max_registers, max_blocks, max_rows, max_entries, max_name}
use Rattle.language.specs.Instructions.{Form, Operand, form_of, form_number, has_target, source_count, operand_of}
use Rattle.language.specs.Checking.{distinct}
use Rattle.language.specs.Table.{two_bytes, eight_bytes, name_cells, register_cells, row_cells, blocks_length, registers_length, rows_length}
use Rattle.predecessors.specs.Listing.{bare_cells}
use Rattle.language.specs.Reading.{Mention, OpenRow, OpenBlock, Draft, Parts, open_rows, phi_entries, entries_in}
use Rattle.drafts.specs.Mentions.{name_number, kept}

-- A row while its function is open: where a block's number will stand, that of its name among those kept.
abbrev pub numbered_row : List Mention → OpenRow → Row
numbered_row ks (OpenRow.row r) = r
numbered_row ks (OpenRow.jump m) = Row.jump (name_number ks m.name)
numbered_row ks (OpenRow.branch s m n) = Row.branch s (name_number ks m.name) (name_number ks n.name)

-- The rows of the function in hand with those numbers.
unfoldable pub numbered_rows : Draft → List Row
numbered_rows d = map (numbered_row (kept d)) (open_rows d)

-- What an instruction stores, 0 where its form needs nothing: its target, its sources, and its operand as one number of eight
-- bytes, where a phi's entries begin at n.
abbrev pub target_cell : Form → Parts → ℕ
target_cell g x = cond (has_target g) x.target 0

abbrev pub left_cell : Form → Parts → ℕ
left_cell g x = cond (ltb 0 (source_count g)) (get_or x.sources 0 0) 0

abbrev pub right_cell : Form → Parts → ℕ
right_cell g x = cond (ltb 1 (source_count g)) (get_or x.sources 1 0) 0

-- The number of the i-th name that the instruction in hand mentions, 0 where it mentions none.
abbrev pub mention_cell : List Mention → List Mention → ℕ → ℕ
mention_cell ks ms i = get_or (map (λ m. name_number ks m.name) ms) i 0

abbrev pub operand_cell : Operand → List Mention → ℕ → Parts → ℕ
operand_cell Operand.none ks n x = 0
operand_cell Operand.number ks n x = x.number
operand_cell Operand.registers ks n x = n + 65536 * length x.entries
operand_cell Operand.block ks n x = mention_cell ks x.mentions 0
operand_cell Operand.blocks ks n x = mention_cell ks x.mentions 0 + 256 * mention_cell ks x.mentions 1

abbrev pub cells_as : Form → List Mention → ℕ → Parts → List ℕ
cells_as g ks n x = x.op ∷ target_cell g x ∷ left_cell g x ∷ right_cell g x ∷ eight_bytes (operand_cell (operand_of g) ks n x)

unfoldable pub instruction_cells : List Mention → ℕ → Parts → List ℕ
instruction_cells ks n x = cells_as (form_of x.op) ks n x

-- A block that is closed, as its cells are told: a name and so many rows.
abbrev pub closed_block : OpenBlock → Block
closed_block b = record { name = b.name; rows = map (numbered_row []) b.rows }

-- The block in hand has its name put down, and its rows counted when it ends. A name of no bytes puts nothing down.
unfoldable pub open_block : List ℕ → List ℕ
open_block name = cond (empty name) [] (0 ∷ 0 ∷ 0 ∷ 0 ∷ name_cells name)

-- The sections of the function in hand. The first eight cells are put down when it ends.
unfoldable pub open_head : Draft → List ℕ
open_head d = 0 ∷ 0 ∷ 0 ∷ 0 ∷ 0 ∷ 0 ∷ 0 ∷ 0 ∷ name_cells d.function.name

unfoldable pub open_registers : Draft → List ℕ
open_registers d = pad registers_length (gather register_cells d.function.registers)

-- Their lists of predecessors are put down when the function ends.
unfoldable pub open_blocks : Draft → List ℕ
open_blocks d =
    pad blocks_length (gather_from (λ b. length b.rows) bare_cells 0 (map closed_block d.blocks) ++ open_block d.block.name)

unfoldable pub open_row_cells : Draft → List ℕ
open_row_cells d = pad rows_length (gather_from (λ r. length (entries_of r)) row_cells 0 (numbered_rows d))

unfoldable pub open_entries : Draft → List ℕ
open_entries d = pad max_entries (gather entries_in (open_rows d) ++ d.parts.entries)

-- All its cells; between two functions they are zero.
unfoldable pub open_cells : Draft → List ℕ
open_cells d = open_head d ++ (open_registers d ++ (open_blocks d ++ (open_row_cells d ++ open_entries d)))

-- The first eight cells of a function with its entry block.
abbrev pub head_bytes : (ssa result params registers blocks entry : ℕ) → List ℕ
head_bytes s t k r b e = s ∷ t ∷ (two_bytes k ++ (two_bytes r ++ (b ∷ e ∷ [])))

-- ---- what holds of every draft

abbrev pub short_name : List ℕ → Bool
short_name n = leb (length n) max_name

-- A row is written in the form of its instruction, and a jump or a branch with the names of its blocks.
abbrev pub in_form : Row → Bool
in_form row = eqb (form_number (form_of (op_of row))) (form_number (form_in row))

abbrev pub open_form : OpenRow → Bool
open_form (OpenRow.row r) = in_form r && empty (named_by r)
open_form (OpenRow.jump m) = true
open_form (OpenRow.branch s m n) = true

-- No list of a draft outgrows its section, names are short, and no register's name stands twice.
pub record WithinSizes (d : Draft) : Type 0 where
  pub functions : length d.functions ≤ max_functions
  pub name : T (short_name d.function.name)
  pub registers : length d.function.registers ≤ max_registers
  pub register_names : T (all (λ r. short_name r.name) d.function.registers)
  pub once : distinct (map (λ r. r.name) d.function.registers) ≡ true
  pub blocks : length d.blocks ≤ max_blocks
  pub block_names : T (all (λ b. short_name b.name) d.blocks)
  pub block : T (short_name d.block.name)
  pub room : T (cond (empty d.block.name) true (ltb (length d.blocks) max_blocks))
  pub rows : length (open_rows d) ≤ max_rows
  pub entries : phi_entries d ≤ max_entries
  pub formed : T (all open_form (open_rows d))

-- Of an act that takes d to d': with vs stored from cell k on, the cells of the one are those of the other.
pub record Stores (d d' : Draft) (k : ℕ) (vs : List ℕ) : Type 0 where
  pub cells : open_cells d' ≡ sets (open_cells d) k vs
  pub within : WithinSizes d'
