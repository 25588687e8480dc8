-- The law of the table: a program that fits the sizes is given back by its cells.
-- Assumes nothing.
use Rattle.std.specs.Prelude.{true, ◌≡◌, List, [], ℕ, ◌^◌, ◌≤◌, ◌<◌, length, get_or}
use Rattle.laws.specs.Sections.{Bytes}
use Rattle.language.specs.Instructions.{form_of}
use Rattle.language.specs.Programs.{Row, Register, Func, Program, op_of, form_in, targets_of, sources_of, entries_of, named_by, rows_of}
use Rattle.language.specs.Programs.{entry_count, block_at, no_register, no_block, no_function, max_functions, max_registers, max_blocks, max_rows, max_entries}
use Rattle.language.specs.Programs.{max_name}
use Rattle.language.specs.Table.{BlockRecord, table_length, cells, decode}

-- The number a row loads.
abbrev pub loaded_number : Row → ℕ
loaded_number Row.nop = 0
loaded_number (Row.load op t n) = n
loaded_number (Row.unary op t s) = 0
loaded_number (Row.binary op t l r) = 0
loaded_number (Row.phi t es) = 0
loaded_number (Row.jump b) = 0
loaded_number (Row.branch s x y) = 0
loaded_number (Row.return s) = 0
loaded_number Row.leave = 0
loaded_number (Row.unknown op) = 0

-- What fits the cells it is given. A row is written in the form of its instruction.
pub record NameFits (name : List ℕ) : Type 0 where
  pub short : length name ≤ max_name
  pub bytes : Bytes name

pub record RegisterFits (r : Register) : Type 0 where
  pub type : r.type < 256
  pub name : NameFits r.name

pub record RowFits (row : Row) : Type 0 where
  pub form : form_of (op_of row) ≡ form_in row
  pub op : op_of row < 256
  pub targets : Bytes (targets_of row)
  pub sources : Bytes (sources_of row)
  pub entries : Bytes (entries_of row)
  pub blocks : Bytes (named_by row)
  pub number : loaded_number row < 2 ^ 64

pub record FunctionFits (f : Func) : Type 0 where
  pub name : NameFits f.name
  pub ssa : f.ssa < 256
  pub result : f.result < 256
  pub params : f.params < 65536
  pub entry : f.entry < 256
  pub placed : f.placed ≡ true
  pub register_count : length f.registers ≤ max_registers
  pub block_count : length f.blocks ≤ max_blocks
  pub row_count : length (rows_of f) ≤ max_rows
  pub entry_count : entry_count f ≤ max_entries
  pub registers : (r : ℕ) → r < length f.registers → RegisterFits (get_or f.registers r no_register)
  pub block_names : (b : ℕ) → b < length f.blocks → NameFits (block_at f b).name
  pub rows : (r : ℕ) → r < length (rows_of f) → RowFits (get_or (rows_of f) r Row.nop)

-- What a function must meet so that its sections have room, whatever its numbers are.
pub record Laid (f : Func) : Type 0 where
  pub name : length f.name ≤ max_name
  pub register_count : length f.registers ≤ max_registers
  pub block_count : length f.blocks ≤ max_blocks
  pub row_count : length (rows_of f) ≤ max_rows
  pub entry_count : entry_count f ≤ max_entries
  pub register_names : (r : ℕ) → r < length f.registers → length (get_or f.registers r no_register).name ≤ max_name
  pub block_names : (b : ℕ) → b < length f.blocks → length (block_at f b).name ≤ max_name
  pub forms : (r : ℕ) → r < length (rows_of f) → form_of (op_of (get_or (rows_of f) r Row.nop)) ≡ form_in (get_or (rows_of f) r Row.nop)

-- Lists of predecessors that its blocks' records have room for: a list for each block.
pub record ListsFit (lists : List (List ℕ)) (f : Func) : Type 0 where
  pub count : length lists ≡ length f.blocks
  pub short : (b : ℕ) → b < length f.blocks → length (get_or lists b []) ≤ max_blocks

-- What stands at a number that is no block's.
abbrev pub no_block_record : BlockRecord
no_block_record = record { block = no_block; list = [] }

pub record Fits (p : Program) : Type 0 where
  pub function_count : length p ≤ max_functions
  pub functions : (i : ℕ) → i < length p → FunctionFits (get_or p i no_function)

-- The cells of p are bytes, as many as the one length, and give p back.
pub record Held (p : Program) : Type 0 where
  pub back : decode (cells p) ≡ p
  pub count : length (cells p) ≡ table_length
  pub bytes : Bytes (cells p)

abbrev pub TableLaw : Type 0
TableLaw = (p : Program) → Fits p → Held p
