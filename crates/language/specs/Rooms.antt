-- What a stage of the grammar has begun, and that there is room for it. 5 is tested at "the first token of the item beyond" alone
-- (Reading.if_room); the item is put down at a later token, and what is said here is why no list outgrows its size there.
-- It holds of every parse: proofs/Rooms, `roomy₀` and `roomy_taken`.
-- Assumes nothing.
use Rattle.std.specs.Prelude.{ℕ, ◌+◌, ◌≤◌, length}
use Rattle.language.specs.Programs.{max_functions, max_registers, max_blocks, max_rows, max_entries}
use Rattle.language.specs.Grammar.{Stage}
use Rattle.language.specs.Reading.{Draft, Parse, draft_rows, phi_entries}

-- How many functions, registers, blocks and instructions are begun and not yet put down.
pub record Begun : Type 0 where
  pub functions : ℕ
  pub registers : ℕ
  pub blocks : ℕ
  pub rows : ℕ

abbrev pub begun : (functions registers blocks rows : ℕ) → Begun
begun f r b i = record { functions = f; registers = r; blocks = b; rows = i }

abbrev pub outside : Begun
outside = begun 0 0 0 0

abbrev pub in_function : Begun
in_function = begun 1 0 0 0

abbrev pub in_register : Begun
in_register = begun 1 1 0 0

abbrev pub in_block : Begun
in_block = begun 1 0 1 0

abbrev pub in_row : Begun
in_row = begun 1 0 1 1

abbrev pub begun_at : Stage → Begun
begun_at Stage.top = outside
begun_at Stage.header = in_function
begun_at Stage.result = in_function
begun_at Stage.function_name = in_function
begun_at Stage.parameters = in_function
begun_at Stage.first_parameter = in_function
begun_at Stage.parameter = in_function
begun_at Stage.parameter_end = in_function
begun_at (Stage.parameter_name t) = in_register
begun_at Stage.body = in_function
begun_at Stage.declarations = in_function
begun_at Stage.register_type = in_register
begun_at Stage.register_end = in_function
begun_at (Stage.register_name t) = in_register
begun_at Stage.blocks = in_function
begun_at Stage.block_name = in_block
begun_at Stage.block_body = in_block
begun_at Stage.first_instruction = in_block
begun_at Stage.next_instruction = in_block
begun_at Stage.assignment = in_row
begun_at Stage.instruction = in_row
begun_at (Stage.source k o) = in_row
begun_at (Stage.source_comma k o) = in_row
begun_at (Stage.operand o) = in_row
begun_at Stage.number = in_row
begun_at Stage.entry = in_row
begun_at Stage.entry_end = in_row
begun_at (Stage.mention k) = in_row
begun_at (Stage.mention_comma k) = in_row
begun_at Stage.operand_end = in_row
begun_at Stage.instruction_end = in_row

-- There is room for what is begun. A phi entry begins and is put down at one token.
pub record Room (x : Begun) (d : Draft) : Type 0 where
  pub functions : length d.functions + x.functions ≤ max_functions
  pub registers : length d.function.registers + x.registers ≤ max_registers
  pub blocks : length d.blocks + x.blocks ≤ max_blocks
  pub rows : draft_rows d + x.rows ≤ max_rows
  pub entries : phi_entries d ≤ max_entries

-- A parse that reads on has room for what its stage has begun.
abbrev pub Roomy : Parse → Type 0
Roomy (Parse.refused n p) = Unit {0}
Roomy (Parse.reading s d) = Room (begun_at s) d
