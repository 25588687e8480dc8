-- What holds of a draft at a stage of the grammar: what is read so far fits what comes next. Assumes nothing.
use Rattle.std.specs.Prelude.{◌≡◌, Bool, true, false, not, [], ◌⊎◌, ℕ, suc, ◌+◌, ◌<◌, T, length}
use Rattle.std.proofs.Math.Option.{Option, none, some}
use Rattle.language.specs.Instructions.{Form, Operand, form_of, operand_of, type_count}
use Rattle.language.specs.Programs.{max_functions}
use Rattle.language.specs.Grammar.{Bracketed, Stage}
use Rattle.language.specs.Reading.{Draft, Parse, fresh}

-- Between two functions.
abbrev pub is_top : Stage → Bool
is_top Stage.top = true
is_top Stage.header = false
is_top Stage.result = false
is_top Stage.function_name = false
is_top Stage.parameters = false
is_top Stage.first_parameter = false
is_top Stage.parameter = false
is_top Stage.parameter_end = false
is_top (Stage.parameter_name t) = false
is_top Stage.body = false
is_top Stage.declarations = false
is_top Stage.register_type = false
is_top Stage.register_end = false
is_top (Stage.register_name t) = false
is_top Stage.blocks = false
is_top Stage.block_name = false
is_top Stage.block_body = false
is_top Stage.first_instruction = false
is_top Stage.next_instruction = false
is_top Stage.assignment = false
is_top Stage.instruction = false
is_top (Stage.source k o) = false
is_top (Stage.source_comma k o) = false
is_top (Stage.operand o) = false
is_top Stage.number = false
is_top Stage.entry = false
is_top Stage.entry_end = false
is_top (Stage.mention k) = false
is_top (Stage.mention_comma k) = false
is_top Stage.operand_end = false
is_top Stage.instruction_end = false

-- The operand that parentheses hold.
abbrev pub operand_with : Bracketed → Operand
operand_with Bracketed.number = Operand.number
operand_with Bracketed.registers = Operand.registers
operand_with Bracketed.block = Operand.block
operand_with Bracketed.blocks = Operand.blocks

-- The operand of the instruction in hand, where the stage tells it.
abbrev pub operand_in : Stage → Option Operand
operand_in Stage.top = none
operand_in Stage.header = none
operand_in Stage.result = none
operand_in Stage.function_name = none
operand_in Stage.parameters = none
operand_in Stage.first_parameter = none
operand_in Stage.parameter = none
operand_in Stage.parameter_end = none
operand_in (Stage.parameter_name t) = none
operand_in Stage.body = none
operand_in Stage.declarations = none
operand_in Stage.register_type = none
operand_in Stage.register_end = none
operand_in (Stage.register_name t) = none
operand_in Stage.blocks = none
operand_in Stage.block_name = none
operand_in Stage.block_body = none
operand_in Stage.first_instruction = none
operand_in Stage.next_instruction = none
operand_in Stage.assignment = none
operand_in Stage.instruction = none
operand_in (Stage.source k o) = some o
operand_in (Stage.source_comma k o) = some o
operand_in (Stage.operand o) = some (operand_with o)
operand_in Stage.number = none
operand_in Stage.entry = some Operand.registers
operand_in Stage.entry_end = some Operand.registers
operand_in (Stage.mention k) = none
operand_in (Stage.mention_comma k) = none
operand_in Stage.operand_end = none
operand_in Stage.instruction_end = none

-- How many blocks an operand names.
abbrev pub blocks_in : Operand → ℕ
blocks_in Operand.none = 0
blocks_in Operand.number = 0
blocks_in Operand.registers = 0
blocks_in Operand.block = 1
blocks_in Operand.blocks = 2

-- How many blocks the instruction in hand is still to mention, where the stage tells it.
abbrev pub due : Stage → Option ℕ
due Stage.top = none
due Stage.header = none
due Stage.result = none
due Stage.function_name = none
due Stage.parameters = none
due Stage.first_parameter = none
due Stage.parameter = none
due Stage.parameter_end = none
due (Stage.parameter_name t) = none
due Stage.body = none
due Stage.declarations = none
due Stage.register_type = none
due Stage.register_end = none
due (Stage.register_name t) = none
due Stage.blocks = none
due Stage.block_name = none
due Stage.block_body = none
due Stage.first_instruction = none
due Stage.next_instruction = none
due Stage.assignment = none
due Stage.instruction = none
due (Stage.source k o) = some (blocks_in o)
due (Stage.source_comma k o) = some (blocks_in o)
due (Stage.operand o) = some (blocks_in (operand_with o))
due Stage.number = some 0
due Stage.entry = some 0
due Stage.entry_end = some 0
due (Stage.mention k) = some (suc k)
due (Stage.mention_comma k) = some (suc k)
due Stage.operand_end = some 0
due Stage.instruction_end = some 0

-- The type of the register that is to be named, where the stage holds it.
abbrev pub type_in : Stage → Option ℕ
type_in Stage.top = none
type_in Stage.header = none
type_in Stage.result = none
type_in Stage.function_name = none
type_in Stage.parameters = none
type_in Stage.first_parameter = none
type_in Stage.parameter = none
type_in Stage.parameter_end = none
type_in (Stage.parameter_name t) = some t
type_in Stage.body = none
type_in Stage.declarations = none
type_in Stage.register_type = none
type_in Stage.register_end = none
type_in (Stage.register_name t) = some t
type_in Stage.blocks = none
type_in Stage.block_name = none
type_in Stage.block_body = none
type_in Stage.first_instruction = none
type_in Stage.next_instruction = none
type_in Stage.assignment = none
type_in Stage.instruction = none
type_in (Stage.source k o) = none
type_in (Stage.source_comma k o) = none
type_in (Stage.operand o) = none
type_in Stage.number = none
type_in Stage.entry = none
type_in Stage.entry_end = none
type_in (Stage.mention k) = none
type_in (Stage.mention_comma k) = none
type_in Stage.operand_end = none
type_in Stage.instruction_end = none

-- Between functions nothing is in hand; in a function there is room for it; the operand that the stage tells is that of the
-- instruction in hand; only a phi in hand has entries; the blocks mentioned and those still due are as many as the operand
-- names; the type that the stage holds is a type.
pub record StageReady (s : Stage) (d : Draft) : Type 0 where
  pub between : T (is_top s) → d ≡ fresh d.functions
  pub inside : T (not (is_top s)) → length d.functions < max_functions
  pub kind : (o : Operand) → operand_in s ≡ some o → operand_of (form_of d.parts.op) ≡ o
  pub entries : (form_of d.parts.op ≡ Form.phi) ⊎ (d.parts.entries ≡ [])
  pub mentions : (k : ℕ) → due s ≡ some k → length d.parts.mentions + k ≡ blocks_in (operand_of (form_of d.parts.op))
  pub types : (t : ℕ) → type_in s ≡ some t → t < type_count

-- The same of the tokens so far.
abbrev pub ReadyAt : Parse → Type 0
ReadyAt (Parse.refused n p) = Unit
ReadyAt (Parse.reading s d) = StageReady s d
