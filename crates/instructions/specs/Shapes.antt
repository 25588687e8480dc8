-- What an instruction looks like, as numbers. Assumes nothing.
use Rattle.std.specs.Prelude.{Bool, ℕ, leb}
use Rattle.language.specs.Instructions.{Form, Operand, form_number, form_of, has_target, source_count, operand_of, jump_op}
use Rattle.instructions.specs.declared.Shape.{Shape}

-- An operand's kind as a number below 5, in the order of its definition.
abbrev pub operand_number : Operand → ℕ
operand_number Operand.none = 0
operand_number Operand.number = 1
operand_number Operand.registers = 2
operand_number Operand.block = 3
operand_number Operand.blocks = 4

abbrev pub shape_from : (form : ℕ) (target : Bool) (sources operand : ℕ) → Shape
shape_from f t s o = record { form = f; target = t; sources = s; operand = o }

-- "Which of these must be present": the form with its target, sources and operand.
abbrev pub shape_as : Form → Shape
shape_as f = shape_from (form_number f) (has_target f) (source_count f) (operand_number (operand_of f))

unfoldable pub shape_of : ℕ → Shape
shape_of n = shape_as (form_of n)

-- The terminators are the last of the instructions: of an instruction's number this is whether it is one.
abbrev pub is_terminator_op : ℕ → Bool
is_terminator_op op = leb jump_op op
