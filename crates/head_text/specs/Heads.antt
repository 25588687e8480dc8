-- Parts of a function's head and of its declarations as text, and what they need of a table. Assumes nothing.
use Rattle.std.specs.Prelude.{cond, List, [], ◌∷◌, ◌++◌, ℕ, ◌≤◌, ◌<◌, eqb, get_or}
use Rattle.language.specs.Bytes.{comma}
use Rattle.language.specs.Instructions.{void, type_count}
use Rattle.language.specs.Programs.{Func, max_registers, no_register}
use Rattle.language.specs.Table.{function_result, function_params, register_count, register_type, InTable}
use Rattle.language.specs.Writing.{space_byte, line_bytes, register_line, parameter_part}
use Rattle.token_text.specs.Spaced.{spaced}

-- Register r with its type, a space behind each.
abbrev pub typed_bytes : Func → ℕ → List ℕ
typed_bytes f r = spaced (parameter_part (get_or f.registers r no_register))

-- The same with the comma that parts it from the one before.
abbrev pub parameter_bytes : Func → ℕ → List ℕ
parameter_bytes f r = cond (eqb r 0) [] (comma ∷ space_byte ∷ []) ++ typed_bytes f r

-- The line that declares register r.
abbrev pub register_bytes : Func → ℕ → List ℕ
register_bytes f r = line_bytes (register_line (get_or f.registers r no_register))

-- The function at cell a of t stands within t; its result, its parameters and the types of its registers are ones that there are.
pub record Declared (t : List ℕ) (a : ℕ) : Type 0 where
  pub within : InTable t a
  pub registers : register_count t a ≤ max_registers
  pub result : function_result t a ≤ void
  pub params : function_params t a ≤ register_count t a
  pub types : (r : ℕ) → r < register_count t a → register_type t a r < type_count
