-- The arguments of a call: words by meaning, as the registers of a function's parameters hold them. Assumes nothing.
use Rattle.std.specs.Prelude.{Bool, false, is_none, List, map, ℕ, get_or, Option, Some}
use Rattle.std.specs.Option.{unwrap_or}
use Rattle.laws.specs.Lists.{position, below}
use Rattle.language.specs.Programs.{Func, type_at}
use Rattle.decimal.specs.Meanings.{bits_from}
use Rattle.decimal.specs.declared.words.Decimal.{Decimal}

abbrev pub is_outside : Option ℕ → Bool
is_outside b = is_none b

abbrev pub bits_held : Option ℕ → ℕ
bits_held b = unwrap_or b 0

-- The words after the budget: how many were given, and the numbers that the first 256 say. No function has more parameters.
pub record Given : Type 0 where
  pub count : ℕ
  pub numbers : List (Option Decimal)

abbrev pub given_of : ℕ → List (Option Decimal) → Given
given_of n ds = record { count = n; numbers = ds }

-- What counts of an argument of which nothing is kept.
abbrev pub unkept : Option Decimal
unkept = Some (record { negative = false; magnitude = Some 0 })

-- Argument k as a register of its parameter's type holds it.
abbrev pub argument_bits : Func → Given → ℕ → Option ℕ
argument_bits f g k = bits_from (type_at f k) (get_or g.numbers k unkept)

-- The first argument outside its parameter's range by meaning, or their number.
unfoldable pub first_outside : Func → Given → ℕ
first_outside f g = position (λ k. is_outside (argument_bits f g k)) (below g.count)

-- The arguments as the registers hold them.
unfoldable pub arguments_of : Func → Given → List ℕ
arguments_of f g = map (λ k. bits_held (argument_bits f g k)) (below g.count)
