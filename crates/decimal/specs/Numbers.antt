-- Decimal words and the numbers they say. Assumes nothing.
use Rattle.std.specs.Prelude.{Bool, true, false, cond, not, ◌&&◌, ℕ, ◌+◌, ◌-◌, ◌*◌, eqb, leb, ltb, Option, Some, None}
use mathlib.Core.List.{List, [], ◌∷◌, foldl}
use Rattle.laws.specs.Lists.{all, empty}
use Rattle.language.specs.Bytes.{minus, digit_zero}
use Rattle.instructions.specs.Ranges.{beyond}
use Rattle.decimal.specs.declared.words.Decimal.{Decimal}

-- A decimal digit.
unfoldable pub is_digit : ℕ → Bool
is_digit b = leb 48 b && ltb b 58

-- The number that decimal digits say.
abbrev pub with_digit : ℕ → ℕ → ℕ
with_digit n b = 10 * n + (b - digit_zero)

abbrev pub value_of : List ℕ → ℕ
value_of ds = foldl with_digit 0 ds

-- How a magnitude is kept: itself below 2^64.
unfoldable pub amount_kept : ℕ → Option ℕ
amount_kept n = cond (ltb n beyond) (Some n) None

-- A number with its sign: itself below 2^64, else its sign alone.
unfoldable pub decimal_from : (negative : Bool) (magnitude : ℕ) → Decimal
decimal_from s n = record { negative = s; magnitude = amount_kept n }

-- One or more digits and nothing else.
unfoldable pub unsigned : (negative : Bool) → List ℕ → Option Decimal
unsigned s ds = cond (not (empty ds) && all is_digit ds) (Some (decimal_from s (value_of ds))) None

-- An optional minus before them.
unfoldable pub number_of : List ℕ → Option Decimal
number_of [] = None
number_of (b ∷ bs) = cond (eqb b minus) (unsigned true bs) (unsigned false (b ∷ bs))
