-- Numbers by meaning as the numbers below 2^w of a type, and back. Assumes nothing.
use Rattle.std.specs.Prelude.{Bool, true, false, cond, ℕ, suc, ℤ, pos, negsuc, Option, Some, None}
use Rattle.language.specs.Reading.{number_in_range, bits_of}
use Rattle.decimal.specs.declared.ranges.Meant.{Meant}
use Rattle.decimal.specs.declared.words.Decimal.{Decimal}

-- The number modulo 2^w if it lies in the type's range.
unfoldable pub bits_in : (type : ℕ) (negative : Bool) (magnitude : ℕ) → Option ℕ
bits_in t s v = cond (number_in_range t s v) (Some (bits_of t s v)) None

-- A number that a word says: no type's range reaches 2^64.
abbrev pub bits_below : (type : ℕ) (negative : Bool) → Option ℕ → Option ℕ
bits_below t s None = None
bits_below t s (Some v) = bits_in t s v

abbrev pub bits_from : (type : ℕ) → Option Decimal → Option ℕ
bits_from t None = None
bits_from t (Some d) = bits_below t d.negative d.magnitude

-- A whole number by its sign and its magnitude.
abbrev pub meant_by : ℤ → Meant
meant_by (pos n) = record { negative = false; magnitude = n }
meant_by (negsuc n) = record { negative = true; magnitude = suc n }
