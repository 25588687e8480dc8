-- The words of a call: a function, a budget, arguments. Assumes nothing.
use Rattle.std.specs.Prelude.{cond, List, ℕ, eqb, Option, Some, None}
use Rattle.std.specs.Option.{unwrap_or}
use Rattle.laws.specs.Lists.{same, position}
use Rattle.language.specs.Programs.{Program}
use Rattle.decimal.specs.Numbers.{number_of}
use Rattle.decimal.specs.declared.words.Decimal.{Decimal}

-- 2^64 - 1: no table has so many functions, and no run here takes so many steps.
abbrev pub most : ℕ
most = 18446744073709551615

-- ---- a function

-- The function whose name has these contents, or how many there are: then no function has that number.
unfoldable pub function_named : Program → List ℕ → ℕ
function_named p word = position (λ f. same f.name word) p

-- A word that says a number without a minus is that number, of any size; another is a name by its contents.
abbrev pub number_or : Option Decimal → ℕ → ℕ
number_or None k = k
number_or (Some d) k = cond d.negative k (unwrap_or d.magnitude most)

unfoldable pub function_by_word : Program → List ℕ → ℕ
function_by_word p word = number_or (number_of word) (function_named p word)

-- ---- a budget

-- "`-0` is 0"; a budget of 2^64 or more is 2^64 - 1.
abbrev pub zero_alone : Option ℕ → Option ℕ
zero_alone None = None
zero_alone (Some n) = cond (eqb n 0) (Some 0) None

abbrev pub budget_from : Option Decimal → Option ℕ
budget_from None = None
budget_from (Some d) = cond d.negative (zero_alone d.magnitude) (Some (unwrap_or d.magnitude most))

unfoldable pub budget_of : List ℕ → Option ℕ
budget_of word = budget_from (number_of word)
