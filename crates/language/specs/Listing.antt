-- The listing: "A program prints a line for each function, tabs between: name, ssa, registers, blocks, instructions; or `refused`,
-- number, place." A name is spelled as in a text. Every line is ended by LF. Assumes nothing.
use Rattle.std.specs.Prelude.{true, false, List, [], ◌∷◌, ◌++◌, ℕ, zero, suc, ◌+◌, ◌/◌, ◌%◌, ltb, length}
use Rattle.laws.specs.Lists.{gather}
use Rattle.language.specs.Bytes.{bytes_of, digit_zero, line_feed}
use Rattle.language.specs.Programs.{Func, Program, rows_of}
use Rattle.language.specs.Names.{spelling}
use Rattle.language.specs.Reading.{Reading, read}
use Rattle.language.specs.Checking.{Verdict, check}

-- The decimal digits of a number that has no more than the first argument and one.
abbrev pub digits_within : ℕ → ℕ → List ℕ
digits_within zero n = (digit_zero + n) ∷ []
digits_within (suc k) n =
    elim (ltb n 10) [
      | true ↦ (digit_zero + n) ∷ []
      | false ↦ digits_within k (n / 10) ++ ((digit_zero + n % 10) ∷ [])
    ]

-- The decimal digits of a number, without leading zeros.
unfoldable pub digits : ℕ → List ℕ
digits n = digits_within n n

abbrev pub tab : ℕ
tab = 9

-- A line: some bytes, then numbers.
unfoldable pub line : List ℕ → List ℕ → List ℕ
line s ns = s ++ gather (λ n. tab ∷ digits n) ns ++ (line_feed ∷ [])

unfoldable pub function_line : Func → List ℕ
function_line f = line (spelling f.name) (f.ssa ∷ length f.registers ∷ length f.blocks ∷ length (rows_of f) ∷ [])

unfoldable pub listing_of : Program → List ℕ
listing_of p = gather function_line p

unfoldable pub refused_line : (number place : ℕ) → List ℕ
refused_line n p = line (bytes_of "refused") (n ∷ p ∷ [])

-- What is printed of a program: its lines, or its refusal by the check.
abbrev pub judged : Program → Verdict → List ℕ
judged p Verdict.accepted = listing_of p
judged p (Verdict.refused n r) = refused_line n r

abbrev pub listed : Reading → List ℕ
listed (Reading.refused n p) = refused_line n p
listed (Reading.program p) = judged p (check p)

-- What is printed of a text: it is read and checked.
unfoldable pub listing : List ℕ → List ℕ
listing text = listed (read text)
