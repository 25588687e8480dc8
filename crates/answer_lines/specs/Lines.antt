-- The line of a run's answer, tabs between: `returned`, value, steps; `left`, steps; `stopped`, number, place, steps; `refused`, number, place.
-- Assumes nothing.
use Rattle.std.specs.Prelude.{List, [], ◌∷◌, ◌++◌, ℕ, suc, ◌^◌, ◌%◌, ℤ, pos, negsuc}
use Rattle.language.specs.Bytes.{bytes_of, minus}
use Rattle.language.specs.Instructions.{width}
use Rattle.language.specs.Arithmetic.{meaning}
use Rattle.language.specs.Answers.{Ran}
use Rattle.language.specs.Listing.{tab, digits, line, refused_line}

-- A whole number in decimal.
abbrev pub decimal_of : ℤ → List ℕ
decimal_of (pos n) = digits n
decimal_of (negsuc n) = minus ∷ digits (suc n)

-- A returned number by meaning: the function's return type reads its lowest w bits, which are all it has.
unfoldable pub value_written : (type value : ℕ) → List ℕ
value_written t v = decimal_of (meaning t (v % 2 ^ width t))

-- How many bytes such a line takes at most.
abbrev pub ran_most : ℕ
ran_most = 100

-- The answer of a run of a function with this return type.
abbrev pub ran_line : (type : ℕ) → Ran → List ℕ
ran_line t (Ran.returned v s) = line (bytes_of "returned" ++ (tab ∷ value_written t v)) (s ∷ [])
ran_line t (Ran.left s) = line (bytes_of "left") (s ∷ [])
ran_line t (Ran.stopped n p s) = line (bytes_of "stopped") (n ∷ p ∷ s ∷ [])
ran_line t (Ran.refused n p) = refused_line n p
