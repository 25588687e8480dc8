-- The number of a name that is spelled like a made one, below 512; 512 is the number of any other name.
-- Assumes nothing.
use Rattle.std.specs.Prelude.{cond, List, [], ◌∷◌, ◌≡◌, ℕ, ◌-◌, ◌<◌, ◌≤◌, eqb, ltb}
use Rattle.laws.specs.Lists.{same}
use Rattle.language.specs.MadeNames.{made_name}

-- The prefix that begins with this byte: the dot follows.
abbrev pub prefix_of : ℕ → List ℕ
prefix_of first = first ∷ 46 ∷ []

-- The number of a digit from `least` on.
unfoldable pub digit_from : (least byte : ℕ) → ℕ
digit_from l b = cond (ltb b l) 512 (cond (ltb 57 b) 512 (b - 48))

unfoldable pub bounded : ℕ → ℕ
bounded n = cond (ltb n 512) n 512

-- r is the one number below 512 whose made name this is; 512, if there is none.
pub record Numbers (prefix name : List ℕ) (r : ℕ) : Type 0 where
  pub within : r ≤ 512
  pub told : (j : ℕ) → j < 512 → same (made_name prefix j) name ≡ eqb j r
