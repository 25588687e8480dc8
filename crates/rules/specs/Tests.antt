-- The tests of a row as one number: the lowest of 10 to 16 that it breaks.
-- Assumes nothing.
use Rattle.std.specs.Prelude.{Bool, cond, List, [], ◌∷◌, ℕ, suc}
use Rattle.language.specs.Programs.{Func}
use Rattle.language.specs.Checking.{Spot, breaks10, breaks11, breaks12, breaks13, breaks14, breaks15, breaks16}

-- The number of the first test that holds, the first having number k; 0 if none does.
abbrev pub lowest : ℕ → List Bool → ℕ
lowest k [] = 0
lowest k (b ∷ bs) = cond b k (lowest (suc k) bs)

-- The lowest of 10 to 16: what is left to test of a row whose numbers are in their ranges.
unfoldable pub form_fault : Func → Spot → ℕ
form_fault f s =
    lowest 10 (breaks10 f s ∷ breaks11 f s ∷ breaks12 f s ∷ breaks13 f s ∷ breaks14 f s ∷ breaks15 f s ∷ breaks16 f s ∷ [])

-- 11 to 16, which stand in one order in both.
unfoldable pub later_tests : Func → Spot → List Bool
later_tests f s = breaks11 f s ∷ breaks12 f s ∷ breaks13 f s ∷ breaks14 f s ∷ breaks15 f s ∷ breaks16 f s ∷ []
