-- The predecessors of blocks as far as they have been found, block by block.
-- Assumes nothing.
use Rattle.std.specs.Prelude.{List, map, ℕ, ◌<◌, length, get_or}
use Rattle.laws.specs.Lists.{below, keep}
use Rattle.language.specs.Programs.{Func}
use Rattle.language.specs.Checking.{goes_to}

-- The predecessors of block b that stand before block x.
unfoldable pub ranked_before : Func → ℕ → ℕ → List ℕ
ranked_before f x b = keep (λ y. goes_to f y b) (below x)

-- Those of each block.
unfoldable pub lists_before : Func → ℕ → List (List ℕ)
lists_before f x = map (ranked_before f x) (below (length f.blocks))

-- Each number is larger than those before it, as the numbers of blocks in the order declared are.
abbrev pub Ascending : List ℕ → Type 0
Ascending xs = (i j : ℕ) → i < j → j < length xs → get_or xs i 0 < get_or xs j 0
