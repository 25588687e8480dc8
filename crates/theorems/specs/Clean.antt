-- Vocabulary of contracts below the entry points: what acceptance says of one function, row by row (Accepted says it over paths, `RulesHold`), and
-- where a run of it can be. No statement cites it.
-- Assumes nothing.
use Rattle.std.specs.Prelude.{◌≡◌, true, false, [], ℕ, ◌<◌, T, length}
use Rattle.language.specs.Programs.{Func, rows_at}
use Rattle.language.specs.Checking.{spot_at, goes_to, sound, breaks_row, breaks17}
use Rattle.language.specs.Running.{Place}

-- The function breaks none of 9 to 17, the names of other functions apart.
pub record Clean (f : Func) : Type 0 where
  pub head : T (sound [] f)
  pub filled : (b : ℕ) → b < length f.blocks → 0 < length (rows_at f b)
  pub rows : (b j : ℕ) → j < length (rows_at f b) → breaks_row f (spot_at f b j) ≡ false
  pub paths : (b j : ℕ) → j < length (rows_at f b) → breaks17 f (spot_at f b j) ≡ false

-- A run can be at p: at a row of a block, which the block before goes to unless it is entry, where a run starts from no block.
pub record AtPlace (f : Func) (p : Place) : Type 0 where
  pub block : p.block < length f.blocks
  pub row : p.row < length (rows_at f p.block)
  pub came : (p.block ≡ f.entry → ⊥) → goes_to f p.before p.block ≡ true
