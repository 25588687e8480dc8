-- The leading phi of each block, and what holds while they are put down block by block.
-- Assumes nothing.
use Rattle.std.specs.Prelude.{◌≡◌, List, ℕ, ◌<◌, length, get_or}
use Rattle.laws.specs.Lists.{leading}
use Rattle.language.specs.Programs.{Func, is_phi, rows_at}
use Rattle.flow.specs.Layout.{phis_offset, phis_in}

-- How many phi stand before the first other row of block b.
unfoldable pub leading_phis : Func → ℕ → ℕ
leading_phis f b = length (leading is_phi (rows_at f b))

-- The leading phi of the first x blocks are put into m, which becomes m', and nothing before them changes.
pub record Led (f : Func) (m m' : List ℕ) (x : ℕ) : Type 0 where
  pub count : length m' ≡ length m
  pub phis : (b : ℕ) → b < x → phis_in m' b ≡ leading_phis f b
  pub before : (i : ℕ) → i < phis_offset → get_or m' i 0 ≡ get_or m i 0
