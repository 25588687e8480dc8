-- The blocks that a block goes to, as code finds them.
-- Assumes nothing.
use Rattle.std.specs.Prelude.{Option, unwrap_or, ◌||◌, ◌≡◌, ℕ, ◌<◌, eqb}
use Rattle.language.specs.Programs.{Func, max_blocks}
use Rattle.language.specs.Checking.{goes_to}

-- The number of a block; 255 where there is none.
abbrev pub number_of : Option ℕ → ℕ
number_of o = unwrap_or o 255

-- Block x goes to these two blocks and no other, and they are not one; numbers from 64 on are no blocks.
pub record GoesOn (f : Func) (x first second : ℕ) : Type 0 where
  pub goes : (y : ℕ) → y < max_blocks → goes_to f x y ≡ (eqb first y || eqb second y)
  pub once : first < max_blocks → first ≡ second → ⊥
