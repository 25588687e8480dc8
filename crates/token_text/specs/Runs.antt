-- Runs of a name's bytes between quotes. Assumes nothing.
use Rattle.std.specs.Prelude.{◌≡◌, List, ℕ, ◌-◌, ◌≤◌, ◌<◌, length, get_or, take, drop}
use Rattle.language.specs.Bytes.{quote_byte}
use Rattle.language.specs.Names.{escaped}

-- The bytes from place i up to place r have no quote, and at r stands one or the end.
pub record Run (name : List ℕ) (i r : ℕ) : Type 0 where
  pub on : i ≤ r
  pub within : r ≤ length name
  pub bare : escaped (take (r - i) (drop i name)) ≡ take (r - i) (drop i name)
  pub ends : r < length name → get_or name r 0 ≡ quote_byte
