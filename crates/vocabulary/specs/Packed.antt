-- Bytes as one number. Assumes nothing.
use Rattle.std.specs.Prelude.{List, [], ◌∷◌, ℕ, ◌+◌, ◌*◌}

-- The first is the lowest.
abbrev pub packed : List ℕ → ℕ
packed [] = 0
packed (b ∷ n) = b + 256 * packed n
