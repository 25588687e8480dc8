-- The classes of the bytes as numbers. Assumes nothing.
use Rattle.std.specs.Prelude.{List, map, ℕ}
use Rattle.laws.specs.Lists.{below}
use Rattle.language.specs.Bytes.{class_of, class_number}

-- "Each of the 256 byte values belongs to exactly one class": the class of each byte, by its number.
unfoldable pub class_table : List ℕ
class_table = map (λ b. class_number (class_of b)) (below 256)
