-- Where the contents of a name are, and how they are gathered. Assumes nothing.
use Rattle.std.specs.Prelude.{cond, List, ℕ, ◌+◌, eqb, ltb, take, drop}

-- Stands for the place of contents that are gathered.
abbrev pub gathered_place : ℕ
gathered_place = 18446744073709551615

-- The n bytes of contents that begin at place s of the text, or are gathered.
unfoldable pub contents_in : (text held : List ℕ) (from bytes : ℕ) → List ℕ
contents_in text held s n = cond (eqb s gathered_place) (take n held) (take n (drop s text))

-- How many bytes n and one more are, where there is room.
unfoldable pub counted_at : (room n : ℕ) → ℕ
counted_at room n = cond (ltb n room) (n + 1) n
