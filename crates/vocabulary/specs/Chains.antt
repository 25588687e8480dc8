-- A word's candidates one after the other, as the look-up goes through them. Assumes nothing.
use Rattle.std.specs.Prelude.{List, map, ℕ, suc, ◌-◌, eqb, ltb, leb, drop}
use Rattle.laws.specs.Lists.{keep, from}
use Rattle.language.specs.Words.{spelling_of}
use Rattle.language.specs.Candidates.{candidates, alike, first_of}
use Rattle.vocabulary.specs.Packed.{packed}

-- Words have 3 to 9 bytes.
abbrev pub shortest : ℕ
shortest = 3

abbrev pub longest : ℕ
longest = 9

abbrev pub lengths : List ℕ
lengths = from shortest (suc longest - shortest)

-- For each length the first candidate with this first byte, as one number.
unfoldable pub first_candidates : ℕ → ℕ
first_candidates b = packed (map (λ l. first_of (candidates l b)) lengths)

-- The first word alike word number w that comes after it.
unfoldable pub next_alike : ℕ → ℕ
next_alike w = first_of (keep (ltb w) (alike w))

-- Word number w and the words alike it that come after it; none for the count of the words.
unfoldable pub from_on : ℕ → List ℕ
from_on w = keep (leb w) (alike w)

-- The first of these words whose bytes after the first are r.
abbrev pub rest_among : ℕ → List ℕ → ℕ
rest_among r ws = first_of (keep (λ w. eqb (packed (drop 1 (spelling_of w))) r) ws)
