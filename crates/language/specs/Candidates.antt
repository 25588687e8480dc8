-- The candidates of a word (document 02, A6): "compare a word only with the spellings of its length and first byte". Assumes nothing.
use Rattle.std.specs.Prelude.{Bool, ◌&&◌, List, ℕ, eqb, length, get_or}
use Rattle.laws.specs.Lists.{keep, same, below}
use Rattle.language.specs.Words.{word_count, spelling_of}

abbrev pub first_byte : List ℕ → ℕ
first_byte n = get_or n 0 0

-- Word number w has this length and this first byte.
abbrev pub is_candidate : ℕ → ℕ → ℕ → Bool
is_candidate l b w = eqb (length (spelling_of w)) l && eqb (first_byte (spelling_of w)) b

-- The words, by their numbers, with this length and this first byte.
unfoldable pub candidates : ℕ → ℕ → List ℕ
candidates l b = keep (is_candidate l b) (below word_count)

-- Those with the length and the first byte of word number w.
abbrev pub alike : ℕ → List ℕ
alike w = candidates (length (spelling_of w)) (first_byte (spelling_of w))

-- The first of some words, or the count of the words where there is none.
abbrev pub first_of : List ℕ → ℕ
first_of ws = get_or ws 0 word_count

-- The first of these words that is spelled n.
abbrev pub found_among : List ℕ → List ℕ → ℕ
found_among ws n = first_of (keep (λ w. same (spelling_of w) n) ws)
