-- What holds of a word's candidates (document 02, A6): "Show that these candidates are all such spellings, at most six, and that every text gives
-- the same answer as before."
-- Assumes nothing.
use Rattle.std.specs.Prelude.{◌≡◌, true, List, [], ◌∷◌, map, ℕ, ◌≤◌, ◌<◌, length}
use Rattle.laws.specs.Lists.{member}
use Rattle.language.specs.Bytes.{bytes_of}
use Rattle.language.specs.Words.{word_of, word_count, spelling_of}
use Rattle.language.specs.Candidates.{first_byte, candidates, found_among}

-- "the spellings of its length and first byte": word number w is one of them.
pub record Such (l b w : ℕ) : Type 0 where
  pub word : w < word_count
  pub long : length (spelling_of w) ≡ l
  pub first : first_byte (spelling_of w) ≡ b

-- "these candidates are all such spellings": each such word is among them, and each of them is such a word.
abbrev pub AllSuch : Type 0
AllSuch = (l b w : ℕ) → (Such l b w → member w (candidates l b) ≡ true) × (member w (candidates l b) ≡ true → Such l b w)

-- "at most six"
abbrev pub AtMostSix : Type 0
AtMostSix = (l b : ℕ) → length (candidates l b) ≤ 6

-- Six they are for these.
abbrev pub six : List (List ℕ)
six = map bytes_of ("ari.add" ∷ "ari.sub" ∷ "ari.mul" ∷ "ari.div" ∷ "ari.rem" ∷ "ari.neg" ∷ [])

abbrev pub ExactlySix : Type 0
ExactlySix = map spelling_of (candidates 7 (first_byte (bytes_of "ari.add"))) ≡ six

-- "every text gives the same answer as before": a name is found among its candidates exactly as among all words.
abbrev pub FoundAmongCandidates : Type 0
FoundAmongCandidates = (n : List ℕ) → found_among (candidates (length n) (first_byte n)) n ≡ word_of n
