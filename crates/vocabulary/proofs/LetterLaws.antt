-- Facts of all words, each by one test of the word list: how long they are, and their letters made of what the code keeps. Assumes nothing.
use mathlib.Core.Bool.{◌&&◌}
use mathlib.Core.Path.{◌≡◌}
use mathlib.Core.List.{List, [], ◌++◌}
use Prim.Native.Nat.{ℕ, ◌+◌, ◌≤◌, ◌<◌}
use lib.Dec.{ltb, leb, leb→le, ltb→lt}
use lib.Ieee.Fits.{and_l, and_r}
use lib.ListN.{length, drop, set, replicate, take}
use lib.Seq.{sets}
use Rattle.laws.specs.Lists.{same}
use Rattle.laws.proofs.Indexing.{all_at}
use Rattle.laws.proofs.Positions.{same_eq}
use Rattle.language.specs.Words.{words, word_count, spelling_of}
use Rattle.language.specs.Candidates.{first_byte}
use Rattle.language.specs.Table.{eight_bytes}
use Rattle.language.specs.Writing.{space_byte}
use Rattle.vocabulary.specs.Packed.{packed}
use Rattle.vocabulary.specs.Letters.{letters_of, spaces_behind}
use Rattle.vocabulary.specs.Chains.{shortest, longest}

module _ (w : ℕ) (h : w < word_count) where
  -- every word has 3 to 9 bytes
  pub word_length : (shortest ≤ length (spelling_of w)) × (length (spelling_of w) ≤ longest)
  unfolding words
  word_length =
      let n = length (spelling_of w) in
      let t = all_at (λ s. leb shortest (length s) && leb (length s) longest) words w [] tt h in
      (leb→le shortest n (and_l (leb shortest n) (leb n longest) t), leb→le n longest (and_r (leb shortest n) (leb n longest) t))

  abbrev rest : List ℕ → ℕ
  rest s = packed (drop 1 s) + spaces_behind (length s)

  pub rest_fits : rest (spelling_of w) < 18446744073709551616
  unfolding words spaces_behind
  rest_fits = ltb→lt (rest (spelling_of w)) 18446744073709551616 (all_at (λ s. ltb (rest s) 18446744073709551616) words w [] tt h)

  abbrev made : List ℕ → List ℕ
  made s = sets (set (replicate 10 space_byte) 0 (first_byte s)) 1 (eight_bytes (rest s))

  pub letters_made : made (spelling_of w) ≡ letters_of w
  unfolding words spaces_behind letters_of
  letters_made =
      same_eq (made (spelling_of w)) (letters_of w) (all_at (λ s. same (made s) (take 10 (s ++ replicate 10 space_byte))) words w [] tt h)
