-- Made names: as many as there are titles, and each its own spelling.
-- Assumes nothing.
use mathlib.Core.Bool.{Bool, true, false, cond, and-true}
use mathlib.Core.List.{List, [], ◌∷◌, ◌++◌}
use mathlib.Core.Path.{◌≡◌, refl, ap}
use Prim.Native.Nat.{ℕ, suc}
use lib.Dec.{T, eqb}
use lib.ListN.{length}
use borrow.Author.Tests.{eq-eqb}
use Rattle.laws.specs.Lists.{all}
use Rattle.language.specs.Bytes.{class_of, name_byte, quote_byte}
use Rattle.language.specs.Words.{words, word_of, word_count}
use Rattle.language.specs.Names.{plain_bytes, plain_name, escaped, spelling}
use Rattle.language.specs.Listing.{digits}
use Rattle.language.specs.MadeNames.{register_prefix, block_prefix, made_name, Title, given, wanted, next_free, entitled}
use Rattle.language.proofs.Digits.{digits_in_name}

pub entitled_length : (prefix : List ℕ) (used : List (List ℕ)) (k : ℕ) (ts : List Title) → length (entitled prefix used k ts) ≡ length ts
entitled_length prefix used k [] = refl
entitled_length prefix used k (given n ∷ ts) = ap suc (entitled_length prefix used k ts)
entitled_length prefix used k (wanted ∷ ts) = ap suc (entitled_length prefix used (suc (next_free prefix used k)) ts)

-- ---- how they are spelled

-- The prefixes of made names.
pub data Prefix : List ℕ → Type 0 where
  registers : Prefix (register_prefix)
  blocks : Prefix (block_prefix)

pub prefix_short : {prefix : List ℕ} → Prefix prefix → length prefix ≡ 2
prefix_short registers = refl
prefix_short blocks = refl

prefix_plain : {prefix : List ℕ} → Prefix prefix → (ds : List ℕ) → plain_bytes (prefix ++ ds) ≡ all name_byte ds
unfolding class_of
prefix_plain registers ds = refl
prefix_plain blocks ds = refl

prefix_no_word : {prefix : List ℕ} → Prefix prefix → (ds : List ℕ) → word_of (prefix ++ ds) ≡ word_count
unfolding word_of words
prefix_no_word registers ds = refl
prefix_no_word blocks ds = refl

pub made_plain_name : {prefix : List ℕ} → Prefix prefix → (j : ℕ) → T (plain_name (made_name prefix j))
unfolding plain_name
made_plain_name {prefix} p j =
    let word : eqb (word_of (made_name prefix j)) word_count ≡ true = eq-eqb (word_of (made_name prefix j)) word_count (prefix_no_word p (digits j)) in
    simp (prefix_plain p (digits j), word, and-true) (digits_in_name j)

pub plain_spelling : (n : List ℕ) → T (plain_name n) → spelling n ≡ n
unfolding spelling
plain_spelling n h = by (plain_name n) h
  where
    by : (t : Bool) → T t → cond t n (quote_byte ∷ (escaped n ++ (quote_byte ∷ []))) ≡ n
    by true h = refl
    by false h = absurd h

pub made_plain : {prefix : List ℕ} → Prefix prefix → (j : ℕ) → spelling (made_name prefix j) ≡ made_name prefix j
made_plain {prefix} p j = plain_spelling (made_name prefix j) (made_plain_name p j)
