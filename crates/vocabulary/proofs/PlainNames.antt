-- Plain names by the classes of their bytes. Assumes nothing.
use mathlib.Core.Bool.{Bool, true, false, not}
use mathlib.Core.List.{List, [], ◌∷◌}
use mathlib.Core.Path.{◌≡◌, refl, sym, ap, ◌∙◌}
use Prim.Native.Nat.{ℕ, ◌+◌, ◌-◌, ◌≤◌, ◌<◌}
use native.Mathlib.Numerals.{add-one}
use native.Mathlib.Omega.{arith}
use lib.Dec.{eqb}
use lib.ListN.{length, get_or, take, drop, drop_of_length-le}
use lib.Seq.{drop-cons, get_or-drop}
use Rattle.std.proofs.lemmas.Slice.{between_to_end}
use borrow.Author.Tests.{lt-ltb, le-ltb, eq-eqb, ne_eqb, not-true, not-false}
use Rattle.laws.specs.Lists.{all}
use Rattle.language.specs.Bytes.{class_of, class_number, letter_byte, name_byte}
use Rattle.language.specs.Names.{plain_bytes, plain_name}
use Rattle.language.specs.Words.{word_of, word_count}
use Rattle.vocabulary.specs.Classes.{class_table}
use Rattle.vocabulary.proofs.ByteClasses.{class_at, letter_test, name_test}

-- ---- one byte, by the number of its class

-- the class of byte i, looked up by a number that equals it
module _ (n classes : List ℕ) (i : ℕ) {w : ℕ} (e : classes ≡ class_table) (small : get_or n i 0 < 256) (q : w ≡ get_or n i 0) where
  class : get_or classes w 0 ≡ class_number (class_of (get_or n i 0))
  class = ap (λ (k : ℕ). get_or classes k 0) q ∙ class_at classes (get_or n i 0) e small

  pub letter_yes : get_or classes w 0 ≡ 0 → letter_byte (get_or n i 0) ≡ true
  letter_yes h = letter_test (get_or n i 0) ∙ eq-eqb _ 0 (sym class ∙ h)

  pub letter_no : (get_or classes w 0 ≡ 0 → ⊥) → letter_byte (get_or n i 0) ≡ false
  letter_no h = letter_test (get_or n i 0) ∙ ne_eqb _ 0 (λ z. h (class ∙ z))

  pub name_yes : get_or classes w 0 ≤ 1 → name_byte (get_or n i 0) ≡ true
  name_yes h = name_test (get_or n i 0) ∙ lt-ltb (class_number (class_of (get_or n i 0))) 2 (omega (arith, class, h))

  pub name_no : 1 < get_or classes w 0 → name_byte (get_or n i 0) ≡ false
  name_no h = name_test (get_or n i 0) ∙ le-ltb (class_number (class_of (get_or n i 0))) 2 (omega (arith, class, h))

-- ---- the bytes of a name

-- those after the first
abbrev pub rest : List ℕ → List ℕ
rest n = take (length n - 1) (drop 1 n)

rest_is : (n : List ℕ) → rest n ≡ drop 1 n
rest_is n = between_to_end n 1 (length n) (omega arith)

pub rest_small : (n : List ℕ) (i : ℕ) → ((k : ℕ) → get_or n k 0 < 256) → get_or (rest n) i 0 < 256
rest_small n i h = rw (rest_is n, get_or-drop 1 n i 0) (h (1 + i))

pub first_no : (n : List ℕ) → letter_byte (get_or n 0 0) ≡ false → false ≡ plain_bytes n
first_no [] e = refl
first_no (b ∷ n) e = rw e

pub first_on : (n : List ℕ) → letter_byte (get_or n 0 0) ≡ true → 1 ≤ length n → all name_byte (rest n) ≡ plain_bytes n
first_on [] e h = absurd (omega arith)
first_on (b ∷ n) e h = rw (rest_is (b ∷ n), e)

module _ (n : List ℕ) (i : ℕ) {r : Bool} (left : all name_byte (drop i n) ≡ r) where
  pub byte_no : i < length n → name_byte (get_or n i 0) ≡ false → false ≡ r
  byte_no h e = rw (drop-cons n i 0 h, e) at left

  pub byte_on : i < length n → name_byte (get_or n i 0) ≡ true → all name_byte (drop (i + 1) n) ≡ r
  byte_on h e = rw (add-one i) (rw (drop-cons n i 0 h, e) at left)

  pub bytes_end : length n ≤ i → true ≡ r
  bytes_end h = rw (drop_of_length-le n h) at left

-- ---- and no word

pub not_plain : (n : List ℕ) (r : Bool) → r ≡ plain_bytes n → not r ≡ true → false ≡ plain_name n
unfolding plain_name
not_plain n r e p = rw (sym e ∙ not-true r p)

pub no_word : (n : List ℕ) (r : Bool) {w : ℕ} → r ≡ plain_bytes n → not r ≡ false → w ≡ word_of n → eqb w word_count ≡ plain_name n
unfolding plain_name
no_word n r e p q = rw (sym e ∙ not-false r p, q)
