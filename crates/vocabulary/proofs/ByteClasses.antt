-- The table of classes at a byte, and classes by their numbers. Assumes nothing.
use mathlib.Core.Path.{◌≡◌, refl, ap, ◌∙◌}
use mathlib.Core.List.{List}
use Prim.Native.Nat.{ℕ, ◌<◌}
use native.Mathlib.Nat.{zero-add}
use lib.Dec.{eqb, ltb}
use lib.ListN.{get_or}
use Rattle.laws.proofs.Ranges.{get_or_map_from}
use Rattle.language.specs.Bytes.{Class, class_of, class_number, in_letters, letter_byte, in_name, name_byte}
use Rattle.vocabulary.specs.Classes.{class_table}

pub class_at : (classes : List ℕ) (b : ℕ) → classes ≡ class_table → b < 256 → get_or classes b 0 ≡ class_number (class_of b)
unfolding class_table
class_at classes b e h =
    rw e (get_or_map_from (λ x. class_number (class_of x)) 0 0 256 b h ∙ ap (λ (n : ℕ). class_number (class_of n)) (zero-add b))

-- ---- classes by their numbers

letter_in : (k : Class) → in_letters k ≡ eqb (class_number k) 0
letter_in Class.letter = refl
letter_in Class.digit = refl
letter_in Class.space = refl
letter_in Class.quote = refl
letter_in Class.sign = refl
letter_in Class.slash = refl
letter_in Class.mark = refl
letter_in Class.other = refl

name_in : (k : Class) → in_name k ≡ ltb (class_number k) 2
name_in Class.letter = refl
name_in Class.digit = refl
name_in Class.space = refl
name_in Class.quote = refl
name_in Class.sign = refl
name_in Class.slash = refl
name_in Class.mark = refl
name_in Class.other = refl

pub letter_test : (b : ℕ) → letter_byte b ≡ eqb (class_number (class_of b)) 0
letter_test b = letter_in (class_of b)

pub name_test : (b : ℕ) → name_byte b ≡ ltb (class_number (class_of b)) 2
name_test b = name_in (class_of b)
