-- The lines that are shown, in their parts. Assumes nothing.
use mathlib.Core.Path.{◌≡◌, refl, ap, ◌∙◌}
use mathlib.Core.Bool.{Bool, true, false, cond}
use mathlib.Core.List.{List, [], ◌∷◌, ◌++◌, append_assoc, append-nil}
use Prim.Native.Nat.{ℕ, ◌^◌, ◌<◌}
use lib.IntN.{ℤ, pos, negsuc}
use Rattle.language.specs.Bytes.{bytes_of, line_feed, minus}
use Rattle.language.specs.Instructions.{width}
use Rattle.language.specs.Arithmetic.{meaning}
use Rattle.language.specs.Listing.{tab, digits, line, refused_line}
use Rattle.language.specs.Writing.{bytes_for, meant_token, number_token}
use Rattle.decimal.specs.Meanings.{meant_by}
use Rattle.decimal.specs.declared.ranges.Meant.{Meant}
use Rattle.merge_lines.specs.Lines.{reading_shown}

-- ---- a reading: digits, or a minus before them

meant_shown : (z : ℤ) → bytes_for (meant_token z) ≡ cond (meant_by z).negative (minus ∷ digits (meant_by z).magnitude) (digits (meant_by z).magnitude)
unfolding bytes_for
meant_shown (pos n) = refl
meant_shown (negsuc n) = refl

-- any number of 64 bits is a reading's
pub reading_fits : (x : ℕ) → x < 18446744073709551616 → x < 2 ^ width 3
unfolding width
reading_fits x h = h

module _ (x : ℕ) {m : Meant} (is : m ≡ meant_by (meaning 3 x)) where
  shown : reading_shown x ≡ cond m.negative (minus ∷ digits m.magnitude) (digits m.magnitude)
  unfolding reading_shown number_token
  shown = rw is (meant_shown (meaning 3 x))

  pub reading_plain : m.negative ≡ false → reading_shown x ≡ digits m.magnitude
  reading_plain e = shown ∙ ap (λ (b : Bool). cond b (minus ∷ digits m.magnitude) (digits m.magnitude)) e

  pub reading_negative : m.negative ≡ true → reading_shown x ≡ minus ∷ digits m.magnitude
  reading_negative e = shown ∙ ap (λ (b : Bool). cond b (minus ∷ digits m.magnitude) (digits m.magnitude)) e

-- ---- how many were merged, and a refusal

regroup : (s t d e : List ℕ) → s ++ ((t ++ d) ++ []) ++ e ≡ (s ++ t) ++ d ++ e
regroup s t d e = simp (append_assoc, append-nil)

pub merged_parts : (n : ℕ) → line (bytes_of "merged") (n ∷ []) ≡ (bytes_of "merged" ++ (tab ∷ [])) ++ digits n ++ (line_feed ∷ [])
unfolding line
merged_parts n = regroup (bytes_of "merged") (tab ∷ []) (digits n) (line_feed ∷ [])

regroup_two : (s t d f e : List ℕ) → s ++ ((t ++ d) ++ ((t ++ f) ++ [])) ++ e ≡ (s ++ t) ++ (d ++ t) ++ f ++ e
regroup_two s t d f e = simp (append_assoc, append-nil)

pub refused_parts :
    (n p : ℕ) → refused_line n p ≡ (bytes_of "refused" ++ (tab ∷ [])) ++ (digits n ++ (tab ∷ [])) ++ digits p ++ (line_feed ∷ [])
unfolding refused_line line
refused_parts n p = regroup_two (bytes_of "refused") (tab ∷ []) (digits n) (digits p) (line_feed ∷ [])
