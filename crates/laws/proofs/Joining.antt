-- Tests of two lists put together, and tests that say the same.
-- Assumes nothing.
use mathlib.Core.Bool.{Bool, true, false, ◌&&◌, ◌||◌, and_assoc, or_assoc}
use mathlib.Core.List.{List, [], ◌∷◌, ◌++◌}
use mathlib.Core.Path.{◌≡◌, refl, sym, ap, ◌∙◌}
use Rattle.laws.specs.Lists.{any, all}

module _ {A : Type 0} (p : A → Bool) where
  pub all_both : (xs ys : List A) → all p (xs ++ ys) ≡ (all p xs && all p ys)
  all_both [] ys = refl
  all_both (x ∷ xs) ys = ap (λ (b : Bool). p x && b) (all_both xs ys) ∙ sym (and_assoc (p x) (all p xs) (all p ys))

  pub any_both : (xs ys : List A) → any p (xs ++ ys) ≡ (any p xs || any p ys)
  any_both [] ys = refl
  any_both (x ∷ xs) ys = ap (λ (b : Bool). p x || b) (any_both xs ys) ∙ sym (or_assoc (p x) (any p xs) (any p ys))

-- ---- tests that say the same

pub equal_tests : (a b : Bool) → (a ≡ true → b ≡ true) → (b ≡ true → a ≡ true) → a ≡ b
equal_tests true b f g = sym (f refl)
equal_tests false true f g = g refl
equal_tests false false f g = refl

pub is_not : (b : Bool) → (b ≡ true → ⊥) → b ≡ false
is_not true h = absurd (h refl)
is_not false h = refl
