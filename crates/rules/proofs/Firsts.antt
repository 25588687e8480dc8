-- Tests of what stands before the first element that passes, or fails.
-- Assumes nothing.
use mathlib.Core.Path.{◌≡◌, refl, sym, ap, ◌∙◌}
use mathlib.Core.Bool.{Bool, true, false, cond, not, ◌&&◌, ◌||◌}
use mathlib.Core.List.{List, [], ◌∷◌}
use Prim.Native.Nat.{ℕ, zero, suc, ◌≤◌, ◌<◌}
use native.Mathlib.Nat.{not-suc-le-zero, le_of_suc-le-suc}
use lib.Dec.{eqb, ltb, eqb-zero-suc, eqb-suc-suc, leb-zero, leb-suc-zero, leb-suc-suc}
use lib.ListN.{length, get_or, take}
use Rattle.laws.specs.Lists.{any, all, leading, position}

module _ {A : Type 0} (p : A → Bool) where
  -- of an element that passes: one before it does exactly if it is not the first
  pub any_before :
      (xs : List A) (k : ℕ) (d : A)
      → k < length xs
      → p (get_or xs k d) ≡ true
      → any p (take k xs) ≡ not (eqb (position p xs) k)
  any_before [] k d l e = absurd (not-suc-le-zero l)
  any_before (x ∷ xs) zero d l e = rw e
  any_before (x ∷ xs) (suc k) d l e = by (p x) (any_before xs k d (le_of_suc-le-suc l) e)
    where
      by :
          (b : Bool)
          → any p (take k xs) ≡ not (eqb (position p xs) k)
          → (b || any p (take k xs)) ≡ not (eqb (cond b zero (suc (position p xs))) (suc k))
      by true h = sym (ap not (eqb-zero-suc k))
      by false h = h ∙ ap not (sym (eqb-suc-suc (position p xs) k))

  -- one that fails stands before place j exactly if fewer than j lead
  pub any_after_leading : (xs : List A) (j : ℕ) → j ≤ length xs → any (λ x. not (p x)) (take j xs) ≡ ltb (length (leading p xs)) j
  any_after_leading xs zero l = sym (leb-suc-zero (length (leading p xs)))
  any_after_leading [] (suc j) l = absurd (not-suc-le-zero l)
  any_after_leading (x ∷ xs) (suc j) l = by (p x) (any_after_leading xs j (le_of_suc-le-suc l))
    where
      by :
          (b : Bool)
          → any (λ x. not (p x)) (take j xs) ≡ ltb (length (leading p xs)) j
          → (not b || any (λ x. not (p x)) (take j xs)) ≡ ltb (length (cond b (x ∷ leading p xs) [])) (suc j)
      by true h = h ∙ sym (leb-suc-suc (suc (length (leading p xs))) j)
      by false h = sym (leb-suc-suc zero j ∙ leb-zero j)

  pub any_and : (b : Bool) (xs : List A) → (b && any p xs) ≡ any (λ x. b && p x) xs
  any_and true xs = refl
  any_and false [] = refl
  any_and false (x ∷ xs) = any_and false xs

  -- some element passes exactly if not every one fails
  pub any_not_all : (xs : List A) → any p xs ≡ not (all (λ x. not (p x)) xs)
  any_not_all [] = refl
  any_not_all (x ∷ xs) = by (p x) (any_not_all xs)
    where
      by : (b : Bool) → any p xs ≡ not (all (λ x. not (p x)) xs) → (b || any p xs) ≡ not (not b && all (λ x. not (p x)) xs)
      by true h = refl
      by false h = h
