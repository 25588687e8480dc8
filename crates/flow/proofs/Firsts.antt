-- The place of the first element that passes a test, and how many lead a list.
-- Assumes nothing.
use mathlib.Core.Path.{◌≡◌, refl, sym, ap}
use mathlib.Core.Bool.{Bool, true, false}
use mathlib.Core.List.{List, [], ◌∷◌}
use Prim.Native.Nat.{ℕ, zero, suc, ◌<◌, suc-le-suc}
use native.Mathlib.Nat.{not-suc-le-zero, le_of_suc-le-suc, zero-lt-suc}
use native.Mathlib.Omega.{arith}
use lib.ListN.{length, get_or}
use Rattle.laws.specs.Lists.{any, leading, position}
use Rattle.laws.proofs.Agreeing.{position_is}
use Rattle.laws.proofs.Every.{every_of, none_every}

module _ {A : Type 0} (p : A → Bool) where
  -- the place of the first that passes
  pub position_at :
      (xs : List A) (i : ℕ) (d : A)
      → i < length xs
      → ((j : ℕ) → j < i → p (get_or xs j d) ≡ false)
      → p (get_or xs i d) ≡ true
      → position p xs ≡ i
  position_at xs i d l h e = sym (position_is p d xs i (omega arith) h (λ b. e))

  -- none passes, place by place
  pub any_nowhere : (xs : List A) (d : A) → ((i : ℕ) → i < length xs → p (get_or xs i d) ≡ false) → any p xs ≡ false
  any_nowhere xs d h = none_every p (every_of d xs h)

  -- how many lead: up to the first that fails, or all
  pub leading_to :
      (xs : List A) (j : ℕ) (d : A)
      → j < length xs
      → ((i : ℕ) → i < j → p (get_or xs i d) ≡ true)
      → p (get_or xs j d) ≡ false
      → length (leading p xs) ≡ j
  leading_to [] j d l h e = absurd (not-suc-le-zero l)
  leading_to (x ∷ xs) zero d l h e = rw e
  leading_to (x ∷ xs) (suc j) d l h e =
      rw (h zero (zero-lt-suc j)) (ap suc (leading_to xs j d (le_of_suc-le-suc l) (λ i m. h (suc i) (suc-le-suc m)) e))

  pub leading_all : (xs : List A) (d : A) → ((i : ℕ) → i < length xs → p (get_or xs i d) ≡ true) → length (leading p xs) ≡ length xs
  leading_all [] d h = refl
  leading_all (x ∷ xs) d h = rw (h zero (zero-lt-suc (length xs))) (ap suc (leading_all xs d (λ i m. h (suc i) (suc-le-suc m))))
