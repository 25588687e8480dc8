-- Lists gathered from a range of numbers: one number more, parts that agree, and any list by the numbers of its elements.
-- Assumes nothing.
use mathlib.Core.Path.{◌≡◌, refl, sym, ap, ap₂, ◌∙◌}
use mathlib.Core.List.{List, [], ◌∷◌, ◌++◌, append-nil}
use Prim.Native.Nat.{ℕ, zero, suc, ◌+◌, ◌-◌, ◌<◌, suc-le-suc}
use native.Mathlib.Nat.{zero-add, add-zero, add-suc, suc-add, zero-lt-suc}
use native.Mathlib.Numerals.{add-one}
use native.Mathlib.Omega.{arith}
use lib.ListN.{length, get_or, drop}
use Rattle.laws.specs.Lists.{gather, from, below}
use Rattle.laws.proofs.Appending.{gather_append}
use Rattle.laws.proofs.OneMore.{from_snoc}

module _ {B : Type 0} where
  pub gather_from_more : (f : ℕ → List B) (k n : ℕ) → gather f (from k (n + 1)) ≡ gather f (from k n) ++ f (k + n)
  gather_from_more f k n =
      ap (λ (m : ℕ). gather f (from k m)) (add-one n)
      ∙ ap (gather f) (from_snoc k n)
      ∙ gather_append f (from k n) ((k + n) ∷ [])
      ∙ ap (λ (r : List B). gather f (from k n) ++ r) (append-nil (f (k + n)))

  pub gather_below_more : (f : ℕ → List B) (n : ℕ) → gather f (below (n + 1)) ≡ gather f (below n) ++ f n
  gather_below_more f n = gather_from_more f 0 n ∙ ap (λ (m : ℕ). gather f (below n) ++ f m) (zero-add n)

  -- f and g that agree on n numbers from k on
  pub gather_from_same : (f g : ℕ → List B) (k n : ℕ) → ((i : ℕ) → i < n → f (k + i) ≡ g (k + i)) → gather f (from k n) ≡ gather g (from k n)
  gather_from_same f g k zero h = refl
  gather_from_same f g k (suc n) h =
      let here : f k ≡ g k = rw (add-zero k) at (h zero (zero-lt-suc n)) in
      let later : (i : ℕ) → i < n → f (suc k + i) ≡ g (suc k + i) = λ i b. rw (suc-add k i, ← add-suc k i) (h (suc i) (suc-le-suc b)) in
      ap₂ (λ (x y : List B). x ++ y) here (gather_from_same f g (suc k) n later)

  pub gather_from_suc : (f : ℕ → List B) (k n : ℕ) → gather f (from (suc k) n) ≡ gather (λ i. f (suc i)) (from k n)
  gather_from_suc f k zero = refl
  gather_from_suc f k (suc n) = ap (λ (r : List B). f (suc k) ++ r) (gather_from_suc f (suc k) n)

  -- a list by the numbers of its elements
  pub gather_numbers : {A : Type 0} (g : A → List B) (d : A) (xs : List A) → gather g xs ≡ gather (λ i. g (get_or xs i d)) (below (length xs))
  gather_numbers g d [] = refl
  gather_numbers g d (x ∷ xs) = ap (λ (r : List B). g x ++ r) (gather_numbers g d xs ∙ sym (gather_from_suc (λ i. g (get_or (x ∷ xs) i d)) 0 (length xs)))

  -- its elements from number k on
  pub gather_dropped : {A : Type 0} (g : A → List B) (d : A) (k : ℕ) (xs : List A) → gather g (drop k xs) ≡ gather (λ i. g (get_or xs i d)) (from k (length xs - k))
  gather_dropped g d zero xs = gather_numbers g d xs ∙ ap (λ (n : ℕ). gather (λ i. g (get_or xs i d)) (below n)) (let e : length xs ≡ length xs - 0 = omega arith in e)
  gather_dropped g d (suc k) [] = ap (λ (n : ℕ). gather (λ i. g (get_or [] i d)) (from (suc k) n)) (let e : 0 ≡ 0 - suc k = omega arith in e)
  gather_dropped g d (suc k) (x ∷ xs) =
      gather_dropped g d k xs
      ∙ sym (gather_from_suc (λ i. g (get_or (x ∷ xs) i d)) k (length xs - k))
      ∙ ap (λ (n : ℕ). gather (λ i. g (get_or (x ∷ xs) i d)) (from (suc k) n)) (let e : length xs - k ≡ suc (length xs) - suc k = omega arith in e)
