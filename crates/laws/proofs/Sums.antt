-- Lengths and sums: of gathered lists, of what a test keeps and leaves, of lists taken together.
-- Assumes nothing.
use mathlib.Core.Path.{◌≡◌, refl, sym, ap, ap₂, ◌∙◌}
use mathlib.Core.Bool.{Bool, true, false, cond, not}
use mathlib.Core.List.{List, [], ◌∷◌, ◌++◌, map}
use Prim.Native.Nat.{ℕ, zero, suc, ◌≤◌, ◌<◌, ◌+◌, ◌*◌}
use native.Mathlib.Nat.{not-suc-le-zero, le_of_suc-le-suc, zero-add, add-zero, add-suc, add_comm, suc-add, suc-mul, zero-mul}
use native.Mathlib.Omega.{arith}
use lib.ListN.{length, get_or, set, drop}
use lib.Seq.{drop-cons}
use Rattle.laws.specs.Lists.{keep, gather, from, below, sum}
use Rattle.laws.proofs.Appending.{gather_append}
use Rattle.laws.proofs.Every.{Every, none, more}

module _ {A B : Type 0} (f : A → List B) where
  pub gather_map : {C : Type 0} (h : C → A) (xs : List C) → gather f (map h xs) ≡ gather (λ x. f (h x)) xs
  gather_map h [] = refl
  gather_map h (x ∷ xs) = ap (λ (r : List B). f (h x) ++ r) (gather_map h xs)

  pub gather_gather : {C : Type 0} (h : C → List A) (xs : List C) → gather f (gather h xs) ≡ gather (λ x. gather f (h x)) xs
  gather_gather h [] = refl
  gather_gather h (x ∷ xs) =
      gather_append f (h x) (gather h xs) ∙ ap (λ (r : List B). gather f (h x) ++ r) (gather_gather h xs)

module _ {A : Type 0} (p : A → Bool) where
  -- what a test leaves and what it keeps
  pub length_keeps : (xs : List A) → length (keep (λ x. not (p x)) xs) + length (keep p xs) ≡ length xs
  length_keeps [] = refl
  length_keeps (x ∷ xs) = case (p x) (length_keeps xs)
    where
      out : List A
      out = keep (λ x. not (p x)) xs

      case :
          (b : Bool)
          → length out + length (keep p xs) ≡ length xs
          → length (cond (not b) (x ∷ out) out) + length (cond b (x ∷ keep p xs) (keep p xs)) ≡ suc (length xs)
      case true e = add-suc _ _ ∙ ap suc e
      case false e = suc-add _ _ ∙ ap suc e

pub sum_const : {A : Type 0} (c : ℕ) (xs : List A) → sum (map (λ x. c) xs) ≡ length xs * c
sum_const c [] = sym (zero-mul c)
sum_const c (x ∷ xs) = ap (λ n. c + n) (sum_const c xs) ∙ sym (suc-mul (length xs) c ∙ add_comm (length xs * c) c)

pub sum_zero : {A : Type 0} (f : A → ℕ) {xs : List A} → Every (λ x. f x ≡ 0) xs → sum (map f xs) ≡ 0
sum_zero f none = refl
sum_zero f (more p h) = omega (arith, sum_zero f h)

-- terms left out are terms that are 0
pub sum_keep :
    {A : Type 0} (f : A → ℕ) (p : A → Bool) (xs : List A)
    → sum (map f (keep p xs)) ≡ sum (map (λ x. cond (p x) (f x) 0) xs)
sum_keep f p [] = refl
sum_keep f p (x ∷ xs) = case (p x) (sum_keep f p xs)
  where
    rest : ℕ
    rest = sum (map (λ x. cond (p x) (f x) 0) xs)

    case :
        (b : Bool)
        → sum (map f (keep p xs)) ≡ rest
        → sum (map f (cond b (x ∷ keep p xs) (keep p xs))) ≡ cond b (f x) 0 + rest
    case true e = ap (λ n. f x + n) e
    case false e = e ∙ sym (zero-add rest)

sum_from_le : (f : ℕ → ℕ) (k i n : ℕ) → i < n → sum (map f (from k i)) + f (k + i) ≤ sum (map f (from k n))
sum_from_le f k i zero h = absurd (not-suc-le-zero h)
sum_from_le f k zero (suc n) h = rw add-zero (omega arith)
sum_from_le f k (suc i) (suc n) h =
    rw (add-suc, ← suc-add) (omega (arith, sum_from_le f (suc k) i n (le_of_suc-le-suc h)))

pub sum_below_le : (f : ℕ → ℕ) (i n : ℕ) → i < n → sum (map f (below i)) + f i ≤ sum (map f (below n))
sum_below_le f i n h = rw zero-add at (sum_from_le f zero i n h)

pub sum_same : {A : Type 0} {f g : A → ℕ} → ((x : A) → f x ≡ g x) → (xs : List A) → sum (map f xs) ≡ sum (map g xs)
sum_same h [] = refl
sum_same h (x ∷ xs) = ap₂ (λ m n. m + n) (h x) (sum_same h xs)

-- a list by the numbers of its elements
map_from_suc : {A : Type 0} (f : ℕ → A) (k n : ℕ) → map f (from (suc k) n) ≡ map (λ i. f (suc i)) (from k n)
map_from_suc f k zero = refl
map_from_suc f k (suc n) = ap {B = List _} (λ r. f (suc k) ∷ r) (map_from_suc f (suc k) n)

pub map_get_or : {A B : Type 0} (g : A → B) (d : A) (xs : List A) → map (λ i. g (get_or xs i d)) (below (length xs)) ≡ map g xs
map_get_or g d [] = refl
map_get_or g d (x ∷ xs) =
    ap {B = List _} (λ r. g x ∷ r) (map_from_suc (λ i. g (get_or (x ∷ xs) i d)) zero (length xs) ∙ map_get_or g d xs)

-- the sum of what is left from a place on
pub sum_drop : (xs : List ℕ) (k : ℕ) → k < length xs → sum (drop k xs) ≡ get_or xs k 0 + sum (drop (suc k) xs)
sum_drop xs k h = ap sum (drop-cons xs k 0 h)

pub sum_drop_le : (k : ℕ) (xs : List ℕ) → sum (drop k xs) ≤ sum xs
sum_drop_le zero xs = omega arith
sum_drop_le (suc k) [] = omega arith
sum_drop_le (suc k) (x ∷ xs) = omega (arith, sum_drop_le k xs)

-- a store adds its number at most
pub sum_set_le : (xs : List ℕ) (i v : ℕ) → sum (set xs i v) ≤ sum xs + v
sum_set_le [] i v = omega arith
sum_set_le (x ∷ xs) zero v = omega arith
sum_set_le (x ∷ xs) (suc i) v = omega (arith, sum_set_le xs i v)
