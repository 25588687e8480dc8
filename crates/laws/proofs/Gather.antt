-- Lists gathered from parts: their length, what is kept of them, and where each part stands.
-- Assumes nothing.
use mathlib.Core.Path.{◌≡◌, refl, ap, ◌∙◌}
use mathlib.Core.Bool.{Bool, true, false, cond}
use mathlib.Core.List.{List, [], ◌∷◌, ◌++◌, map, map-append}
use Prim.Native.Nat.{ℕ, zero, suc, ◌+◌, ◌≤◌, ◌<◌}
use native.Mathlib.Nat.{not-suc-le-zero, le_of_suc-le-suc, zero-add, add_assoc}
use native.Mathlib.Omega.{arith}
use lib.ListN.{length, get_or, take, length-append, get_or-append}
use lib.Seq.{get_or-append-add, take-suc}
use Rattle.laws.specs.Lists.{keep, gather, sum}
use Rattle.laws.proofs.Appending.{sum_append}

module _ {A B : Type 0} (f : A → List B) where
  pub length_gather : (xs : List A) → length (gather f xs) ≡ sum (map (λ x. length (f x)) xs)
  length_gather [] = refl
  length_gather (x ∷ xs) = length-append (f x) (gather f xs) ∙ ap (λ (n : ℕ). length (f x) + n) (length_gather xs)

  -- element k of part i
  pub get_or_gather :
      (xs : List A) (i k : ℕ) (a : A) (d : B)
      → i < length xs
      → k < length (f (get_or xs i a))
      → get_or (gather f xs) (sum (map (λ x. length (f x)) (take i xs)) + k) d ≡ get_or (f (get_or xs i a)) k d
  get_or_gather [] i k a d h l = absurd (not-suc-le-zero h)
  get_or_gather (x ∷ xs) zero k a d h l =
      ap (λ (n : ℕ). get_or (f x ++ gather f xs) n d) (zero-add k) ∙ get_or-append (f x) (gather f xs) d k l
  get_or_gather (x ∷ xs) (suc i) k a d h l =
      let s = sum (map (λ x. length (f x)) (take i xs)) in
      ap (λ (n : ℕ). get_or (f x ++ gather f xs) n d) (add_assoc (length (f x)) s k)
      ∙ get_or-append-add (f x) (gather f xs) (s + k) d
      ∙ get_or_gather xs i k a d (le_of_suc-le-suc h) l

  -- parts left out are parts with no elements
  pub gather_keep : (p : A → Bool) (xs : List A) → gather f (keep p xs) ≡ gather (λ x. cond (p x) (f x) []) xs
  gather_keep p [] = refl
  gather_keep p (x ∷ xs) = case (p x) (gather_keep p xs)
    where
      case :
          (b : Bool)
          → gather f (keep p xs) ≡ gather (λ x. cond (p x) (f x) []) xs
          → gather f (cond b (x ∷ keep p xs) (keep p xs)) ≡ cond b (f x) [] ++ gather (λ x. cond (p x) (f x) []) xs
      case true e = ap (λ (r : List B). f x ++ r) e
      case false e = e

module _ {A : Type 0} where
  pub keep_append : (p : A → Bool) (xs ys : List A) → keep p (xs ++ ys) ≡ keep p xs ++ keep p ys
  keep_append p [] ys = refl
  keep_append p (x ∷ xs) ys = case (p x) (keep_append p xs ys)
    where
      case :
          (b : Bool)
          → keep p (xs ++ ys) ≡ keep p xs ++ keep p ys
          → cond b (x ∷ keep p (xs ++ ys)) (keep p (xs ++ ys)) ≡ cond b (x ∷ keep p xs) (keep p xs) ++ keep p ys
      case true e = ap (λ (r : List A). x ∷ r) e
      case false e = e

  pub keep_gather :
      {B : Type 0} (p : A → Bool) (f : B → List A) (xs : List B)
      → keep p (gather f xs) ≡ gather (λ x. keep p (f x)) xs
  keep_gather p f [] = refl
  keep_gather p f (x ∷ xs) =
      keep_append p (f x) (gather f xs) ∙ ap (λ (r : List A). keep p (f x) ++ r) (keep_gather p f xs)

-- f of each element of the parts
pub map_gather : {A B C : Type 0} (f : B → C) (g : A → List B) (xs : List A) → map f (gather g xs) ≡ gather (λ x. map f (g x)) xs
map_gather f g [] = refl
map_gather f g (x ∷ xs) = map-append f (g x) (gather g xs) ∙ ap (λ r. map f (g x) ++ r) (map_gather f g xs)

-- a running sum and its next term are within the whole
pub sum_take_le :
    {A : Type 0} (f : A → ℕ) (xs : List A) (i : ℕ) (a : A)
    → i < length xs
    → sum (map f (take i xs)) + f (get_or xs i a) ≤ sum (map f xs)
sum_take_le f [] i a h = absurd (not-suc-le-zero h)
sum_take_le f (x ∷ xs) zero a h = omega arith
sum_take_le f (x ∷ xs) (suc i) a h = omega (arith, sum_take_le f xs i a (le_of_suc-le-suc h))

-- one term more
pub sum_take_suc : {A : Type 0} (s : A → ℕ) (d : A) (xs : List A) (i : ℕ) → i < length xs
    → sum (map s (take (suc i) xs)) ≡ sum (map s (take i xs)) + s (get_or xs i d)
sum_take_suc s d xs i h = rw (take-suc xs i d h, sum_append s (take i xs) (get_or xs i d ∷ [])) (omega arith)
