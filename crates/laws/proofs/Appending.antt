-- One more element: what `gather`, `sum`, `all` and `get_or` say of a list that has grown at its end, and what they say of a list mapped.
-- Assumes nothing.
use mathlib.Core.Bool.{Bool, true, ◌&&◌}
use mathlib.Core.Path.{◌≡◌, refl, sym, ap, ◌∙◌}
use mathlib.Core.List.{List, [], ◌∷◌, ◌++◌, map, map-append, append_assoc}
use Prim.Native.Nat.{ℕ, zero, suc, ◌+◌}
use native.Mathlib.Nat.{zero-add, add-zero, add_assoc}
use native.Mathlib.Omega.{arith}
use lib.Dec.{T}
use lib.ListN.{get_or}
use mir.Facts.{and_yes, yes_and}
use Rattle.laws.specs.Lists.{all, gather, sum}
use Rattle.laws.specs.Sections.{gather_from}

module _ {A B : Type 0} where
  pub gather_append : (f : A → List B) (xs ys : List A) → gather f (xs ++ ys) ≡ gather f xs ++ gather f ys
  gather_append f [] ys = refl
  gather_append f (x ∷ xs) ys = ap (λ (r : List B). f x ++ r) (gather_append f xs ys) ∙ sym (append_assoc (f x) (gather f xs) (gather f ys))

  pub gather_from_append : (size : A → ℕ) (f : ℕ → A → List B) (n : ℕ) (xs ys : List A)
      → gather_from size f n (xs ++ ys) ≡ gather_from size f n xs ++ gather_from size f (n + sum (map size xs)) ys
  gather_from_append size f n [] ys = rw add-zero
  gather_from_append size f n (x ∷ xs) ys =
      rw (← add_assoc, append_assoc) (ap (λ (r : List B). f n x ++ r) (gather_from_append size f (n + size x) xs ys))

  -- g keeps the sizes: the cells of the elements that it gives
  pub gather_from_map : (size : A → ℕ) (f h : ℕ → A → List B) (g : A → A) → ((x : A) → size (g x) ≡ size x) → ((n : ℕ) (x : A) → f n (g x) ≡ h n x)
      → (n : ℕ) (xs : List A) → gather_from size f n (map g xs) ≡ gather_from size h n xs
  gather_from_map size f h g s e n [] = refl
  gather_from_map size f h g s e n (x ∷ xs) = rw (e n x, s x) (ap (λ (r : List B). h n x ++ r) (gather_from_map size f h g s e (n + size x) xs))

  -- mapping g over the elements maps q over what they give
  pub gather_commutes : (f : A → List B) (g : A → A) (q : B → B) → ((x : A) → f (g x) ≡ map q (f x)) → (xs : List A) → gather f (map g xs) ≡ map q (gather f xs)
  gather_commutes f g q e [] = refl
  gather_commutes f g q e (x ∷ xs) = rw (e x, gather_commutes f g q e xs, map-append)

module _ {A : Type 0} where
  pub sum_append : (s : A → ℕ) (xs ys : List A) → sum (map s (xs ++ ys)) ≡ sum (map s xs) + sum (map s ys)
  sum_append s [] ys = sym (zero-add (sum (map s ys)))
  sum_append s (x ∷ xs) ys = omega (arith, sum_append s xs ys)

  pub all_append : (p : A → Bool) (xs ys : List A) → T (all p xs) → T (all p ys) → T (all p (xs ++ ys))
  all_append p [] ys h k = k
  all_append p (x ∷ xs) ys h k = let b = and_yes (p x) (all p xs) h in yes_and (p x) (all p (xs ++ ys)) b.0 (all_append p xs ys b.1 k)

  pub all_snoc : (p : A → Bool) (xs : List A) (x : A) → T (all p xs) → T (p x) → T (all p (xs ++ (x ∷ [])))
  all_snoc p xs x h k = all_append p xs (x ∷ []) h (yes_and (p x) true k tt)

  -- every element passes, and what stands past the end does: the one at any place does
  pub all_get_d : (p : A → Bool) (d : A) → T (p d) → (xs : List A) → T (all p xs) → (i : ℕ) → T (p (get_or xs i d))
  all_get_d p d e [] h i = e
  all_get_d p d e (x ∷ xs) h zero = (and_yes (p x) (all p xs) h).0
  all_get_d p d e (x ∷ xs) h (suc i) = all_get_d p d e xs (and_yes (p x) (all p xs) h).1 i

-- what f gives does not change with g
pub gather_same : {A B : Type 0} (f : A → List B) (g : A → A) → ((x : A) → f (g x) ≡ f x) → (xs : List A) → gather f (map g xs) ≡ gather f xs
gather_same f g e [] = refl
gather_same f g e (x ∷ xs) = rw (e x, gather_same f g e xs)

pub all_map : {A B : Type 0} (p : B → Bool) (f : A → B) (xs : List A) → all p (map f xs) ≡ all (λ x. p (f x)) xs
all_map p f [] = refl
all_map p f (x ∷ xs) = ap (λ b. p (f x) && b) (all_map p f xs)
