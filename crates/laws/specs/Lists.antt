-- Lists and tests: the few general functions that the definitions of the language are written with.
-- Assumes nothing.
use Rattle.std.specs.Prelude.{Bool, true, false, cond, ◌&&◌, ◌||◌, List, [], ◌∷◌, ◌++◌, ℕ, zero, suc, ◌+◌, eqb}

module _ {A : Type 0} where
  -- some element passes the test
  abbrev pub any : (A → Bool) → List A → Bool
  any p [] = false
  any p (x ∷ xs) = p x || any p xs

  -- every element passes the test
  abbrev pub all : (A → Bool) → List A → Bool
  all p [] = true
  all p (x ∷ xs) = p x && all p xs

  -- the elements that pass the test, in order
  abbrev pub keep : (A → Bool) → List A → List A
  keep p [] = []
  keep p (x ∷ xs) = cond (p x) (x ∷ keep p xs) (keep p xs)

  -- the elements before the first that fails the test
  abbrev pub leading : (A → Bool) → List A → List A
  leading p [] = []
  leading p (x ∷ xs) = cond (p x) (x ∷ leading p xs) []

  -- the place of the first element that passes the test, or the length
  abbrev pub position : (A → Bool) → List A → ℕ
  position p [] = zero
  position p (x ∷ xs) = cond (p x) zero (suc (position p xs))

  -- no elements
  abbrev pub empty : List A → Bool
  empty [] = true
  empty (x ∷ xs) = false

-- the lists f gives for the elements, one after the other
abbrev pub gather : {A B : Type 0} → (A → List B) → List A → List B
gather f [] = []
gather f (x ∷ xs) = f x ++ gather f xs

-- the pairs of elements at one place, as far as both lists go, joined by f
abbrev pub together : {A B C : Type 0} → (A → B → C) → List A → List B → List C
together f [] ys = []
together f (x ∷ xs) [] = []
together f (x ∷ xs) (y ∷ ys) = f x y ∷ together f xs ys

-- n numbers, from k on
abbrev pub from : ℕ → ℕ → List ℕ
from k zero = []
from k (suc n) = k ∷ from (suc k) n

-- the numbers below n
abbrev pub below : ℕ → List ℕ
below n = from zero n

abbrev pub sum : List ℕ → ℕ
sum [] = zero
sum (x ∷ xs) = x + sum xs

-- n is an element
abbrev pub member : ℕ → List ℕ → Bool
member n xs = any (λ x. eqb x n) xs

-- the same numbers in the same order
abbrev pub same : List ℕ → List ℕ → Bool
same [] [] = true
same [] (y ∷ ys) = false
same (x ∷ xs) [] = false
same (x ∷ xs) (y ∷ ys) = eqb x y && same xs ys
