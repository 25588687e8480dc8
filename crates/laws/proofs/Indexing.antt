-- Lists by index: ranges, images, stores past a seam, tests of all elements.
-- Assumes nothing.
use mathlib.Core.Path.{◌≡◌, refl, sym, ap, ◌∙◌}
use mathlib.Core.Bool.{Bool, true, false, cond, ◌||◌, false≢true, or-true}
use mathlib.Core.List.{List, [], ◌∷◌, ◌++◌, map, append_assoc}
use Prim.Native.Nat.{ℕ, zero, suc, ◌+◌, ◌≤◌, ◌<◌, suc-le-suc}
use native.Mathlib.Nat.{not-suc-le-zero, le_of_suc-le-suc, zero-lt-suc, zero-add, add-zero, add-suc, suc-add, suc_inj}
use native.Mathlib.Numerals.{add-one}
use native.Mathlib.Omega.{arith}
use lib.Dec.{T, ltb, ltb→lt}
use lib.ListN.{length, get_or, take, drop, set}
use lib.Seq.{sets, sets-eq, drop_at, drop-drop, get_or-drop, length-take-le}
use lib.Ieee.Fits.{and_i, and_l, and_r}
use Rattle.laws.specs.Lists.{any, all, position, empty, together, from, below}
use Rattle.laws.proofs.Tests.{or_left, or_right}

-- ---- ranges of numbers

pub length_from : (k n : ℕ) → length (from k n) ≡ n
length_from k zero = refl
length_from k (suc n) = ap suc (length_from (suc k) n)

pub get_or_from : (k n i d : ℕ) → i < n → get_or (from k n) i d ≡ k + i
get_or_from k zero i d h = absurd (not-suc-le-zero h)
get_or_from k (suc n) zero d h = sym (add-zero k)
get_or_from k (suc n) (suc i) d h = get_or_from (suc k) n i d (le_of_suc-le-suc h) ∙ suc-add k i ∙ sym (add-suc k i)

pub take_from : (k n i : ℕ) → i ≤ n → take i (from k n) ≡ from k i
take_from k n zero h = refl
take_from k zero (suc i) h = absurd (not-suc-le-zero h)
take_from k (suc n) (suc i) h = ap (λ (r : List ℕ). k ∷ r) (take_from (suc k) n i (le_of_suc-le-suc h))

pub length_below : (n : ℕ) → length (below n) ≡ n
length_below n = length_from zero n

pub get_or_below : (n i d : ℕ) → i < n → get_or (below n) i d ≡ i
get_or_below n i d h = get_or_from zero n i d h ∙ zero-add i

pub take_below : (n i : ℕ) → i ≤ n → take i (below n) ≡ below i
take_below n i h = take_from zero n i h

-- ---- images

module _ {A B : Type 0} where
  -- at an index in the list any default serves
  pub get_d_map : (f : A → B) (xs : List A) (i : ℕ) (d : A) (e : B) → i < length xs → get_or (map f xs) i e ≡ f (get_or xs i d)
  get_d_map f [] i d e h = absurd (not-suc-le-zero h)
  get_d_map f (x ∷ xs) zero d e h = refl
  get_d_map f (x ∷ xs) (suc i) d e h = get_d_map f xs i d e (le_of_suc-le-suc h)

-- a list and as many numbers go together to the end
pub length_together_from :
    {A B : Type 0} (f : ℕ → A → B) (k : ℕ) (xs : List A)
    → length (together f (from k (length xs)) xs) ≡ length xs
length_together_from f k [] = refl
length_together_from f k (x ∷ xs) = ap suc (length_together_from f (suc k) xs)

-- numbers and their images
pub together_from : {A B : Type 0} (g : ℕ → A → B) (f : ℕ → A) (k n : ℕ) → together g (from k n) (map f (from k n)) ≡ map (λ i. g i (f i)) (from k n)
together_from g f k zero = refl
together_from {B = B} g f k (suc n) = ap (λ (r : List B). g k (f k) ∷ r) (together_from g f (suc k) n)

-- ---- two lists, the first as long or longer

module _ {A B C : Type 0} (g : A → B → C) where
  pub length_together_le : (xs : List A) (ys : List B) → length ys ≤ length xs → length (together g xs ys) ≡ length ys
  length_together_le [] [] l = refl
  length_together_le [] (y ∷ ys) l = absurd (not-suc-le-zero l)
  length_together_le (x ∷ xs) [] l = refl
  length_together_le (x ∷ xs) (y ∷ ys) l = ap suc (length_together_le xs ys (le_of_suc-le-suc l))

  pub get_or_together :
      (d : A) (e : B) (z : C) (xs : List A) (ys : List B) (i : ℕ)
      → length ys ≤ length xs
      → i < length ys
      → get_or (together g xs ys) i z ≡ g (get_or xs i d) (get_or ys i e)
  get_or_together d e z xs [] i l h = absurd (not-suc-le-zero h)
  get_or_together d e z [] (y ∷ ys) i l h = absurd (not-suc-le-zero l)
  get_or_together d e z (x ∷ xs) (y ∷ ys) zero l h = refl
  get_or_together d e z (x ∷ xs) (y ∷ ys) (suc i) l h = get_or_together d e z xs ys i (le_of_suc-le-suc l) (le_of_suc-le-suc h)

-- ---- an element of the second list is another one

module _ {A B C : Type 0} (g : A → B → C) where
  pub together_set :
      (d : A) (xs : List A) (ys : List B) (i : ℕ) (y : B) → i < length xs → together g xs (set ys i y) ≡ set (together g xs ys) i (g (get_or xs i d) y)
  together_set d [] ys i y h = absurd (not-suc-le-zero h)
  together_set d (x ∷ xs) [] i y h = refl
  together_set d (x ∷ xs) (z ∷ ys) zero y h = refl
  together_set d (x ∷ xs) (z ∷ ys) (suc i) y h = ap (λ (r : List C). g x z ∷ r) (together_set d xs ys i y (le_of_suc-le-suc h))

-- ---- what goes by one of the two lists alone

module _ {A B C : Type 0} (g : A → B → C) where
  pub map_together_first :
      {D : Type 0} (f : A → D) (h : C → D)
      → ((x : A) (y : B) → h (g x y) ≡ f x)
      → (xs : List A) (ys : List B)
      → length xs ≡ length ys
      → map h (together g xs ys) ≡ map f xs
  map_together_first f h k [] ys e = refl
  map_together_first f h k (x ∷ xs) [] e = absurd (omega arith)
  map_together_first f h k (x ∷ xs) (y ∷ ys) e = λ i. k x y i ∷ map_together_first f h k xs ys (suc_inj e) i

  pub map_together_second :
      (h : C → B) → ((x : A) (y : B) → h (g x y) ≡ y) → (xs : List A) (ys : List B) → length xs ≡ length ys → map h (together g xs ys) ≡ ys
  map_together_second h k [] [] e = refl
  map_together_second h k [] (y ∷ ys) e = absurd (omega arith)
  map_together_second h k (x ∷ xs) [] e = absurd (omega arith)
  map_together_second h k (x ∷ xs) (y ∷ ys) e = λ i. k x y i ∷ map_together_second h k xs ys (suc_inj e) i

-- ---- a store past the seam

pub set_append_add : {A : Type 0} (xs ys : List A) (i : ℕ) (a : A) → set (xs ++ ys) (length xs + i) a ≡ xs ++ set ys i a
set_append_add [] ys i a = ap (λ (n : ℕ). set ys n a) (zero-add i)
set_append_add {A} (x ∷ xs) ys i a =
    ap (λ (n : ℕ). set (x ∷ (xs ++ ys)) n a) (suc-add (length xs) i)
    ∙ ap (λ (r : List A). x ∷ r) (set_append_add xs ys i a)

-- the elements stored from index i on, and what comes after them
pub drop_sets :
    {A : Type 0} (vs l : List A) (i : ℕ)
    → i + length vs ≤ length l
    → drop i (sets l i vs) ≡ vs ++ drop (i + length vs) l
drop_sets vs l i h =
    let rest = drop (i + length vs) l in
    ap (drop i) (sets-eq vs l i h ∙ append_assoc (take i l) vs rest)
    ∙ drop_at (take i l) (vs ++ rest) i (length-take-le i l (omega arith))

-- ---- what a list has at an index, and after it

pub get_or_of_drop : {A : Type 0} {a : A} {rest : List A} (l : List A) (i : ℕ) (d : A) → drop i l ≡ a ∷ rest → get_or l i d ≡ a
get_or_of_drop {A} l i d e =
    ap (λ (n : ℕ). get_or l n d) (sym (add-zero i)) ∙ sym (get_or-drop i l 0 d) ∙ ap (λ (r : List A). get_or r 0 d) e

pub drop_of_drop : {A : Type 0} {a : A} {rest : List A} (l : List A) (i : ℕ) → drop i l ≡ a ∷ rest → drop (suc i) l ≡ rest
drop_of_drop l i e = ap (λ (n : ℕ). drop n l) (sym (add-one i)) ∙ sym (drop-drop 1 i l) ∙ ap (drop 1) e

-- ---- whether a list has elements

pub empty_none : {A : Type 0} (xs : List A) → length xs ≡ 0 → empty xs ≡ true
empty_none [] e = refl
empty_none (x ∷ xs) e = absurd (omega arith)

pub empty_some : {A : Type 0} (xs : List A) → (length xs ≡ 0 → ⊥) → empty xs ≡ false
empty_some [] h = absurd (h refl)
empty_some (x ∷ xs) h = refl

-- ---- tests of all elements

module _ {A : Type 0} (p : A → Bool) where
  -- no element passes: the one at index i does not
  pub none_at : (xs : List A) (i : ℕ) (d : A) → any p xs ≡ false → i < length xs → p (get_or xs i d) ≡ false
  none_at [] i d e h = absurd (not-suc-le-zero h)
  none_at (x ∷ xs) zero d e h = or_left (p x) (any p xs) e
  none_at (x ∷ xs) (suc i) d e h = none_at xs i d (or_right (p x) (any p xs) e) (le_of_suc-le-suc h)

  -- every element passes: the one at index i does
  pub all_at : (xs : List A) (i : ℕ) (d : A) → T (all p xs) → i < length xs → T (p (get_or xs i d))
  all_at [] i d t h = absurd (not-suc-le-zero h)
  all_at (x ∷ xs) zero d t h = and_l (p x) (all p xs) t
  all_at (x ∷ xs) (suc i) d t h = all_at xs i d (and_r (p x) (all p xs) t) (le_of_suc-le-suc h)

  pub all_append_left : (xs ys : List A) → T (all p (xs ++ ys)) → T (all p xs)
  all_append_left [] ys t = tt
  all_append_left (x ∷ xs) ys t =
      and_i (p x) (all p xs) (and_l (p x) (all p (xs ++ ys)) t) (all_append_left xs ys (and_r (p x) (all p (xs ++ ys)) t))

  pub all_append_right : (xs ys : List A) → T (all p (xs ++ ys)) → T (all p ys)
  all_append_right [] ys t = t
  all_append_right (x ∷ xs) ys t = all_append_right xs ys (and_r (p x) (all p (xs ++ ys)) t)

  -- some element passes, since the one at index i does
  pub any_at : (xs : List A) (i : ℕ) (d : A) → i < length xs → p (get_or xs i d) ≡ true → any p xs ≡ true
  any_at [] i d h e = absurd (not-suc-le-zero h)
  any_at (x ∷ xs) zero d h e = ap (λ (b : Bool). b || any p xs) e
  any_at (x ∷ xs) (suc i) d h e = ap (λ (b : Bool). p x || b) (any_at xs i d (le_of_suc-le-suc h) e) ∙ or-true (p x)

  -- the first element that passes is one of the list, if some element passes
  pub position_lt : (xs : List A) → any p xs ≡ true → position p xs < length xs
  position_lt [] e = absurd (false≢true e)
  position_lt (x ∷ xs) e = first (p x) (λ h. position_lt xs h) e
    where
      first :
          (b : Bool)
          → (any p xs ≡ true → position p xs < length xs)
          → (b || any p xs) ≡ true
          → cond b zero (suc (position p xs)) < suc (length xs)
      first true later e = zero-lt-suc (length xs)
      first false later e = suc-le-suc (later e)

-- at a place within a list the default does not matter
pub get_or_inside : {A : Type 0} (xs : List A) (i : ℕ) (d e : A) → i < length xs → get_or xs i d ≡ get_or xs i e
get_or_inside [] i d e l = absurd (not-suc-le-zero l)
get_or_inside (x ∷ xs) zero d e l = refl
get_or_inside (x ∷ xs) (suc i) d e l = get_or_inside xs i d e (le_of_suc-le-suc l)

-- an element of a list of numbers below n, or a default below n
pub get_or_lt : (n : ℕ) (xs : List ℕ) (i d : ℕ) → T (all (λ x. ltb x n) xs) → d < n → get_or xs i d < n
get_or_lt n [] i d t h = h
get_or_lt n (x ∷ xs) zero d t h = ltb→lt x n (and_l (ltb x n) (all (λ x. ltb x n) xs) t)
get_or_lt n (x ∷ xs) (suc i) d t h = get_or_lt n xs i d (and_r (ltb x n) (all (λ x. ltb x n) xs) t) h

-- the same of the images under a function whose values are below n
pub get_or_map_lt : {A : Type 0} (f : A → ℕ) (n : ℕ) (xs : List A) (i d : ℕ) → ((x : A) → f x < n) → d < n → get_or (map f xs) i d < n
get_or_map_lt f n [] i d h l = l
get_or_map_lt f n (x ∷ xs) zero d h l = h x
get_or_map_lt f n (x ∷ xs) (suc i) d h l = get_or_map_lt f n xs i d h l
