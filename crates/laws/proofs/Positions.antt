-- Laws of `position` and `same`: a search from the front, and two lists compared element by element.
-- Assumes nothing.
use mathlib.Core.Path.{◌≡◌, refl, sym, ap, ◌∙◌}
use mathlib.Core.Bool.{Bool, true, false, cond, ◌||◌}
use mathlib.Core.List.{List, [], ◌∷◌, ◌++◌}
use Prim.Native.Nat.{ℕ, zero, suc, ◌+◌, ◌≤◌, ◌<◌, zero-le, suc-le-suc}
use native.Mathlib.Nat.{not-suc-le-zero, le_of_suc-le-suc, zero-lt-suc, add-zero, zero-add, add-suc, suc-add}
use native.Mathlib.Omega.{arith}
use lib.Dec.{T, eqb, ltb, eqb→eq, leb-suc-suc}
use borrow.Author.Tests.{eq-eqb, lt-ltb}
use mir.Facts.{and_yes}
use lib.ListN.{length, get_or}
use Rattle.laws.specs.Lists.{any, keep, from, below, position, same}
use Rattle.laws.proofs.Tests.{both_ways}

-- the first number from k on that passes is r steps on, or there is none among the n
pub position_from : (p : ℕ → Bool) (k n r : ℕ) → r ≤ n → ((i : ℕ) → i < r → p (k + i) ≡ false) → (r < n → p (k + r) ≡ true)
    → r ≡ position p (from k n)
position_from p k zero r h b f = omega arith
position_from p k (suc n) zero h b f = rw (ap p (sym (add-zero k)) ∙ f (zero-lt-suc n))
position_from p k (suc n) (suc r) h b f =
    let here : p k ≡ false = ap p (sym (add-zero k)) ∙ b zero (zero-lt-suc r) in
    let next : (i : ℕ) → k + suc i ≡ suc k + i = λ i. omega arith in
    rw here
    (ap suc
    (position_from p (suc k) n r (le_of_suc-le-suc h) (λ i c. ap p (sym (next i)) ∙ b (suc i) (suc-le-suc c))
    (λ c. ap p (sym (next r)) ∙ f (suc-le-suc c))))

-- the first number below n that passes is r, or none does and r is n
pub position_below : (p : ℕ → Bool) (n r : ℕ) → r ≤ n → ((i : ℕ) → i < r → p i ≡ false) → (r < n → p r ≡ true) → r ≡ position p (below n)
position_below p n r h b f =
    position_from p zero n r h (λ i c. ap p (zero-add i) ∙ b i c) (λ c. ap p (zero-add r) ∙ f c)

-- the first of the numbers that pass is the first found, and where none does there is none to find
pub first_kept_from : (p : ℕ → Bool) (k n : ℕ) → get_or (keep p (from k n)) 0 (k + n) ≡ k + position p (from k n)
first_kept_from p k zero = refl
first_kept_from p k (suc n) = by (p k) (first_kept_from p (suc k) n)
  where
    by :
        (b : Bool) → get_or (keep p (from (suc k) n)) 0 (suc k + n) ≡ suc k + position p (from (suc k) n)
        → get_or (cond b (k ∷ keep p (from (suc k) n)) (keep p (from (suc k) n))) 0 (k + suc n)
        ≡ k + cond b zero (suc (position p (from (suc k) n)))
    by true ih = sym (add-zero k)
    by false ih = simp add-suc (simp suc-add at ih)

pub first_kept : (p : ℕ → Bool) (n : ℕ) → get_or (keep p (below n)) 0 n ≡ position p (below n)
first_kept p n = simp zero-add at (first_kept_from p zero n)

module _ {A : Type 0} (p : A → Bool) (q : ℕ → Bool) (d : A) where
  -- a search by numbers is one of the elements they stand for
  pub position_of_from : (k : ℕ) (xs : List A) → ((i : ℕ) → i < length xs → q (k + i) ≡ p (get_or xs i d)) → position q (from k (length xs)) ≡ position p xs
  position_of_from k [] h = refl
  position_of_from k (x ∷ xs) h =
      let here : q k ≡ p x = ap q (sym (add-zero k)) ∙ h zero (zero-lt-suc (length xs)) in
      let next : position q (from (suc k) (length xs)) ≡ position p xs = position_of_from (suc k) xs (λ i c. ap q (omega arith) ∙ h (suc i) (suc-le-suc c)) in
      rw (here, next)

  pub position_of : (xs : List A) → ((i : ℕ) → i < length xs → q i ≡ p (get_or xs i d)) → position q (below (length xs)) ≡ position p xs
  position_of xs h = position_of_from zero xs (λ i c. ap q (zero-add i) ∙ h i c)

module _ {A : Type 0} (p : A → Bool) where
  pub position_le : (xs : List A) → position p xs ≤ length xs
  position_le [] = zero-le
  position_le (x ∷ xs) = by (p x) (position_le xs)
    where
      by : (b : Bool) → position p xs ≤ length xs → cond b zero (suc (position p xs)) ≤ suc (length xs)
      by true h = zero-le
      by false h = suc-le-suc h

  -- the element at the place found passes
  pub position_hit : (d : A) (xs : List A) → position p xs < length xs → p (get_or xs (position p xs) d) ≡ true
  position_hit d [] h = absurd (not-suc-le-zero h)
  position_hit d (x ∷ xs) h = by (p x) refl h (position_hit d xs)
    where
      by :
          (b : Bool) → p x ≡ b → cond b zero (suc (position p xs)) < suc (length xs)
          → (position p xs < length xs → p (get_or xs (position p xs) d) ≡ true) → p (get_or (x ∷ xs) (cond b zero (suc (position p xs))) d) ≡ true
      by true e l ih = e
      by false e l ih = ih (le_of_suc-le-suc l)

  -- no element before it does
  pub position_before : (d : A) (xs : List A) (i : ℕ) → i < position p xs → p (get_or xs i d) ≡ false
  position_before d [] i h = absurd (not-suc-le-zero h)
  position_before d (x ∷ xs) i h = by (p x) refl i h (λ i h. position_before d xs i h)
    where
      by :
          (b : Bool) → p x ≡ b → (i : ℕ) → i < cond b zero (suc (position p xs))
          → ((i : ℕ) → i < position p xs → p (get_or xs i d) ≡ false) → p (get_or (x ∷ xs) i d) ≡ false
      by true e i h ih = absurd (not-suc-le-zero h)
      by false e zero h ih = e
      by false e (suc i) h ih = ih i (le_of_suc-le-suc h)

  -- some element passes exactly if one is found
  pub any_position : (xs : List A) → any p xs ≡ ltb (position p xs) (length xs)
  any_position [] = refl
  any_position (x ∷ xs) = by (p x) (any_position xs)
    where
      by : (b : Bool) → any p xs ≡ ltb (position p xs) (length xs) → (b || any p xs) ≡ ltb (cond b zero (suc (position p xs))) (suc (length xs))
      by true e = sym (lt-ltb zero (suc (length xs)) (zero-lt-suc (length xs)))
      by false e = e ∙ sym (leb-suc-suc (suc (position p xs)) (length xs))

  -- a search that has found something ends in the first of two lists
  pub position_left : (xs ys : List A) → position p xs < length xs → position p (xs ++ ys) ≡ position p xs
  position_left [] ys h = absurd (not-suc-le-zero h)
  position_left (x ∷ xs) ys h = by (p x) h (position_left xs ys)
    where
      by : (b : Bool) → cond b zero (suc (position p xs)) < suc (length xs) → (position p xs < length xs → position p (xs ++ ys) ≡ position p xs)
          → cond b zero (suc (position p (xs ++ ys))) ≡ cond b zero (suc (position p xs))
      by true h later = refl
      by false h later = ap suc (later (le_of_suc-le-suc h))

  -- one that has not goes on to what is appended
  pub position_seam : (xs : List A) (y : A) → length xs ≤ position p xs → p y ≡ true → position p (xs ++ (y ∷ [])) ≡ length xs
  position_seam [] y h e = rw e
  position_seam (x ∷ xs) y h e = by (p x) h (λ l. position_seam xs y l e)
    where
      by : (b : Bool) → suc (length xs) ≤ cond b zero (suc (position p xs)) → (length xs ≤ position p xs → position p (xs ++ (y ∷ [])) ≡ length xs)
          → cond b zero (suc (position p (xs ++ (y ∷ [])))) ≡ suc (length xs)
      by true h later = absurd (not-suc-le-zero h)
      by false h later = ap suc (later (le_of_suc-le-suc h))

-- ---- same

pub same_refl : (a : List ℕ) → same a a ≡ true
same_refl [] = refl
same_refl (x ∷ xs) = rw (eq-eqb x x refl) (same_refl xs)

pub same_is : (a b : List ℕ) → a ≡ b → same a b ≡ true
same_is a b e = ap (λ (l : List ℕ). same a l) (sym e) ∙ same_refl a

pub same_eq : (a b : List ℕ) → T (same a b) → a ≡ b
same_eq [] [] t = refl
same_eq [] (y ∷ ys) t = absurd t
same_eq (x ∷ xs) [] t = absurd t
same_eq (x ∷ xs) (y ∷ ys) t =
    let both = and_yes (eqb x y) (same xs ys) t in
    let here : x ≡ y = eqb→eq x y both.0 in
    let later : xs ≡ ys = same_eq xs ys both.1 in
    λ j. here j ∷ later j

pub same_not : (a b : List ℕ) → (a ≡ b → ⊥) → same a b ≡ false
same_not a b h = by (same a b) (λ t. h (same_eq a b t))
  where
    by : (c : Bool) → (T c → ⊥) → c ≡ false
    by true n = absurd (n tt)
    by false n = refl

pub same_sym : (a b : List ℕ) → same a b ≡ same b a
same_sym a b = both_ways (same a b) (same b a) (λ h. rw (same_is b a (sym (same_eq a b h))) tt) (λ h. rw (same_is a b (sym (same_eq b a h))) tt)
