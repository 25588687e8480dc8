-- The elements that pass a test, and those that do not.
-- Assumes nothing.
use mathlib.Core.Path.{◌≡◌, refl, ap, ◌∙◌}
use mathlib.Core.Bool.{Bool, true, false, cond, not, ◌||◌, true≢false, false≢true, or-true}
use mathlib.Core.List.{List, [], ◌∷◌, ◌++◌}
use Prim.Native.Nat.{ℕ, zero, suc, ◌<◌, suc-le-suc}
use native.Mathlib.Nat.{not-suc-le-zero, le_of_suc-le-suc, zero-lt-suc}
use lib.ListN.{length, get_or, take, drop}
use Rattle.laws.specs.Lists.{any, keep}

module _ {A : Type 0} (p : A → Bool) where
  -- p, element by element
  keep_pass : (x : A) (xs : List A) → p x ≡ true → keep p (x ∷ xs) ≡ x ∷ keep p xs
  keep_pass x xs e = ap (λ (b : Bool). cond b (x ∷ keep p xs) (keep p xs)) e

  keep_fail : (x : A) (xs : List A) → p x ≡ false → keep p (x ∷ xs) ≡ keep p xs
  keep_fail x xs e = ap (λ (b : Bool). cond b (x ∷ keep p xs) (keep p xs)) e

  -- no element passes: none is kept, and those that fail are all
  pub keep_none : (xs : List A) (d : A) → ((i : ℕ) → i < length xs → p (get_or xs i d) ≡ false) → keep p xs ≡ []
  keep_none [] d h = refl
  keep_none (x ∷ xs) d h =
      keep_fail x xs (h zero (zero-lt-suc (length xs))) ∙ keep_none xs d (λ i l. h (suc i) (suc-le-suc l))

  pub any_none : (xs : List A) → any p xs ≡ false → keep p xs ≡ []
  any_none [] e = refl
  any_none (x ∷ xs) e = case (p x) (any_none xs) e
    where
      case :
          (b : Bool)
          → (any p xs ≡ false → keep p xs ≡ [])
          → (b || any p xs) ≡ false
          → cond b (x ∷ keep p xs) (keep p xs) ≡ []
      case true later e = absurd (true≢false e)
      case false later e = later e

  pub any_keep : (xs : List A) → any p xs ≡ true → zero < length (keep p xs)
  any_keep [] e = absurd (false≢true e)
  any_keep (x ∷ xs) e = case (p x) (any_keep xs) e
    where
      case :
          (b : Bool)
          → (any p xs ≡ true → zero < length (keep p xs))
          → (b || any p xs) ≡ true
          → zero < length (cond b (x ∷ keep p xs) (keep p xs))
      case true later e = zero-lt-suc (length (keep p xs))
      case false later e = later e

  pub keep_all : (xs : List A) (d : A) → ((i : ℕ) → i < length xs → p (get_or xs i d) ≡ true) → keep p xs ≡ xs
  keep_all [] d h = refl
  keep_all (x ∷ xs) d h =
      keep_pass x xs (h zero (zero-lt-suc (length xs)))
      ∙ ap (λ (r : List A). x ∷ r) (keep_all xs d (λ i l. h (suc i) (suc-le-suc l)))

  -- the first element that passes is the first kept
  pub keep_first :
      (xs : List A) (i : ℕ) (d : A)
      → i < length xs
      → ((j : ℕ) → j < i → p (get_or xs j d) ≡ false)
      → p (get_or xs i d) ≡ true
      → keep p xs ≡ get_or xs i d ∷ keep p (drop (suc i) xs)
  keep_first [] i d l h e = absurd (not-suc-le-zero l)
  keep_first (x ∷ xs) zero d l h e = keep_pass x xs e
  keep_first (x ∷ xs) (suc i) d l h e =
      keep_fail x xs (h zero (zero-lt-suc i)) ∙ keep_first xs i d (le_of_suc-le-suc l) (λ j m. h (suc j) (suc-le-suc m)) e

  -- each kept element passes
  pub keep_passes : (xs : List A) (i : ℕ) (d : A) → i < length (keep p xs) → p (get_or (keep p xs) i d) ≡ true
  keep_passes [] i d l = absurd (not-suc-le-zero l)
  keep_passes (x ∷ xs) i d l = case (p x) refl i (λ j m. keep_passes xs j d m) l
    where
      case :
          (b : Bool)
          → p x ≡ b
          → (i : ℕ)
          → ((j : ℕ) → j < length (keep p xs) → p (get_or (keep p xs) j d) ≡ true)
          → i < length (cond b (x ∷ keep p xs) (keep p xs))
          → p (get_or (cond b (x ∷ keep p xs) (keep p xs)) i d) ≡ true
      case true e zero later l = e
      case true e (suc j) later l = later j (le_of_suc-le-suc l)
      case false e i later l = later i l

  -- an element that passes is kept, so that a test it passes is passed by some element kept
  pub any_kept_at :
      (q : A → Bool) (xs : List A) (i : ℕ) (d : A)
      → i < length xs
      → p (get_or xs i d) ≡ true
      → q (get_or xs i d) ≡ true
      → any q (keep p xs) ≡ true
  any_kept_at q [] i d l e k = absurd (not-suc-le-zero l)
  any_kept_at q (x ∷ xs) zero d l e k = ap (any q) (keep_pass x xs e) ∙ ap (λ (b : Bool). b || any q (keep p xs)) k
  any_kept_at q (x ∷ xs) (suc i) d l e k = case (p x) (any_kept_at q xs i d (le_of_suc-le-suc l) e k)
    where
      case : (b : Bool) → any q (keep p xs) ≡ true → any q (cond b (x ∷ keep p xs) (keep p xs)) ≡ true
      case true h = ap (λ (b : Bool). q x || b) h ∙ or-true (q x)
      case false h = h

module _ {A : Type 0} (p : A → Bool) where
  -- where no element that fails stands before one that passes, those that pass stand before those that fail
  pub keep_leads :
      (xs : List A) (d : A)
      → ((i : ℕ) → i < length xs → p (get_or xs i d) ≡ true → any (λ x. not (p x)) (take i xs) ≡ false)
      → xs ≡ keep p xs ++ keep (λ x. not (p x)) xs
  keep_leads [] d h = refl
  keep_leads (x ∷ xs) d h = case (p x) refl (keep_leads xs d)
    where
      rest : List A
      rest = keep (λ x. not (p x)) xs

      fails : p x ≡ false → (i : ℕ) → i < length xs → p (get_or xs i d) ≡ false
      fails e i l = go (p (get_or xs i d)) refl
        where
          go : (b : Bool) → p (get_or xs i d) ≡ b → p (get_or xs i d) ≡ false
          go true k = absurd (true≢false (rw e at (h (suc i) (suc-le-suc l) k)))
          go false k = k

      case :
          (b : Bool)
          → p x ≡ b
          → (((i : ℕ) → i < length xs → p (get_or xs i d) ≡ true → any (λ x. not (p x)) (take i xs) ≡ false) → xs ≡ keep p xs ++ rest)
          → x ∷ xs ≡ cond b (x ∷ keep p xs) (keep p xs) ++ cond (not b) (x ∷ rest) rest
      case true e later = ap (λ (r : List A). x ∷ r) (later (λ i l k. rw e at (h (suc i) (suc-le-suc l) k)))
      case false e later =
          rw (keep_none p xs d (fails e), keep_all (λ x. not (p x)) xs d (λ i l. ap not (fails e i l)))

  -- none of the elements that fail passes
  pub any_failed : (xs : List A) → any p (keep (λ x. not (p x)) xs) ≡ false
  any_failed [] = refl
  any_failed (x ∷ xs) = case (p x) refl (any_failed xs)
    where
      case :
          (b : Bool)
          → p x ≡ b
          → any p (keep (λ x. not (p x)) xs) ≡ false
          → any p (cond (not b) (x ∷ keep (λ x. not (p x)) xs) (keep (λ x. not (p x)) xs)) ≡ false
      case true e later = later
      case false e later = ap (λ (b : Bool). b || any p (keep (λ x. not (p x)) xs)) e ∙ later

-- what passes both tests, where one asks for the other
pub keep_twice : {A : Type 0} (p q : A → Bool) → ((x : A) → q x ≡ true → p x ≡ true) → (xs : List A) → keep q (keep p xs) ≡ keep q xs
keep_twice p q h [] = refl
keep_twice p q h (x ∷ xs) = case (p x) refl (q x) refl (keep_twice p q h xs)
  where
    case :
        (a : Bool) → p x ≡ a → (b : Bool) → q x ≡ b → keep q (keep p xs) ≡ keep q xs
        → keep q (cond a (x ∷ keep p xs) (keep p xs)) ≡ cond b (x ∷ keep q xs) (keep q xs)
    case true u true v later = keep_pass q x (keep p xs) v ∙ ap (λ r. x ∷ r) later
    case true u false v later = keep_fail q x (keep p xs) v ∙ later
    case false u true v later = absurd (false≢true (rw u at (h x v)))
    case false u false v later = later
