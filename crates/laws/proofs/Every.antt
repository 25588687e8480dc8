-- Facts that hold of every element of a list, and the tests of lists as such facts.
-- Assumes nothing.
use mathlib.Core.Path.{◌≡◌, refl, sym, ap, ◌∙◌, subst}
use mathlib.Core.Bool.{Bool, true, false, cond, ◌||◌, or-true, false≢true}
use mathlib.Core.List.{List, [], ◌∷◌, ◌++◌, map}
use Prim.Native.Nat.{ℕ, zero, suc, ◌+◌, ◌≤◌, ◌<◌, suc-le-suc}
use native.Mathlib.Nat.{not-suc-le-zero, le_of_suc-le-suc, zero-lt-suc, add-zero, add-suc, suc-add}
use native.Mathlib.Omega.{arith}
use borrow.Author.Tests.{eq-eqb, eqb-true}
use lib.Dec.{T, eqb, ltb, ltb→lt, lt→ltb}
use lib.Ieee.Fits.{and_l, and_r, and_i}
use lib.ListN.{length, get_or}
use Rattle.laws.specs.Lists.{any, all, member, keep, gather, together, from, below}
use Rattle.laws.proofs.Indexing.{length_below, get_or_below}
use Rattle.laws.proofs.Tests.{or_left, or_right, or_neither}

module _ {A : Type 0} where
  pub data Every (P : A → Type 0) : List A → Type 0 where
    none : Every P []
    more : {x : A} {xs : List A} → P x → Every P xs → Every P (x ∷ xs)

module _ {A : Type 0} {P : A → Type 0} where
  pub every_append : {xs ys : List A} → Every P xs → Every P ys → Every P (xs ++ ys)
  every_append none k = k
  every_append (more p h) k = more p (every_append h k)

  pub every_left : (xs ys : List A) → Every P (xs ++ ys) → Every P xs
  every_left [] ys h = none
  every_left (x ∷ xs) ys (more p h) = more p (every_left xs ys h)

  pub every_right : (xs ys : List A) → Every P (xs ++ ys) → Every P ys
  every_right [] ys h = h
  every_right (x ∷ xs) ys (more p h) = every_right xs ys h

  -- by place
  pub every_at : {xs : List A} → Every P xs → (d : A) (i : ℕ) → i < length xs → P (get_or xs i d)
  every_at none d i l = absurd (not-suc-le-zero l)
  every_at (more p h) d zero l = p
  every_at (more p h) d (suc i) l = every_at h d i (le_of_suc-le-suc l)

  pub every_of : (d : A) (xs : List A) → ((i : ℕ) → i < length xs → P (get_or xs i d)) → Every P xs
  every_of d [] h = none
  every_of d (x ∷ xs) h = more (h zero (zero-lt-suc _)) (every_of d xs (λ i l. h (suc i) (suc-le-suc l)))

  pub every_imp : {Q : A → Type 0} → ((x : A) → P x → Q x) → {xs : List A} → Every P xs → Every Q xs
  every_imp f none = none
  every_imp f (more {x = x} p h) = more (f x p) (every_imp f h)

  pub every_both : {Q : A → Type 0} {xs : List A} → Every P xs → Every Q xs → Every (λ x. P x × Q x) xs
  every_both none k = none
  every_both (more p h) (more q k) = more (p, q) (every_both h k)

  pub every_map :
      {B : Type 0} {Q : B → Type 0} (f : A → B)
      → ((x : A) → P x → Q (f x))
      → {xs : List A}
      → Every P xs
      → Every Q (map f xs)
  every_map f g none = none
  every_map f g (more {x = x} p h) = more (g x p) (every_map f g h)

  -- of elements, from their images
  pub every_unmap : {B : Type 0} (f : B → A) (xs : List B) → Every P (map f xs) → Every (λ x. P (f x)) xs
  every_unmap f [] h = none
  every_unmap f (x ∷ xs) (more p h) = more p (every_unmap f xs h)

  -- of the elements that pass a test
  pub every_keep :
      {Q : A → Type 0} (t : A → Bool)
      → ((x : A) → T (t x) → P x → Q x)
      → {xs : List A}
      → Every P xs
      → Every Q (keep t xs)
  every_keep t g none = none
  every_keep {Q} t g (more {x = x} {xs = xs} p h) = case (t x) (λ i. g x i p) (every_keep t g h)
    where
      case : (b : Bool) → (T b → Q x) → Every Q (keep t xs) → Every Q (cond b (x ∷ keep t xs) (keep t xs))
      case true q r = more (q tt) r
      case false q r = r

  -- of the images of the elements that pass a test: it holds of the image of each that passes
  pub kept_images : {B : Type 0} (t : B → Bool) (g : B → A) (ys : List B) → Every P (map g (keep t ys)) → Every (λ y. T (t y) → P (g y)) ys
  kept_images t g [] h = none
  kept_images {B} t g (y ∷ ys) h = let r = case (t y) h in more r.0 (kept_images t g ys r.1)
    where
      case : (b : Bool) → Every P (map g (cond b (y ∷ keep t ys) (keep t ys))) → (T b → P (g y)) × Every P (map g (keep t ys))
      case true (more p h) = (λ u. p, h)
      case false h = (λ u. absurd u, h)

  -- of the lists that are gathered
  pub every_gather : {B : Type 0} (g : B → List A) {ys : List B} → Every (λ y. Every P (g y)) ys → Every P (gather g ys)
  every_gather g none = none
  every_gather g (more p h) = every_append p (every_gather g h)

  pub every_gathered : {B : Type 0} (g : B → List A) (ys : List B) → Every P (gather g ys) → Every (λ y. Every P (g y)) ys
  every_gathered g [] h = none
  every_gathered g (y ∷ ys) h =
      more (every_left (g y) (gather g ys) h) (every_gathered g ys (every_right (g y) (gather g ys) h))

  -- of a list together with as many numbers
  pub every_numbered :
      {B : Type 0} (g : ℕ → B → A) (d : B) (k : ℕ) (ys : List B)
      → ((i : ℕ) → i < length ys → P (g (k + i) (get_or ys i d)))
      → Every P (together g (from k (length ys)) ys)
  every_numbered g d k [] h = none
  every_numbered g d k (y ∷ ys) h =
      more (rw add-zero at (h zero (zero-lt-suc _)))
      (every_numbered g d (suc k) ys (λ i l. rw suc-add (rw add-suc at (h (suc i) (suc-le-suc l)))))

module _ {P : ℕ → Type 0} where
  pub every_from : (k n : ℕ) → ((i : ℕ) → k ≤ i → i < k + n → P i) → Every P (from k n)
  every_from k zero h = none
  every_from k (suc n) h =
      more (h k (omega arith) (omega arith)) (every_from (suc k) n (λ i a b. h i (omega arith) (omega arith)))

  pub every_below : (n : ℕ) → ((i : ℕ) → i < n → P i) → Every P (below n)
  every_below n h = every_from zero n (λ i a b. h i (omega arith))

  pub every_below_at : (n : ℕ) → Every P (below n) → (i : ℕ) → i < n → P i
  every_below_at n h i l = subst P (get_or_below n i 0 l) (every_at h 0 i (rw length_below l))

module _ {A : Type 0} (t : A → Bool) where
  pub every_all : (xs : List A) → T (all t xs) → Every (λ x. T (t x)) xs
  every_all [] h = none
  every_all (x ∷ xs) h = more (and_l (t x) (all t xs) h) (every_all xs (and_r (t x) (all t xs) h))

  pub all_every : {xs : List A} → Every (λ x. T (t x)) xs → T (all t xs)
  all_every none = tt
  all_every (more {x = x} {xs = xs} p h) = and_i (t x) (all t xs) p (all_every h)

  pub every_none : (xs : List A) → any t xs ≡ false → Every (λ x. t x ≡ false) xs
  every_none [] e = none
  every_none (x ∷ xs) e = more (or_left (t x) (any t xs) e) (every_none xs (or_right (t x) (any t xs) e))

  pub none_every : {xs : List A} → Every (λ x. t x ≡ false) xs → any t xs ≡ false
  none_every none = refl
  none_every (more {x = x} {xs = xs} p h) = or_neither (t x) (any t xs) p (none_every h)

  pub every_passes : (xs : List A) → Every (λ x. T (t x)) (keep t xs)
  every_passes [] = none
  every_passes (x ∷ xs) = every_keep {P = λ x. Unit {0}} t (λ x h u. h) (every_of x (x ∷ xs) (λ i l. tt))

  -- nothing is kept exactly if no element passes
  pub every_kept : (xs : List A) → keep t xs ≡ [] → Every (λ x. t x ≡ false) xs
  every_kept [] e = none
  every_kept (x ∷ xs) e = case (t x) refl e (every_kept xs)
    where
      case :
          (b : Bool)
          → t x ≡ b
          → cond b (x ∷ keep t xs) (keep t xs) ≡ []
          → (keep t xs ≡ [] → Every (λ x. t x ≡ false) xs)
          → Every (λ x. t x ≡ false) (x ∷ xs)
      case true p e r = absurd (let z : ◌≡◌ {A = ℕ} 0 1 = cc in omega arith)
      case false p e r = more p (r e)

  pub kept_every : {xs : List A} → Every (λ x. t x ≡ false) xs → keep t xs ≡ []
  kept_every none = refl
  kept_every (more {x = x} {xs = xs} p h) = ap (λ (b : Bool). cond b (x ∷ keep t xs) (keep t xs)) p ∙ kept_every h

-- a test that every number below n passes
pub all_below_at : (t : ℕ → Bool) (n : ℕ) → T (all t (below n)) → (i : ℕ) → i < n → T (t i)
all_below_at t n h i l = every_below_at n (every_all t (below n) h) i l

-- every number is below n
pub every_under : (n : ℕ) (xs : List ℕ) → T (all (λ x. ltb x n) xs) → Every (λ x. x < n) xs
every_under n xs h = every_imp (λ x. ltb→lt x n) (every_all (λ x. ltb x n) xs h)

pub all_under : (n : ℕ) {xs : List ℕ} → Every (λ x. x < n) xs → T (all (λ x. ltb x n) xs)
all_under n h = all_every (λ x. ltb x n) (every_imp (λ x. lt→ltb x n) h)

-- every element is a member
pub every_member : (xs : List ℕ) → Every (λ x. member x xs ≡ true) xs
every_member [] = none
every_member (x ∷ xs) =
    more (ap (λ b. b || member x xs) (eq-eqb x x refl))
    (every_imp (λ y e. ap (λ b. eqb x y || b) e ∙ or-true (eqb x y)) (every_member xs))

pub every_found : {P : ℕ → Type 0} (n : ℕ) {xs : List ℕ} → Every P xs → member n xs ≡ true → P n
every_found n none e = absurd (false≢true e)
every_found {P} n (more {x = x} {xs = xs} p h) e = case (eqb x n) refl e (every_found n h)
  where
    case : (b : Bool) → eqb x n ≡ b → (b || member n xs) ≡ true → (member n xs ≡ true → P n) → P n
    case true v e later = subst P (eqb-true x n v) p
    case false v e later = later e

pub member_below : (n i : ℕ) → i < n → member i (below n) ≡ true
member_below n i l = every_below_at n (every_member (below n)) i l

-- a member that passes a test is kept
pub member_keep : (t : ℕ → Bool) (n : ℕ) (xs : List ℕ) → t n ≡ true → member n xs ≡ true → member n (keep t xs) ≡ true
member_keep t n [] p e = e
member_keep t n (x ∷ xs) p e = case (t x) refl (eqb x n) refl e (member_keep t n xs p)
  where
    case :
        (a : Bool)
        → t x ≡ a
        → (b : Bool)
        → eqb x n ≡ b
        → (b || member n xs) ≡ true
        → (member n xs ≡ true → member n (keep t xs) ≡ true)
        → member n (cond a (x ∷ keep t xs) (keep t xs)) ≡ true
    case true u true v e r = ap (λ b. b || member n (keep t xs)) v
    case true u false v e r = ap (λ b. b || member n (keep t xs)) v ∙ r e
    case false u true v e r = absurd (false≢true (sym u ∙ ap t (eqb-true x n v) ∙ p))
    case false u false v e r = r e

-- a gathered list is empty exactly if every list is
module _ {A B : Type 0} (g : B → List A) where
  pub every_empty : (ys : List B) → gather g ys ≡ [] → Every (λ y. g y ≡ []) ys
  every_empty [] e = none
  every_empty (y ∷ ys) e = case (g y) refl e (every_empty ys)
    where
      case :
          (xs : List A)
          → g y ≡ xs
          → xs ++ gather g ys ≡ []
          → (gather g ys ≡ [] → Every (λ y. g y ≡ []) ys)
          → Every (λ y. g y ≡ []) (y ∷ ys)
      case [] p e r = more p (r e)
      case (x ∷ xs) p e r = absurd (let z : ◌≡◌ {A = ℕ} 0 1 = cc in omega arith)

  pub empty_every : {ys : List B} → Every (λ y. g y ≡ []) ys → gather g ys ≡ []
  empty_every none = refl
  empty_every (more {xs = ys} p h) = ap (λ (xs : List A). xs ++ gather g ys) p ∙ empty_every h

-- a function that changes none of the elements
pub map_fixed : {A : Type 0} (f : A → A) {xs : List A} → Every (λ x. f x ≡ x) xs → map f xs ≡ xs
map_fixed f none = refl
map_fixed f (more p h) = λ i. p i ∷ map_fixed f h i
