-- Laws of the ranges of numbers and of sums.
-- Assumes nothing.
use mathlib.Core.Bool.{Bool, true, false, ◌&&◌, ◌||◌, and-eq-true_iff, or-false, or_assoc, true≢false}
use mathlib.Core.Path.{◌≡◌, refl, sym, ap, ◌∙◌}
use mathlib.Core.List.{List, [], ◌∷◌, ◌++◌, map, foldl}
use Prim.Native.Nat.{ℕ, zero, suc, ◌+◌, ◌≤◌, ◌<◌, suc-le-suc}
use native.Mathlib.Nat.{zero-lt-suc, add-zero, add-suc, suc-add, not-suc-le-zero, le_of_suc-le-suc, zero-add}
use native.Mathlib.Omega.{arith}
use lib.ListN.{length, get_or, take, length-map, get_or-map}
use lib.Seq.{length-take-le, get_or-take}
use Rattle.laws.specs.Lists.{from, below, any, all, sum, gather}

pub length_map_from : {A : Type 0} (f : ℕ → A) (k n : ℕ) → length (map f (from k n)) ≡ n
length_map_from f k zero = refl
length_map_from f k (suc n) = ap suc (length_map_from f (suc k) n)

pub get_or_map_from : {A : Type 0} (f : ℕ → A) (d : A) (k n i : ℕ) → i < n → get_or (map f (from k n)) i d ≡ f (k + i)
get_or_map_from f d k zero i h = absurd (not-suc-le-zero h)
get_or_map_from f d k (suc n) zero h = ap f (sym (add-zero k))
get_or_map_from f d k (suc n) (suc i) h = get_or_map_from f d (suc k) n i (le_of_suc-le-suc h) ∙ ap f (suc-add k i ∙ sym (add-suc k i))

pub map_from_append : {A : Type 0} (f : ℕ → A) (k m n : ℕ) → map f (from k (m + n)) ≡ map f (from k m) ++ map f (from (k + m) n)
map_from_append f k zero n = rw (zero-add n, add-zero k)
map_from_append f k (suc m) n = rw (suc-add m n, add-suc k m, ← suc-add k m) (ap (λ r. f k ∷ r) (map_from_append f (suc k) m n))

-- f of k, k + 1 and so on is the list xs, if it is so element by element
pub map_from : {A : Type 0} (f : ℕ → A) (d : A) (k : ℕ) (xs : List A) → ((i : ℕ) → i < length xs → f (k + i) ≡ get_or xs i d)
    → map f (from k (length xs)) ≡ xs
map_from f d k [] h = refl
map_from f d k (x ∷ xs) h =
    let here : f k ≡ x = ap f (sym (add-zero k)) ∙ h zero (zero-lt-suc (length xs)) in
    let later : map f (from (suc k) (length xs)) ≡ xs = map_from f d (suc k) xs (λ i b. ap f (suc-add k i ∙ sym (add-suc k i)) ∙ h (suc i) (suc-le-suc b)) in
    λ j. here j ∷ later j

-- the same for the first b elements, s of each
pub map_from_take : {A B : Type 0} (f : ℕ → A) (s : B → A) (d : B) (k : ℕ) (xs : List B) (b : ℕ) → b ≤ length xs
    → ((i : ℕ) → i < b → f (k + i) ≡ s (get_or xs i d)) → map f (from k b) ≡ map s (take b xs)
map_from_take f s d k xs b h g =
    let len : length (map s (take b xs)) ≡ b = length-map (take b xs) s ∙ length-take-le b xs h in
    rw len at
    (map_from f (s d) k (map s (take b xs))
    (λ i c. let c' : i < b = omega arith in g i c' ∙ sym (get_or-map s (take b xs) i d ∙ ap s (get_or-take b xs i d c'))))

-- what holds of k, k + 1 and so on holds of k, and of suc k and so on
from_step : (P : ℕ → Type 0) (k n : ℕ) → ((i : ℕ) → i < suc n → P (k + i)) → P k × ((i : ℕ) → i < n → P (suc k + i))
from_step P k n h = (rw (add-zero k) at (h zero (zero-lt-suc n)), λ i b. rw (suc-add k i, ← add-suc k i) (h (suc i) (suc-le-suc b)))

-- f and g that agree on n numbers from k on
pub map_from_same : {A : Type 0} (f g : ℕ → A) (k n : ℕ) → ((i : ℕ) → i < n → f (k + i) ≡ g (k + i)) → map f (from k n) ≡ map g (from k n)
map_from_same f g k zero h = refl
map_from_same f g k (suc n) h =
    let both : (f k ≡ g k) × ((i : ℕ) → i < n → f (suc k + i) ≡ g (suc k + i)) = from_step (λ i. f i ≡ g i) k n h in
    λ j. both.0 j ∷ map_from_same f g (suc k) n both.1 j

pub all_from_same : (p q : ℕ → Bool) (k n : ℕ) → ((i : ℕ) → i < n → p (k + i) ≡ q (k + i)) → all p (from k n) ≡ all q (from k n)
all_from_same p q k zero h = refl
all_from_same p q k (suc n) h =
    let both : (p k ≡ q k) × ((i : ℕ) → i < n → p (suc k + i) ≡ q (suc k + i)) = from_step (λ i. p i ≡ q i) k n h in
    λ j. both.0 j && all_from_same p q (suc k) n both.1 j

-- every number from k on passes the test
pub all_from : (p : ℕ → Bool) (k n : ℕ) → ((i : ℕ) → i < n → p (k + i) ≡ true) → all p (from k n) ≡ true
all_from p k zero h = refl
all_from p k (suc n) h =
    let both : (p k ≡ true) × ((i : ℕ) → i < n → p (suc k + i) ≡ true) = from_step (λ i. p i ≡ true) k n h in
    rw both.0 (all_from p (suc k) n both.1)

pub all_from_at : (p : ℕ → Bool) (k n : ℕ) → all p (from k n) ≡ true → (i : ℕ) → i < n → p (k + i) ≡ true
all_from_at p k zero h i b = absurd (not-suc-le-zero b)
all_from_at p k (suc n) h zero b = ap p (add-zero k) ∙ ((and-eq-true_iff (p k) (all p (from (suc k) n))).0 h).0
all_from_at p k (suc n) h (suc i) b =
    ap p (add-suc k i ∙ sym (suc-add k i)) ∙ all_from_at p (suc k) n ((and-eq-true_iff (p k) (all p (from (suc k) n))).0 h).1 i (le_of_suc-le-suc b)

-- every number below n passes; one of them fails
pub all_below : (p : ℕ → Bool) (n : ℕ) → ((i : ℕ) → i < n → p i ≡ true) → all p (below n) ≡ true
all_below p n h = all_from p zero n (λ i b. ap p (zero-add i) ∙ h i b)

pub all_below_not : (p : ℕ → Bool) (n i : ℕ) → i < n → p i ≡ false → all p (below n) ≡ false
all_below_not p n i h e = by (all p (below n)) refl
  where
    by : (b : Bool) → all p (below n) ≡ b → b ≡ false
    by true a = absurd (true≢false (sym (ap p (sym (zero-add i)) ∙ all_from_at p zero n a i h) ∙ e))
    by false a = refl

-- one number more
any_from_suc : (p : ℕ → Bool) (k n : ℕ) → any p (from k (suc n)) ≡ (any p (from k n) || p (k + n))
any_from_suc p k zero = rw (or-false, add-zero)
any_from_suc p k (suc n) =
    ap (λ b. p k || b) (any_from_suc p (suc k) n) ∙ sym (or_assoc (p k) (any p (from (suc k) n)) (p (suc k + n)))
    ∙ ap (λ m. (p k || any p (from (suc k) n)) || p m) (suc-add k n ∙ sym (add-suc k n))

pub any_below_suc : (p : ℕ → Bool) (n : ℕ) → any p (below (suc n)) ≡ (any p (below n) || p n)
any_below_suc p n = any_from_suc p zero n ∙ ap (λ m. any p (below n) || p m) (zero-add n)

foldl_from_suc : {A : Type 0} (f : A → ℕ → A) (x : A) (k n : ℕ) → foldl f x (from k (suc n)) ≡ f (foldl f x (from k n)) (k + n)
foldl_from_suc f x k zero = rw add-zero
foldl_from_suc f x k (suc n) = foldl_from_suc f (f x k) (suc k) n ∙ ap (f (foldl f (f x k) (from (suc k) n))) (suc-add k n ∙ sym (add-suc k n))

pub foldl_below_suc : {A : Type 0} (f : A → ℕ → A) (x : A) (n : ℕ) → foldl f x (below (suc n)) ≡ f (foldl f x (below n)) n
foldl_below_suc f x n = foldl_from_suc f x zero n ∙ ap (f (foldl f x (below n))) (zero-add n)

-- parts of a range, each beginning where the sizes before it say, are the range
pub gather_from : {A : Type 0} (f : ℕ → A) (start size : ℕ → ℕ) (s k n : ℕ) → ((i : ℕ) → i < n → start (k + i) ≡ s + sum (map size (from k i)))
    → gather (λ b. map f (from (start b) (size b))) (from k n) ≡ map f (from s (sum (map size (from k n))))
gather_from f start size s k zero h = refl
gather_from f start size s k (suc n) h =
    let here : start k ≡ s = ap start (sym (add-zero k)) ∙ h zero (zero-lt-suc n) ∙ add-zero s in
    let later : (i : ℕ) → i < n → start (suc k + i) ≡ s + size k + sum (map size (from (suc k) i)) =
    λ i b. ap start (suc-add k i ∙ sym (add-suc k i)) ∙ h (suc i) (suc-le-suc b) ∙ omega arith in
    rw (map_from_append f s (size k) (sum (map size (from (suc k) n))), here, gather_from f start size (s + size k) (suc k) n later)
