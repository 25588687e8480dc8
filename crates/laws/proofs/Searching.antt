-- `any`, `all` and `keep` against the elements they speak of.
-- Assumes nothing.
use mathlib.Core.Path.{◌≡◌, refl, subst, subst⁻¹}
use mathlib.Core.Bool.{Bool, true, false, cond, ◌||◌}
use mathlib.Core.List.{List, [], ◌∷◌}
use mathlib.Core.Logic.{◌⊎◌, inl, inr}
use Prim.Native.Nat.{ℕ, zero, suc, ◌+◌, ◌≤◌, ◌<◌}
use native.Mathlib.Nat.{not-suc-le-zero, le_of_suc-le-suc}
use native.Mathlib.Decide.{ℕ_discrete}
use native.Mathlib.Omega.{arith}
use lib.Dec.{T, eqb, eqb→eq, eqb_refl}
use lib.ListN.{length, get_or}
use mir.Facts.{or_yes}
use Rattle.laws.specs.Lists.{any, keep, together, from, member}

pub either_left : (a b : Bool) → T a → T (a || b)
either_left true b t = tt
either_left false b t = absurd t

pub either_right : (a b : Bool) → T b → T (a || b)
either_right true b t = tt
either_right false b t = t

-- a number that is an element and passes is found
pub any_member : (p : ℕ → Bool) (x : ℕ) (xs : List ℕ) → T (member x xs) → T (p x) → T (any p xs)
any_member p x [] m t = m
any_member p x (y ∷ ys) m t = by (or_yes (eqb y x) (member x ys) m) (any_member p x ys)
  where
    by : T (eqb y x) ⊎ T (member x ys) → (T (member x ys) → T (p x) → T (any p ys)) → T (p y || any p ys)
    by (inl e) ih = either_left (p y) (any p ys) (subst⁻¹ (λ (z : ℕ). T (p z)) (eqb→eq y x e) t)
    by (inr e) ih = either_right (p y) (any p ys) (ih e t)

-- what was found is an element that passes
pub any_found : (p : ℕ → Bool) (xs : List ℕ) → T (any p xs) → (x : ℕ) × T (member x xs) × T (p x)
any_found p [] t = absurd t
any_found p (y ∷ ys) t = by (or_yes (p y) (any p ys) t) (any_found p ys)
  where
    by :
        T (p y) ⊎ T (any p ys) → (T (any p ys) → (x : ℕ) × T (member x ys) × T (p x))
        → (x : ℕ) × T (eqb y x || member x ys) × T (p x)
    by (inl e) ih = (y, either_left (eqb y y) (member y ys) (eqb_refl y), e)
    by (inr e) ih = let r = ih e in (r.0, either_right (eqb y r.0) (member r.0 ys) r.1, r.2)

-- what was found among the numbers kept passes both tests
pub any_kept : (p q : ℕ → Bool) (xs : List ℕ) → T (any p (keep q xs)) → (x : ℕ) × T (q x) × T (p x)
any_kept p q [] t = absurd t
any_kept p q (y ∷ ys) t = by (q y) refl t (any_kept p q ys)
  where
    by :
        (b : Bool) → q y ≡ b → T (any p (cond b (y ∷ keep q ys) (keep q ys)))
        → (T (any p (keep q ys)) → (x : ℕ) × T (q x) × T (p x)) → (x : ℕ) × T (q x) × T (p x)
    by true e t ih =
        elim (or_yes (p y) (any p (keep q ys)) t) [ inl h ↦ (y, subst⁻¹ (λ (c : Bool). T c) e tt, h) | inr h ↦ ih h ]
    by false e t ih = ih t

-- a number of the range that passes both tests is found among those kept
pub any_range :
    (p q : ℕ → Bool) (k n x : ℕ) → k ≤ x → x < k + n → T (q x) → T (p x) → T (any p (keep q (from k n)))
any_range p q k zero x l h t u = absurd (omega arith)
any_range p q k (suc n) x l h t u = by (q k) refl (ℕ_discrete k x) (λ m. any_range p q (suc k) n x m (omega arith) t u)
  where
    rest : (suc k ≤ x → T (any p (keep q (from (suc k) n)))) → (k ≡ x → ⊥) → T (any p (keep q (from (suc k) n)))
    rest ih d = ih (omega arith)

    by :
        (b : Bool) → q k ≡ b → Dec (k ≡ x) → ((suc k ≤ x) → T (any p (keep q (from (suc k) n))))
        → T (any p (cond b (k ∷ keep q (from (suc k) n)) (keep q (from (suc k) n))))
    by true e (yes d) ih = either_left (p k) _ (subst⁻¹ (λ (z : ℕ). T (p z)) d u)
    by true e (no d) ih = either_right (p k) _ (rest ih d)
    by false e (yes d) ih = absurd (subst (λ (b : Bool). T b) e (subst⁻¹ (λ (z : ℕ). T (q z)) d t))
    by false e (no d) ih = rest ih d

-- two lists side by side
module _ {A B : Type 0} (p : A → B → Bool) (d : A) (e : B) where
  pub any_beside :
      (xs : List A) (ys : List B) (k : ℕ) → k < length xs → k < length ys → T (p (get_or xs k d) (get_or ys k e))
      → T (any (λ b. b) (together p xs ys))
  any_beside [] ys k h l t = absurd (not-suc-le-zero h)
  any_beside (x ∷ xs) [] k h l t = absurd (not-suc-le-zero l)
  any_beside (x ∷ xs) (y ∷ ys) zero h l t = either_left (p x y) _ t
  any_beside (x ∷ xs) (y ∷ ys) (suc k) h l t =
      either_right (p x y) _ (any_beside xs ys k (le_of_suc-le-suc h) (le_of_suc-le-suc l) t)

  pub beside_found :
      (xs : List A) (ys : List B) → T (any (λ b. b) (together p xs ys))
      → (k : ℕ) × (k < length xs) × (k < length ys) × T (p (get_or xs k d) (get_or ys k e))
  beside_found [] ys t = absurd t
  beside_found (x ∷ xs) [] t = absurd t
  beside_found (x ∷ xs) (y ∷ ys) t =
      elim (or_yes (p x y) (any (λ b. b) (together p xs ys)) t) [
        | inl h ↦ (zero, omega arith, omega arith, h)
        | inr h ↦ (let r = beside_found xs ys h in (suc r.0, omega arith, omega arith, r.3))
      ]

-- a number kept of a range is below its end
pub kept_below : (q : ℕ → Bool) (k n i : ℕ) → i < length (keep q (from k n)) → get_or (keep q (from k n)) i 0 < k + n
kept_below q k zero i h = absurd (not-suc-le-zero h)
kept_below q k (suc n) i h = by (q k) i h (kept_below q (suc k) n)
  where
    by :
        (b : Bool) (j : ℕ) → j < length (cond b (k ∷ keep q (from (suc k) n)) (keep q (from (suc k) n)))
        → ((m : ℕ) → m < length (keep q (from (suc k) n)) → get_or (keep q (from (suc k) n)) m 0 < suc k + n)
        → get_or (cond b (k ∷ keep q (from (suc k) n)) (keep q (from (suc k) n))) j 0 < k + suc n
    by true zero l ih = omega arith
    by true (suc j) l ih = let r = ih j (le_of_suc-le-suc l) in omega arith
    by false j l ih = let r = ih j l in omega arith

-- and not before its beginning
kept_from : (q : ℕ → Bool) (k n i : ℕ) → i < length (keep q (from k n)) → k ≤ get_or (keep q (from k n)) i 0
kept_from q k zero i h = absurd (not-suc-le-zero h)
kept_from q k (suc n) i h = by (q k) i h (kept_from q (suc k) n)
  where
    by :
        (b : Bool) (j : ℕ) → j < length (cond b (k ∷ keep q (from (suc k) n)) (keep q (from (suc k) n)))
        → ((m : ℕ) → m < length (keep q (from (suc k) n)) → suc k ≤ get_or (keep q (from (suc k) n)) m 0)
        → k ≤ get_or (cond b (k ∷ keep q (from (suc k) n)) (keep q (from (suc k) n))) j 0
    by true zero l ih = omega arith
    by true (suc j) l ih = let r = ih j (le_of_suc-le-suc l) in omega arith
    by false j l ih = let r = ih j l in omega arith

-- of two numbers kept the later is the larger
pub kept_ascends : (q : ℕ → Bool) (k n i j : ℕ) → i < j → j < length (keep q (from k n)) → get_or (keep q (from k n)) i 0 < get_or (keep q (from k n)) j 0
kept_ascends q k zero i j l h = absurd (not-suc-le-zero h)
kept_ascends q k (suc n) i j l h = by (q k) i j l h (kept_from q (suc k) n) (kept_ascends q (suc k) n)
  where
    by :
        (b : Bool) (i j : ℕ) → i < j → j < length (cond b (k ∷ keep q (from (suc k) n)) (keep q (from (suc k) n)))
        → ((m : ℕ) → m < length (keep q (from (suc k) n)) → suc k ≤ get_or (keep q (from (suc k) n)) m 0)
        → ((m o : ℕ) → m < o → o < length (keep q (from (suc k) n)) → get_or (keep q (from (suc k) n)) m 0 < get_or (keep q (from (suc k) n)) o 0)
        → get_or (cond b (k ∷ keep q (from (suc k) n)) (keep q (from (suc k) n))) i 0 < get_or (cond b (k ∷ keep q (from (suc k) n)) (keep q (from (suc k) n))) j 0
    by true i zero l h lo ih = absurd (not-suc-le-zero l)
    by true zero (suc j) l h lo ih = lo j (le_of_suc-le-suc h)
    by true (suc i) (suc j) l h lo ih = ih i j (le_of_suc-le-suc l) (le_of_suc-le-suc h)
    by false i j l h lo ih = ih i j l h
