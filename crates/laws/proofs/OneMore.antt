-- One more: a range, a sum over it, a run of stored cells, a search, each with one number more than before.
-- Assumes nothing.
use mathlib.Core.Path.{◌≡◌, sym, ap, ◌∙◌, subst⁻¹}
use mathlib.Core.List.{List, [], ◌∷◌, ◌++◌, map}
use Prim.Native.Nat.{ℕ, zero, suc, ◌+◌, ◌≤◌, ◌<◌}
use native.Mathlib.Nat.{not-suc-le-zero, le_of_suc-le-suc, zero-add, add-zero, add-suc, suc-add}
use native.Mathlib.Decide.{ℕ_discrete}
use native.Mathlib.Numerals.{add-one}
use native.Mathlib.Omega.{arith}
use lib.ListN.{length, get_or, set}
use lib.Seq.{get_or-set_same, get_or-set_other}
use Rattle.laws.specs.Lists.{from, below, sum}
use Rattle.laws.proofs.Appending.{sum_append}

pub from_snoc : (k n : ℕ) → from k (suc n) ≡ from k n ++ ((k + n) ∷ [])
from_snoc k zero = rw add-zero
from_snoc k (suc n) = ap (λ (l : List ℕ). k ∷ l) (from_snoc (suc k) n ∙ ap (λ i. from (suc k) n ++ (i ∷ [])) (suc-add k n ∙ sym (add-suc k n)))

pub below_snoc : (n : ℕ) → below (n + 1) ≡ below n ++ (n ∷ [])
below_snoc n = ap below (add-one n) ∙ from_snoc 0 n ∙ ap (λ k. below n ++ (k ∷ [])) (zero-add n)

pub sum_below_suc : (f : ℕ → ℕ) (n : ℕ) → sum (map f (below (suc n))) ≡ sum (map f (below n)) + f n
sum_below_suc f n =
    ap (λ l. sum (map f l)) (from_snoc zero n) ∙ sum_append f (below n) ((zero + n) ∷ [])
    ∙ ap (λ k. sum (map f (below n)) + k) (add-zero (f (zero + n)) ∙ ap f (zero-add n))

-- a term that falls makes the sum fall
pub sum_set_lt :
    (g : ℕ → ℕ) (s : List ℕ) (y v : ℕ) → y < length s → g v < g (get_or s y 0) → sum (map g (set s y v)) < sum (map g s)
sum_set_lt g [] y v h l = absurd (not-suc-le-zero h)
sum_set_lt g (x ∷ s) zero v h l = omega arith
sum_set_lt g (x ∷ s) (suc y) v h l = let i = sum_set_lt g s y v (le_of_suc-le-suc h) l in omega arith

-- the cells below i have their values; with cell i stored, those below i + 1 do
pub fill_more :
    (g : ℕ → ℕ) (l : List ℕ) (i v : ℕ) → i < length l → v ≡ g i → ((j : ℕ) → j < i → get_or l j 0 ≡ g j)
    → (j : ℕ) → j < i + 1 → get_or (set l i v) j 0 ≡ g j
fill_more g l i v h e p j b = by (ℕ_discrete j i)
  where
    by : Dec (j ≡ i) → get_or (set l i v) j 0 ≡ g j
    by (yes d) = ap (λ k. get_or (set l i v) k 0) d ∙ get_or-set_same l i v 0 h ∙ e ∙ ap g (sym d)
    by (no d) = get_or-set_other l i j v 0 d ∙ p j (omega arith)

-- what holds from lo on up to r, and of r, holds up to r + 1
pub range_more : (P : ℕ → Type 0) (lo r : ℕ) → ((k : ℕ) → lo ≤ k → k < r → P k) → P r → (k : ℕ) → lo ≤ k → k < r + 1 → P k
range_more P lo r h p k l u = by (ℕ_discrete k r)
  where
    by : Dec (k ≡ r) → P k
    by (yes e) = subst⁻¹ P e p
    by (no e) = h k l (omega arith)
