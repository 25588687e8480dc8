-- What is noted row by row is the first fault: the lowest number that some row breaks, at its earliest row.
-- Assumes nothing.
use mathlib.Core.Bool.{Bool, true, false, cond}
use mathlib.Core.Logic.{◌⊎◌, inl, inr, ⊎_elim}
use mathlib.Core.Path.{◌≡◌, refl, ◌∙◌}
use mathlib.Core.List.{List, [], ◌∷◌, ◌++◌, map, foldl}
use Prim.Native.Nat.{ℕ, suc, ◌+◌, ◌≤◌, ◌<◌}
use native.Mathlib.Nat.{add-suc, suc-add, add-zero}
use native.Mathlib.Omega.{arith}
use lib.Dec.{eqb, ltb}
use lib.ListN.{length}
use borrow.Author.Tests.{lt-ltb, le-ltb, eq-eqb, ne_eqb}
use Rattle.laws.specs.Lists.{keep}
use Rattle.language.specs.Programs.{row_place}
use Rattle.language.specs.Checking.{Verdict, first_fault}
use Rattle.rules.specs.Tests.{lowest}
use Rattle.checker.specs.Notes.{Lowest}
use Rattle.checker.specs.Notes.{noted}

-- ---- one number

-- The lowest of the tests numbered from k on is none of them, or k at least.
lowest_low : (k : ℕ) (bs : List Bool) → (lowest k bs ≡ 0) ⊎ (k ≤ lowest k bs)
lowest_low k [] = inl refl
lowest_low k (true ∷ bs) = inr (omega arith)
lowest_low k (false ∷ bs) = ⊎_elim (λ e. inl e) (λ h. inr (omega arith)) (lowest_low (suc k) bs)

-- It is one of the tests' numbers.
pub lowest_below : (k : ℕ) (bs : List Bool) → 0 < k → lowest k bs < k + length bs
lowest_below k [] l = omega arith
lowest_below k (true ∷ bs) l = omega arith
lowest_below k (false ∷ bs) l = omega (arith, lowest_below (suc k) bs (omega arith))

-- A number that is not lower is not noted.
pub not_noted : (s : Lowest) (n r : ℕ) → (n ≡ 0) ⊎ (s.number ≤ n) → noted s n r ≡ s
unfolding noted
not_noted s n r h = elim h [ inl e ↦ rw e | inr l ↦ by (eqb n 0) l ]
  where
    by : (b : Bool) → s.number ≤ n → cond b s (cond (ltb n s.number) (record { number = n; row = r }) s) ≡ s
    by true l = refl
    by false l = rw (le-ltb n s.number l)

pub is_noted : (s : Lowest) (n r : ℕ) → 0 < n → n < s.number → noted s n r ≡ record { number = n; row = r }
unfolding noted
is_noted s n r p l = rw (ne_eqb n 0 (λ e. omega arith), lt-ltb n s.number l)

-- Where it was above k it is above k afterwards, if what may be noted is.
above : (s : Lowest) (k n r : ℕ) → k < s.number → (n ≡ 0) ⊎ (suc k ≤ n) → k < (noted s n r).number
unfolding noted
above s k n r l h = elim h [ inl e ↦ rw e l | inr m ↦ by (eqb n 0) (ltb n s.number) m ]
  where
    by : (b c : Bool) → suc k ≤ n → k < (cond b s (cond c (record { number = n; row = r }) s)).number
    by true c m = l
    by false true m = m
    by false false m = l

-- ---- many items, each tested

-- The first row of a list, as number k's; else what is noted otherwise.
abbrev pick : ℕ → List ℕ → Lowest → Lowest
pick k [] z = z
pick k (r ∷ rs) z = record { number = k; row = r }

-- The answer, n being the number after those of the tests: what is noted, or what comes after.
abbrev pub answer : ℕ → ℕ → Lowest → List (List ℕ) → Verdict
answer i n s rest = cond (eqb s.number n) (first_fault i n rest) (Verdict.refused s.number (row_place i s.row))

module _ {A : Type 0} (row : A → ℕ) where
  abbrev pub column : (A → Bool) → List A → List ℕ
  column p xs = map row (keep p xs)

  abbrev pub note : ℕ → List (A → Bool) → Lowest → A → Lowest
  note k ps s x = noted s (lowest k (map (λ p. p x) ps)) (row x)

  -- Where k is noted already, no number from k on is.
  stays : (k : ℕ) (ps : List (A → Bool)) (s : Lowest) (xs : List A) → s.number ≤ k → foldl (note k ps) s xs ≡ s
  stays k ps s [] l = refl
  stays k ps s (x ∷ xs) l =
      let same : note k ps s x ≡ s =
      not_noted s (lowest k (map (λ p. p x) ps)) (row x)
      (⊎_elim (λ e. inl e) (λ h. inr (omega arith)) (lowest_low k (map (λ p. p x) ps))) in
      rw same (stays k ps s xs l)

  -- The first test: its earliest row, or if it has none what the other tests note.
  first_test :
      (k : ℕ) (p : A → Bool) (ps : List (A → Bool)) (s : Lowest) (xs : List A)
      → 0 < k
      → k < s.number
      → foldl (note k (p ∷ ps)) s xs ≡ pick k (column p xs) (foldl (note (suc k) ps) s xs)
  first_test k p ps s [] z l = refl
  first_test k p ps s (x ∷ xs) z l = by (p x) (λ s h. first_test k p ps s xs z h)
    where
      others : ℕ
      others = lowest (suc k) (map (λ p. p x) ps)

      by :
          (b : Bool)
          → ((s : Lowest) → k < s.number → foldl (note k (p ∷ ps)) s xs ≡ pick k (column p xs) (foldl (note (suc k) ps) s xs))
          → foldl (note k (p ∷ ps)) (noted s (cond b k others) (row x)) xs
          ≡ pick k (map row (cond b (x ∷ keep p xs) (keep p xs))) (foldl (note (suc k) ps) (noted s others (row x)) xs)
      by true ih =
          rw (is_noted s k (row x) z l) (stays k (p ∷ ps) (record { number = k; row = row x }) xs (omega arith))
      by false ih = ih (noted s others (row x)) (above s k others (row x) l (lowest_low (suc k) (map (λ p. p x) ps)))

  -- The first fault of the columns is what is noted item by item.
  pub first_noted :
      (i k : ℕ) (ps : List (A → Bool)) (s : Lowest) (xs : List A) (rest : List (List ℕ))
      → 0 < k
      → s.number ≡ k + length ps
      → first_fault i k (map (λ p. column p xs) ps ++ rest) ≡ answer i (k + length ps) (foldl (note k ps) s xs) rest
  first_noted i k [] s xs rest z e = rw (add-zero, none_noted s xs, eq-eqb s.number k (e ∙ add-zero k))
    where
      none_noted : (s : Lowest) (xs : List A) → foldl (note k []) s xs ≡ s
      none_noted s [] = refl
      none_noted s (x ∷ xs) = rw (not_noted s 0 (row x) (inl refl)) (none_noted s xs)
  first_noted i k (p ∷ ps) s xs rest z e =
      rw (first_test k p ps s xs z (omega arith), add-suc, ← suc-add)
      (by (column p xs) (first_noted i (suc k) ps s xs rest (omega arith) (omega arith)))
    where
      by :
          (rs : List ℕ)
          → first_fault i (suc k) (map (λ p. column p xs) ps ++ rest) ≡ answer i (suc k + length ps) (foldl (note (suc k) ps) s xs) rest
          → first_fault i k (rs ∷ (map (λ p. column p xs) ps ++ rest))
          ≡ answer i (suc k + length ps) (pick k rs (foldl (note (suc k) ps) s xs)) rest
      by [] ih = ih
      by (r ∷ rs) ih = rw (ne_eqb k (suc k + length ps) (λ e. omega arith))
