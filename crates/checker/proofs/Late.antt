-- 17 of a function by the first row that breaks it.
-- Assumes nothing.
use mathlib.Core.Bool.{true, false}
use mathlib.Core.Path.{◌≡◌, sym, ap, ◌∙◌}
use mathlib.Core.List.{List, [], ◌∷◌}
use Prim.Native.Nat.{ℕ, suc, ◌≤◌, ◌<◌}
use native.Mathlib.Omega.{arith}
use lib.Dec.{T, eqb, eqb→eq}
use lib.ListN.{length, get_or, drop}
use borrow.Author.Tests.{ne_eqb, eq-eqb}
use Rattle.laws.specs.Lists.{keep, position}
use Rattle.laws.proofs.Keep.{keep_none, keep_first}
use Rattle.laws.proofs.Positions.{position_before, position_hit}
use Rattle.laws.proofs.Tests.{of_true}
use Rattle.language.specs.Programs.{Row, Func, is_ssa, rows_of, row_place}
use Rattle.language.specs.Table.{function_ssa, row_count, decode_function}
use Rattle.language.specs.Checking.{Spot, spots_of, breaks17, Verdict, rows_that, first_fault}
use Rattle.language.proofs.TableView.{rows_count}
use Rattle.theorems.proofs.Spots.{spots_count, number_of_spot}

no_spot : Spot
no_spot = record { block = 0; index = 0; row = Row.nop }

module _ (f : Func) (i : ℕ) where
  abbrev pub late : Verdict
  late = first_fault i 17 (rows_that f (breaks17 f) ∷ [])

  none_late : ((k : ℕ) → k < length (spots_of f) → breaks17 f (get_or (spots_of f) k no_spot) ≡ false) → Verdict.accepted ≡ late
  unfolding rows_that
  none_late h = rw (keep_none (breaks17 f) (spots_of f) no_spot h)

  -- a function not marked ssa
  pub late_plain : (f.ssa ≡ 1 → ⊥) → Verdict.accepted ≡ late
  unfolding breaks17
  late_plain n = none_late (λ k h. rw (ne_eqb f.ssa 1 n))

  module _ {r : ℕ} (e : r ≡ position (breaks17 f) (spots_of f)) where
    pub late_nowhere : length (rows_of f) ≤ r → Verdict.accepted ≡ late
    late_nowhere h = none_late (λ k l. position_before (breaks17 f) no_spot (spots_of f) k (omega (arith, spots_count f)))

    pub late_at : r < length (rows_of f) → Verdict.refused 17 (row_place i r) ≡ late
    unfolding rows_that
    late_at h =
        let xs = spots_of f in
        let inside : r < length xs = omega (arith, spots_count f) in
        let hit : breaks17 f (get_or xs r no_spot) ≡ true =
        ap (λ n. breaks17 f (get_or xs n no_spot)) e ∙ position_hit (breaks17 f) no_spot xs (omega arith) in
        let first : keep (breaks17 f) xs ≡ get_or xs r no_spot ∷ keep (breaks17 f) (drop (suc r) xs) =
        keep_first (breaks17 f) xs r no_spot inside (λ k l. position_before (breaks17 f) no_spot xs k (omega arith)) hit in
        rw (first, number_of_spot f r no_spot inside)

-- ---- in a table

pub unmarked : (t : List ℕ) (a : ℕ) {n : ℕ} → n ≡ function_ssa t a → (n ≡ 1 → ⊥) → T (is_ssa (decode_function t a)) → ⊥
unfolding decode_function
unmarked t a p q ssa = q (p ∙ eqb→eq (function_ssa t a) 1 ssa)

module _ (t : List ℕ) (a i : ℕ) where
  pub is_ssa_law : {n : ℕ} → n ≡ function_ssa t a → n ≡ 1 → T (is_ssa (decode_function t a))
  unfolding decode_function
  is_ssa_law p q = of_true (eqb (function_ssa t a) 1) (eq-eqb (function_ssa t a) 1 (sym p ∙ q))

  pub not_ssa : {n : ℕ} → n ≡ function_ssa t a → (n ≡ 1 → ⊥) → Verdict.accepted ≡ late (decode_function t a) i
  unfolding decode_function
  not_ssa p q = late_plain (decode_function t a) i (λ e. q (p ∙ e))

  module _ {r rows : ℕ} (e : r ≡ position (breaks17 (decode_function t a)) (spots_of (decode_function t a))) (n : rows ≡ row_count t a) where
    pub nowhere : rows ≤ r → Verdict.accepted ≡ late (decode_function t a) i
    nowhere h = late_nowhere (decode_function t a) i e (omega (arith, rows_count t a))

    pub somewhere : r < rows → Verdict.refused 17 (row_place i r) ≡ late (decode_function t a) i
    somewhere h = late_at (decode_function t a) i e (omega (arith, rows_count t a))
