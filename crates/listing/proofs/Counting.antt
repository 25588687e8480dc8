-- How many rows a function of a table has: those before its last block and that block's. Assumes nothing.
use mathlib.Core.List.{List}
use mathlib.Core.Path.{◌≡◌, sym, ap, ◌∙◌}
use Prim.Native.Nat.{ℕ, suc, ◌+◌, ◌-◌, ◌≤◌}
use native.Mathlib.Omega.{arith}
use lib.ListN.{length}
use Rattle.laws.proofs.OneMore.{sum_below_suc}
use Rattle.language.specs.Programs.{rows_of, max_blocks}
use Rattle.language.specs.Table.{block_count, block_first, block_rows, rows_before, decode_function}
use Rattle.theorems.specs.TableLaw.{FunctionFits}
use Rattle.language.proofs.TableView.{block_count_law, block_first_is, row_count_law}

module _ (t : List ℕ) (a : ℕ) (fits : FunctionFits (decode_function t a)) {n : ℕ} (count : n ≡ block_count t a) where
  pub few_blocks : n ≤ max_blocks
  few_blocks = omega (arith, block_count_law t a, fits.block_count)

  rows_are : length (rows_of (decode_function t a)) ≡ rows_before t a n
  rows_are = row_count_law t a fits.placed ∙ ap (rows_before t a) (sym count)

  pub no_rows : n ≡ 0 → 0 ≡ length (rows_of (decode_function t a))
  no_rows e = sym (rows_are ∙ ap (rows_before t a) e)

  pub all_rows : (n ≡ 0 → ⊥) → {x y : ℕ} → x ≡ block_first t a (n - 1) → y ≡ block_rows t a (n - 1) → x + y ≡ length (rows_of (decode_function t a))
  all_rows some {x} {y} p q =
      let first : block_first t a (n - 1) ≡ rows_before t a (n - 1) = block_first_is t a fits.placed (n - 1) (omega arith) in
      let next : n ≡ suc (n - 1) = omega arith in
      let sums : rows_before t a (suc (n - 1)) ≡ rows_before t a (n - 1) + block_rows t a (n - 1) = sum_below_suc (block_rows t a) (n - 1) in
      let here : rows_before t a n ≡ rows_before t a (suc (n - 1)) = ap (rows_before t a) next in
      cc_sum (p ∙ first) q (rows_are ∙ here ∙ sums)
    where
      cc_sum : {u v w z k : ℕ} → u ≡ w → v ≡ z → k ≡ w + z → u + v ≡ k
      cc_sum e d h = omega arith
