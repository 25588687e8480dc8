-- Rows of a function whose sizes are within the limits: that their cells may be looked at.
-- Assumes nothing.
use mathlib.Core.Path.{◌≡◌, ap}
use mathlib.Core.Bool.{cond}
use mathlib.Core.List.{List}
use Prim.Native.Nat.{ℕ, ◌+◌, ◌≤◌, ◌<◌}
use native.Mathlib.Omega.{arith}
use borrow.Author.Tests.{eq-eqb}
use Rattle.laws.proofs.Sums.{sum_below_le}
use Rattle.language.specs.Programs.{max_rows, max_entries}
use Rattle.language.specs.Instructions.{phi_op}
use Rattle.language.specs.Table.{block_count, block_first, block_rows, row_count, row_op, row_entries, entries_before, phi_first, phi_count}
use Rattle.language.proofs.TableView.{block_first_is, phi_first_is}
use Rattle.flow.specs.Sized.{Sized}

module _ (t : List ℕ) (a : ℕ) (h : Sized t a) where
  -- the rows of a block are rows of the function
  pub block_within : (b : ℕ) → b < block_count t a → block_first t a b + block_rows t a b ≤ row_count t a
  block_within b l = rw (block_first_is t a h.placed b l) (sum_below_le (block_rows t a) b (block_count t a) l)

  -- and among the 1,024
  pub block_limit : (b first rows : ℕ) → b < block_count t a → first ≡ block_first t a b → rows ≡ block_rows t a b → first + rows ≤ max_rows
  block_limit b first rows l p q = omega (arith, block_within b l, h.rows)

  pub row_within : (b j : ℕ) → b < block_count t a → j < block_rows t a b → block_first t a b + j < row_count t a
  row_within b j l m = omega (arith, block_within b l)

  -- the entries of a phi are entries of the function
  pub entries_within : (k : ℕ) → k < row_count t a → row_op t a k ≡ phi_op → phi_first t a k + phi_count t a k ≤ max_entries
  entries_within k l e =
      let n : row_entries t a k ≡ phi_count t a k = ap (λ x. cond x (phi_count t a k) 0) (eq-eqb (row_op t a k) phi_op e) in
      let s : entries_before t a k + row_entries t a k ≤ entries_before t a (row_count t a) = sum_below_le (row_entries t a) k (row_count t a) l in
      let p : phi_first t a k ≡ entries_before t a k = phi_first_is t a h.placed k l e in
      let q : entries_before t a (row_count t a) ≤ max_entries = h.entries in
      omega arith
