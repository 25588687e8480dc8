-- A row at its place: where it stands in its function, and that its cells may be looked at.
-- Assumes nothing.
use mathlib.Core.Path.{◌≡◌, sym, ap}
use mathlib.Core.List.{List}
use Prim.Native.Nat.{ℕ, ◌+◌, ◌≤◌, ◌<◌}
use native.Mathlib.Omega.{arith}
use lib.ListN.{length, get_or}
use Rattle.language.specs.Programs.{Row, rows_at, rows_of, max_rows, max_entries}
use Rattle.language.specs.Table.{block_first, row_count, row_op, phi_first, phi_count, decode_row, decode_function}
use Rattle.language.specs.Checking.{spot_at, row_number}
use Rattle.language.specs.Instructions.{phi_op}
use Rattle.language.proofs.TableView.{block_row_is, first_row_is, row_is, row_count_law}
use Rattle.flow.proofs.Standing.{row_within, entries_within}
use Rattle.rules.specs.Cells.{RowStands, spot}

module _ (t : List ℕ) (a : ℕ) (m : List ℕ) (b j k : ℕ) (h : RowStands t a m b j k) where
  pub row_below : k < row_count t a
  row_below = rw h.row (row_within t a h.sized b j h.block h.index)

  pub row_limit : k < max_rows
  row_limit = let l : k < row_count t a = row_below in let q : row_count t a ≤ max_rows = h.sized.rows in omega arith

  pub place_limit : j < max_rows
  place_limit = let l : k < max_rows = row_limit in let e : k ≡ block_first t a b + j = h.row in omega arith

  pub phi_limit : row_op t a k ≡ phi_op → phi_first t a k + phi_count t a k ≤ max_entries
  phi_limit e = entries_within t a h.sized k row_below e

  -- the row at the place, by its number
  pub row_here : get_or (rows_at (decode_function t a) b) j Row.nop ≡ decode_row t a k
  row_here = rw h.row (block_row_is t a b h.block j h.index)

  pub spot_here : spot_at (decode_function t a) b j ≡ spot b j (decode_row t a k)
  spot_here = ap (λ r. spot b j r) row_here

  pub row_of_law : get_or (rows_of (decode_function t a)) k Row.nop ≡ decode_row t a k
  row_of_law = row_is t a h.sized.placed k row_below

  pub row_in : k < length (rows_of (decode_function t a))
  row_in = rw (row_count_law t a h.sized.placed) row_below

  pub number_here : (r : Row) → row_number (decode_function t a) (spot b j r) ≡ k
  unfolding row_number
  number_here r = rw (first_row_is t a h.sized.placed b h.block) (sym h.row)
