-- What a function must meet before anything of it is prepared: cells that may be looked at.
-- Assumes nothing.
use Rattle.std.specs.Prelude.{true, ◌≡◌, List, ℕ, ◌≤◌, T}
use Rattle.laws.specs.Lists.{all}
use Rattle.language.specs.Programs.{max_registers, max_blocks, max_rows, max_entries, rows_of}
use Rattle.language.specs.Table.{register_count, block_count, row_count, entries_before, decode_function, InTable}
use Rattle.language.specs.Checking.{in_range}

-- The function at cell a of t stands within t, its sizes are within the limits, its positions as its counts give them.
pub record Sized (t : List ℕ) (a : ℕ) : Type 0 where
  pub within : InTable t a
  pub registers : register_count t a ≤ max_registers
  pub blocks : block_count t a ≤ max_blocks
  pub rows : row_count t a ≤ max_rows
  pub entries : entries_before t a (row_count t a) ≤ max_entries
  pub placed : (decode_function t a).placed ≡ true

-- Its cells may be looked at, and its rows name registers and blocks that it has.
pub record Preparable (t : List ℕ) (a : ℕ) : Type 0 where
  pub sized : Sized t a
  pub ranges : T (all (in_range (decode_function t a)) (rows_of (decode_function t a)))
