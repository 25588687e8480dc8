-- A function's closing brace in cells: the blocks that the kept names name, the rows with those in place, the first eight cells.
-- Assumes nothing.
use Rattle.std.specs.Prelude.{◌≡◌, cond, List, ℕ, zero, suc, ◌+◌, ◌*◌, ◌≤◌, ◌<◌, eqb, get_or, set}
use Rattle.table.specs.Named.{first_named}
use Rattle.language.specs.Table.{name_at, row_op, block_length, block_names_offset, operands_offset, row_length}
use Rattle.language.specs.Instructions.{jump_cond_op, jump_op}
use Rattle.drafts.specs.State.{mention_length}

-- The block that the k-th name names, or the number of blocks.
abbrev pub block_named : (f : List ℕ) (blocks : ℕ) (pend : List ℕ) → ℕ → ℕ
block_named f blocks pend k = first_named f block_names_offset block_length blocks (name_at pend (mention_length * k))

-- Of so many names r are resolved, all or those before the first that no block answers, and stand in found.
pub record Resolved (f : List ℕ) (blocks : ℕ) (pend : List ℕ) (names r : ℕ) (found : List ℕ) : Type 0 where
  pub most : r ≤ names
  pub named : (k : ℕ) → k < r → (get_or found k 0 ≡ block_named f blocks pend k) × (block_named f blocks pend k < blocks)
  pub missing : r < names → blocks ≤ block_named f blocks pend r

-- Row r with its blocks' numbers, if it is a jump or a branch, in place of those of the names.
unfoldable pub patch_row : List ℕ → (found : List ℕ) → ℕ → List ℕ
patch_row f found r =
    let k = operands_offset + row_length * r in
    let one = set f k (get_or found (get_or f k 0) 0) in
    cond (eqb (row_op f 0 r) jump_op) one
    (cond (eqb (row_op f 0 r) jump_cond_op) (set one (k + 1) (get_or found (get_or f (k + 1) 0) 0)) f)

-- The first r rows, one after the other.
unfoldable pub patch_rows : List ℕ → (found : List ℕ) → ℕ → List ℕ
patch_rows f found zero = f
patch_rows f found (suc r) = patch_row (patch_rows f found r) found r
