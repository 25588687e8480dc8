-- 9 of one function, in the parts in which its cells are tested. `a` is the cell where the function begins, i its number.
-- Assumes nothing.
use Rattle.std.specs.Prelude.{Bool, cond, not, ◌&&◌, List, [], ◌∷◌, ℕ, zero, suc, ◌+◌, eqb, leb, ltb}
use Rattle.laws.specs.Lists.{any, all, below, empty, same}
use Rattle.language.specs.Instructions.{type_count, void, phi_op}
use Rattle.language.specs.Programs.{max_registers, max_blocks, max_rows, max_entries}
use Rattle.language.specs.Names.{spellable}
use Rattle.language.specs.Table.{function_at, function_ssa, function_result, function_params, register_count, block_count, function_entry, function_name, register_type, block_name, row_op, phi_first, phi_count, row_count, entries_before, blocks_placed, phis_placed, predecessors_kept, decode_row, decode_function}
use Rattle.language.specs.Table.{block_length, block_names_offset, register_length, register_names_offset}
use Rattle.language.specs.Checking.{in_range, spellable_or_none, distinct}
use Rattle.name_index.specs.Names.{names_in}

-- The names of the functions before number i, the last first.
unfoldable pub table_names_before : List ℕ → ℕ → List (List ℕ)
table_names_before t zero = []
table_names_before t (suc i) = function_name t (function_at i) ∷ table_names_before t i

-- The mark, the return type, the counts, and entry: a block, with a name of no bytes.
unfoldable pub head_right : List ℕ → ℕ → Bool
head_right t a =
    ltb (function_ssa t a) 2
    && (leb (function_result t a) void
    && (leb (register_count t a) max_registers
    && (leb (block_count t a) max_blocks
    && (leb (function_params t a) (register_count t a)
    && (ltb (function_entry t a) (block_count t a) && empty (block_name t a (function_entry t a)))))))

-- Every register's type.
unfoldable pub types_right : List ℕ → ℕ → Bool
types_right t a = all (λ r. ltb (register_type t a r) type_count) (below (register_count t a))

-- The blocks' rows are in sequence, and not too many.
unfoldable pub blocks_right : List ℕ → ℕ → Bool
blocks_right t a = blocks_placed t a && leb (row_count t a) max_rows

-- How many rows there are if so; else one more than there may be.
unfoldable pub placed_rows : List ℕ → ℕ → ℕ
placed_rows t a = cond (blocks_right t a) (row_count t a) (suc max_rows)

-- How many phi entries the rows up to k have, n being those of the rows before it; one more than there may be, if row k's do not begin at n.
unfoldable pub entries_after : List ℕ → ℕ → ℕ → ℕ → ℕ
entries_after t a k n = cond (eqb (row_op t a k) phi_op) (cond (eqb (phi_first t a k) n) (n + phi_count t a k) (suc max_entries)) n

-- The phi entries are in sequence, and not too many; every number of every row is in its range.
unfoldable pub rows_right : List ℕ → ℕ → Bool
rows_right t a =
    phis_placed t a
    && (leb (entries_before t a (row_count t a)) max_entries
    && all (λ k. in_range (decode_function t a) (decode_row t a k)) (below (row_count t a)))

-- Names that stand `stride` apart from cell `at` on: each is none or one that a text can spell, and none stands twice.
unfoldable pub listed_right : List ℕ → ℕ → ℕ → ℕ → Bool
listed_right t at stride count = all spellable_or_none (names_in t at stride count) && distinct (names_in t at stride count)

-- The names of the function, its registers and its blocks.
unfoldable pub all_names_right : List ℕ → ℕ → ℕ → Bool
all_names_right t i a =
    spellable (function_name t a)
    && (not (any (same (function_name t a)) (table_names_before t i))
    && (listed_right t (a + register_names_offset) register_length (register_count t a) && listed_right t (a + block_names_offset) block_length (block_count t a)))

-- All of it.
unfoldable pub sound_at : List ℕ → ℕ → ℕ → Bool
sound_at t i a = head_right t a && (types_right t a && (blocks_right t a && (rows_right t a && (predecessors_kept t a && all_names_right t i a))))
