-- A table of one function while it is put down.
-- Assumes nothing.
use Rattle.std.specs.Prelude.{List, ◌∷◌, ◌++◌, ℕ, length, take}
use Rattle.laws.specs.Lists.{gather}
use Rattle.laws.specs.Sections.{pad, gather_from}
use Rattle.language.specs.Programs.{Func, entries_of, rows_of}
use Rattle.language.specs.Table.{head_cells, register_cells, row_cells, cells_listing, entry_section, blocks_length, functions_length, registers_length, rows_length}
use Rattle.predecessors.specs.Listing.{bare_cells, no_lists}

-- The table of function g as far as it has been put down: its head, i registers, j blocks and k rows. Its phi entries count as put down; the
-- lists of its blocks come when all blocks are there.
unfoldable pub filled : Func → (i j k : ℕ) → List ℕ
filled g i j k =
    1
    ∷ pad functions_length
    (head_cells g
    ++ (pad registers_length (gather register_cells (take i g.registers))
    ++ (pad blocks_length (gather_from (λ b. length b.rows) bare_cells 0 (take j g.blocks))
    ++ (pad rows_length (gather_from (λ r. length (entries_of r)) row_cells 0 (take k (rows_of g))) ++ entry_section g))))

-- All of it but for these lists.
unfoldable pub unlisted : Func → List ℕ
unlisted g = 1 ∷ pad functions_length (cells_listing (no_lists g) g)
