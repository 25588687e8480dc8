-- Blocks that have no lists yet.
-- Assumes nothing.
use mathlib.Core.Path.{◌≡◌, refl, ap}
use mathlib.Core.List.{List, [], ◌∷◌, ◌++◌, map}
use Prim.Native.Nat.{ℕ, suc, ◌+◌, ◌≤◌}
use native.Mathlib.Omega.{arith}
use lib.ListN.{length, replicate}
use Rattle.laws.specs.Lists.{from}
use Rattle.laws.specs.Sections.{pad, gather_from}
use Rattle.language.specs.Programs.{Block, Func}
use Rattle.language.specs.Table.{two_bytes, name_cells, block_cells, block_records, block_section, block_length, blocks_length, predecessors_length}
use Rattle.language.proofs.TableLaws.{length_block, no_predecessor_cells}
use Rattle.theorems.proofs.TableFunction.{height}
use Rattle.predecessors.specs.Ranked.{ranked_before, lists_before}
use Rattle.predecessors.specs.Listing.{no_lists, bare_cells}

pub length_bare : (n : ℕ) (b : Block) → length b.name ≤ 64 → length (bare_cells n b) ≡ block_length
length_bare n b h = length_block n (record { block = b; list = [] }) h (omega arith)

-- where a list will stand, all is zero
pub bare_cells_law : (n : ℕ) (b : Block) → bare_cells n b ≡ two_bytes n ++ (two_bytes (length b.rows) ++ (name_cells b.name ++ replicate predecessors_length 0))
unfolding block_cells
bare_cells_law n b = ap (λ list. two_bytes n ++ (two_bytes (length b.rows) ++ (name_cells b.name ++ list))) no_predecessor_cells

-- no list for each block of some
bare_from : (g : Func) (n k : ℕ) (blocks : List Block)
    → gather_from height block_cells n (block_records (map (ranked_before g 0) (from k (length blocks))) blocks) ≡ gather_from (λ b. length b.rows) bare_cells n blocks
unfolding ranked_before
bare_from g n k [] = refl
bare_from g n k (b ∷ blocks) = ap (λ rest. bare_cells n b ++ rest) (bare_from g (n + length b.rows) (suc k) blocks)

pub bare_section : (g : Func) → block_section (no_lists g) g ≡ pad blocks_length (gather_from (λ b. length b.rows) bare_cells 0 g.blocks)
unfolding block_section lists_before
bare_section g = ap (pad blocks_length) (bare_from g 0 0 g.blocks)
