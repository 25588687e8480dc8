-- Names read back from the cells of the function in hand.
-- Assumes nothing.
use mathlib.Core.Path.{◌≡◌, ap, ◌∙◌}
use mathlib.Core.List.{List, [], ◌∷◌, ◌++◌, map}
use Prim.Native.Nat.{ℕ, ◌+◌, ◌*◌, ◌<◌}
use native.Mathlib.Omega.{arith}
use lib.ListN.{length, get_or, take}
use Rattle.laws.specs.Lists.{gather, sum}
use Rattle.laws.specs.Sections.{At, gather_from}
use Rattle.laws.proofs.Indexing.{get_d_map}
use Rattle.laws.proofs.Sections.{at_left, at_right, at_pad, at_stride}
use Rattle.laws.proofs.Storing.{at_each}
use Rattle.language.specs.Programs.{Register, Block, no_register, no_block}
use Rattle.language.specs.Table.{name_at, two_bytes, name_cells, register_cells, predecessor_cells, block_cells}
use Rattle.language.specs.Table.{block_length, block_names_offset, blocks_length, register_length, register_names_offset, registers_length}
use Rattle.language.specs.Reading.{Draft, no_open_block}
use Rattle.language.proofs.TableLaws.{name_back}
use Rattle.predecessors.specs.Listing.{bare_cells}
use Rattle.drafts.specs.Cells.{WithinSizes, closed_block, open_block, open_registers, open_blocks, open_cells}
use Rattle.drafts.proofs.Sections.{height, sections, sized, length_closed, registers_stride, blocks_stride, at_registers, at_blocks}

module _ {t : List ℕ} where
  register_name : {k : ℕ} (r : Register) → At t k (register_cells r) → {m : ℕ} → m ≡ k + 1 → name_at t m ≡ r.name
  unfolding register_cells
  register_name r h e = name_back r.name (at_right (r.type ∷ []) (name_cells r.name) h) e

  block_name : {k : ℕ} (n : ℕ) (b : Block) → At t k (bare_cells n b) → {m : ℕ} → m ≡ k + 4 → name_at t m ≡ b.name
  unfolding block_cells
  block_name n b h e =
      name_back b.name
      (at_left (name_cells b.name) (predecessor_cells [])
      (at_right (two_bytes n ++ two_bytes (length b.rows)) (name_cells b.name ++ predecessor_cells []) h)) e

module _ (d : Draft) (w : WithinSizes d) where
  pub register_name_back : (i : ℕ) → i < length d.function.registers → {m : ℕ} → m ≡ register_names_offset + register_length * i
      → name_at (open_cells d) m ≡ (get_or d.function.registers i no_register).name
  unfolding open_registers
  register_name_back i b e =
      let rs = d.function.registers in
      rw (sections d)
      (register_name (get_or rs i no_register)
      (at_each register_cells register_length no_register rs (registers_stride d w) i b (at_pad registers_length (gather register_cells rs) (at_registers (sized d w))))
      (omega arith))

  pub block_name_back : (i : ℕ) → i < length d.blocks → {m : ℕ} → m ≡ block_names_offset + block_length * i
      → name_at (open_cells d) m ≡ (get_or d.blocks i no_open_block).name
  unfolding open_blocks
  block_name_back i b e =
      let bs = map closed_block d.blocks in
      let G = gather_from height bare_cells 0 bs in
      let l : i < length bs = omega (arith, length_closed d w) in
      rw (sections d)
      (block_name (0 + sum (map height (take i bs))) (get_or bs i no_block)
      (at_stride height bare_cells block_length no_block 0 bs (blocks_stride d w) i l
      (at_left G (open_block d.block.name) (at_pad blocks_length (G ++ open_block d.block.name) (at_blocks (sized d w)))))
      (omega arith)
      ∙ ap (λ (b : Block). b.name) (get_d_map closed_block d.blocks i no_open_block no_block b))
