-- A function's cells with its lists, one of which is another one.
-- Assumes nothing.
use mathlib.Core.Path.{◌≡◌, refl, sym, ◌∙◌}
use mathlib.Core.List.{List, [], ◌++◌}
use Prim.Native.Nat.{ℕ, ◌+◌, ◌*◌, ◌≤◌, ◌<◌}
use native.Mathlib.Nat.{mul-le-mul_left}
use native.Mathlib.Omega.{arith}
use lib.ListN.{length, get_or, set}
use Rattle.laws.proofs.Cells.{sets_all}
use Rattle.laws.proofs.Indexing.{together_set}
use Rattle.laws.proofs.Sections.{length_gather_from}
use Rattle.laws.proofs.Storing.{Stored, stored_left, stored_right, stored_pad, element_stored}
use Rattle.language.specs.Programs.{Func, no_block}
use Rattle.language.specs.Table.{BlockRecord, two_bytes, name_cells, predecessor_cells, block_cells, block_records, head_cells, register_section, block_section, row_section, entry_section, cells_listing}
use Rattle.language.specs.Table.{name_length, block_length, predecessors_offset, blocks_length}
use Rattle.language.proofs.TableLaws.{length_name, length_predecessors}
use Rattle.theorems.specs.TableLaw.{Laid, ListsFit, no_block_record}
use Rattle.theorems.proofs.TableFunction.{height, listed_at, length_listed, blocks_stride, length_head, length_registers, length_blocks}

-- ---- a list in its block's record

list_stored : (old new : List ℕ) → length old ≤ 64 → length new ≤ 64 → Stored (predecessor_cells old) 0 (predecessor_cells new) (predecessor_cells new)
list_stored old new h l =
    record { cells = sym (sets_all (predecessor_cells old) (predecessor_cells new) (length_predecessors new l ∙ sym (length_predecessors old h))) }

-- behind the name
in_record : (n : ℕ) (b : BlockRecord) (new : List ℕ) → length b.block.name ≤ 64 → length b.list ≤ 64 → length new ≤ 64
    → Stored (block_cells n b) 69 (predecessor_cells new) (block_cells n (record { block = b.block; list = new }))
unfolding block_cells
in_record n b new h l m =
    let behindName : Stored (name_cells b.block.name ++ predecessor_cells b.list) name_length (predecessor_cells new) (name_cells b.block.name ++ predecessor_cells new) =
    stored_right (list_stored b.list new l m) (name_cells b.block.name) (omega (arith, length_name b.block.name h)) in
    stored_right (stored_right behindName (two_bytes (length b.block.rows)) {m = 2 + name_length} refl) (two_bytes n) refl

module _ (g : Func) (laid : Laid g) (lists : List (List ℕ)) (fit : ListsFit lists g) (y : ℕ) (l : y < length g.blocks) (new : List ℕ) (short : length new ≤ 64) where
  abbrev items : List BlockRecord
  items = block_records lists g.blocks

  item : get_or items y no_block_record ≡ record { block = get_or g.blocks y no_block; list = get_or lists y [] }
  item = listed_at lists g.blocks y fit.count l

  in_items : block_records (set lists y new) g.blocks ≡ set items y (record { block = get_or g.blocks y no_block; list = new })
  in_items = together_set (λ b list. record { block = b; list = list }) no_block g.blocks lists y new l

  inside : y < length items
  inside = rw (length_listed lists g.blocks fit.count) l

  in_section : Stored (block_section lists g) (block_length * y + 69) (predecessor_cells new) (block_section (set lists y new) g)
  unfolding block_section
  in_section =
      rw in_items
      (stored_pad
      (element_stored height block_cells block_length no_block_record (record { block = get_or g.blocks y no_block; list = new }) 69 (predecessor_cells new)
      (omega (arith, length_predecessors new short)) 0 items (blocks_stride g laid lists fit) y inside (rw item refl)
      (λ m. rw item (in_record m (record { block = get_or g.blocks y no_block; list = get_or lists y [] }) new (laid.block_names y l) (fit.short y l) short)))
      blocks_length (omega (arith, length_gather_from height block_cells block_length no_block_record 0 items (blocks_stride g laid lists fit), length_listed lists g.blocks fit.count, mul-le-mul_left block_length l, length_predecessors new short)))

  -- in the function's cells
  pub list_in_cells : Stored (cells_listing lists g) (predecessors_offset + block_length * y) (predecessor_cells new) (cells_listing (set lists y new) g)
  unfolding cells_listing
  list_in_cells =
      let room : block_length * y + 69 + length (predecessor_cells new) ≤ blocks_length = omega (arith, length_predecessors new short, laid.block_count) in
      stored_right
      (stored_right
      (stored_left in_section (row_section g ++ entry_section g) (omega (arith, length_blocks g laid lists fit)))
      (register_section g) refl)
      (head_cells g) (omega (arith, length_head g laid, length_registers g laid))
