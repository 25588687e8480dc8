-- The sections of the function in hand: each has its length and its place, and a store in one is a store in the cells.
-- Assumes nothing.
use mathlib.Core.Bool.{Bool, true, cond}
use mathlib.Core.Path.{◌≡◌, refl, ap, ◌∙◌}
use mathlib.Core.List.{List, [], ◌∷◌, ◌++◌, map}
use Prim.Native.Nat.{ℕ, ◌+◌, ◌*◌, ◌≤◌, ◌<◌}
use native.Mathlib.Omega.{arith}
use lib.Dec.{T, ltb, leb→le, ltb→lt}
use lib.ListN.{length, get_or, replicate, length-append, length-map, replicate-append-replicate}
use Rattle.laws.specs.Lists.{all, empty, gather}
use Rattle.laws.specs.Sections.{At, pad, gather_from}
use Rattle.laws.proofs.Appending.{all_map}
use Rattle.laws.proofs.Indexing.{all_at}
use Rattle.laws.proofs.Sections.{at_move, at_self, at_left, at_right, length_pad, length_gather_from}
use Rattle.laws.proofs.Gather.{length_gather}
use Rattle.laws.proofs.Storing.{Stored, length_each, stored_left, stored_right, pad_is}
use Rattle.language.specs.Answers.{zeros}
use Rattle.language.specs.Programs.{Row, Block, Func, no_register, no_block, entries_of, max_entries, max_name}
use Rattle.language.specs.Table.{name_cells, register_cells, row_cells, function_length}
use Rattle.language.specs.Table.{blocks_length, blocks_offset, entries_offset, registers_length, rows_length, rows_offset}
use Rattle.language.specs.Table.{block_length, register_length, registers_offset, row_length}
use Rattle.language.specs.Reading.{Draft, fresh, open_rows, phi_entries, entries_in}
use Rattle.language.proofs.TableLaws.{length_name, length_register}
use Rattle.theorems.proofs.TableParts.{length_row}
use Rattle.predecessors.specs.Listing.{bare_cells}
use Rattle.predecessors.proofs.BareLaws.{length_bare}
use Rattle.drafts.specs.Cells.{WithinSizes, short_name, closed_block, numbered_row, numbered_rows, open_block, open_head, open_registers, open_blocks, open_row_cells, open_entries, open_cells}
use Rattle.drafts.specs.Mentions.{kept}

-- ---- the lengths of sections

abbrev pub height : Block → ℕ
height b = length b.rows

abbrev pub entries : Row → ℕ
entries row = length (entries_of row)

length_open_block : (name : List ℕ) → length name ≤ max_name → (k : ℕ) → k ≤ 64 → T (cond (empty name) true (ltb k 64)) → block_length * k + length (open_block name) ≤ blocks_length
unfolding open_block
length_open_block [] h k l t = omega arith
length_open_block (x ∷ xs) h k l t = omega (arith, length_name (x ∷ xs) h, ltb→lt k 64 t)

pub length_rows : (n : ℕ) (rows : List Row) → length (gather_from entries row_cells n rows) ≡ row_length * length rows
length_rows n rows = length_gather_from entries row_cells row_length Row.nop n rows (λ m i b. length_row m (get_or rows i Row.nop))

pub length_numbered : (d : Draft) → length (numbered_rows d) ≡ length (open_rows d)
unfolding numbered_rows
length_numbered d = length-map (open_rows d) (numbered_row (kept d))

pub length_entries : (d : Draft) → length (gather entries_in (open_rows d) ++ d.parts.entries) ≡ phi_entries d
unfolding phi_entries
length_entries d = length-append (gather entries_in (open_rows d)) d.parts.entries ∙ ap (λ (n : ℕ). n + length d.parts.entries) (length_gather entries_in (open_rows d))

module _ (d : Draft) (w : WithinSizes d) where
  abbrev closed : List Block
  closed = map closed_block d.blocks

  pub length_closed : length closed ≡ length d.blocks
  length_closed = length-map d.blocks closed_block

  pub registers_stride : (i : ℕ) → i < length d.function.registers → length (register_cells (get_or d.function.registers i no_register)) ≡ register_length
  registers_stride i b = length_register (get_or d.function.registers i no_register) (leb→le _ _ (all_at _ d.function.registers i no_register w.register_names b))

  pub blocks_stride : (m i : ℕ) → i < length closed → length (bare_cells m (get_or closed i no_block)) ≡ block_length
  blocks_stride m i b =
      let short : Block → Bool = λ b. short_name b.name in
      let all_short : T (all short closed) = rw (all_map short closed_block d.blocks) w.block_names in
      length_bare m (get_or closed i no_block) (leb→le _ _ (all_at short closed i no_block all_short b))

  pub length_registers : length (gather register_cells d.function.registers) ≡ register_length * length d.function.registers
  length_registers = length_each register_cells register_length no_register d.function.registers registers_stride

  pub length_blocks : length (gather_from height bare_cells 0 closed) ≡ block_length * length d.blocks
  length_blocks =
      length_gather_from height bare_cells block_length no_block 0 closed blocks_stride ∙ ap (λ (n : ℕ). block_length * n) length_closed

  pub length_head : length (open_head d) ≡ registers_offset
  unfolding open_head
  length_head = omega (arith, length_name d.function.name (leb→le _ _ w.name))

  pub length_open_registers : length (open_registers d) ≡ registers_length
  unfolding open_registers
  length_open_registers = length_pad registers_length (gather register_cells d.function.registers) (omega (arith, length_registers, w.registers))

  pub length_open_blocks : length (open_blocks d) ≡ blocks_length
  unfolding open_blocks
  length_open_blocks =
      length_pad blocks_length (gather_from height bare_cells 0 closed ++ open_block d.block.name)
      (simp length-append (omega (arith, length_blocks, length_open_block d.block.name (leb→le _ _ w.block) (length d.blocks) w.blocks w.room)))

  pub length_open_row_cells : length (open_row_cells d) ≡ rows_length
  unfolding open_row_cells
  length_open_row_cells =
      length_pad rows_length (gather_from entries row_cells 0 (numbered_rows d)) (omega (arith, length_rows 0 (numbered_rows d), length_numbered d, w.rows))

  pub length_open_entries : length (open_entries d) ≡ max_entries
  unfolding open_entries
  length_open_entries = length_pad max_entries (gather entries_in (open_rows d) ++ d.parts.entries) (omega (arith, length_entries d, w.entries))

-- ---- a store in a section is a store in the cells

-- The cells of a function by its sections: head, registers, blocks, rows, phi entries.
unfoldable pub cells_of : (h r b w e : List ℕ) → List ℕ
cells_of h r b w e = h ++ (r ++ (b ++ (w ++ e)))

pub record Sized (h r b w e : List ℕ) : Type 0 where
  pub head : length h ≡ registers_offset
  pub registers : length r ≡ registers_length
  pub blocks : length b ≡ blocks_length
  pub rows : length w ≡ rows_length
  pub entries : length e ≡ max_entries

module _ {h r b w e : List ℕ} (z : Sized h r b w e) where
  pub length_cells : length (cells_of h r b w e) ≡ function_length
  unfolding cells_of
  length_cells = simp length-append (omega (arith, z))

  module _ {k : ℕ} {vs x : List ℕ} {m : ℕ} where
    pub in_head : Stored h k vs x → k + length vs ≤ registers_offset → m ≡ k → Stored (cells_of h r b w e) m vs (cells_of x r b w e)
    unfolding cells_of
    in_head s l p = rw p (stored_left s (r ++ (b ++ (w ++ e))) (omega (arith, z)))

    pub in_registers : Stored r k vs x → k + length vs ≤ registers_length → m ≡ registers_offset + k → Stored (cells_of h r b w e) m vs (cells_of h x b w e)
    unfolding cells_of
    in_registers s l p = stored_right (stored_left s (b ++ (w ++ e)) (omega (arith, z))) h (omega (arith, z))

    pub in_blocks : Stored b k vs x → k + length vs ≤ blocks_length → m ≡ blocks_offset + k → Stored (cells_of h r b w e) m vs (cells_of h r x w e)
    unfolding cells_of
    in_blocks s l p = stored_right (stored_right (stored_left s (w ++ e) (omega (arith, z))) r refl) h (omega (arith, z))

    pub in_rows_law : Stored w k vs x → k + length vs ≤ rows_length → m ≡ rows_offset + k → Stored (cells_of h r b w e) m vs (cells_of h r b x e)
    unfolding cells_of
    in_rows_law s l p = stored_right (stored_right (stored_right (stored_left s e (omega (arith, z))) b refl) r refl) h (omega (arith, z))

    pub in_entries : Stored e k vs x → k + length vs ≤ max_entries → m ≡ entries_offset + k → Stored (cells_of h r b w e) m vs (cells_of h r b w x)
    unfolding cells_of
    in_entries s l p = stored_right (stored_right (stored_right (stored_right s w refl) b refl) r refl) h (omega (arith, z))

  -- ---- where the sections stand

  abbrev f : List ℕ
  f = cells_of h r b w e

  from_head : At f 0 (h ++ (r ++ (b ++ (w ++ e))))
  unfolding cells_of
  from_head = at_self

  from_registers : At f registers_offset (r ++ (b ++ (w ++ e)))
  from_registers = at_move (omega (arith, z)) (at_right h (r ++ (b ++ (w ++ e))) from_head)

  from_blocks : At f blocks_offset (b ++ (w ++ e))
  from_blocks = at_move (omega (arith, z)) (at_right r (b ++ (w ++ e)) from_registers)

  from_rows : At f rows_offset (w ++ e)
  from_rows = at_move (omega (arith, z)) (at_right b (w ++ e) from_blocks)

  pub at_head : At f 0 h
  at_head = at_left h (r ++ (b ++ (w ++ e))) from_head

  pub at_registers : At f registers_offset r
  at_registers = at_left r (b ++ (w ++ e)) from_registers

  pub at_blocks : At f blocks_offset b
  at_blocks = at_left b (w ++ e) from_blocks

  pub at_rows : At f rows_offset w
  at_rows = at_left w e from_rows

  pub at_entries : At f entries_offset e
  at_entries = at_move (omega (arith, z)) (at_right w e from_rows)

-- ---- the cells of a draft

pub sections : (d : Draft) → open_cells d ≡ cells_of (open_head d) (open_registers d) (open_blocks d) (open_row_cells d) (open_entries d)
unfolding open_cells cells_of
sections d = refl

module _ (d : Draft) (w : WithinSizes d) where
  pub sized : Sized (open_head d) (open_registers d) (open_blocks d) (open_row_cells d) (open_entries d)
  sized =
      record {
        head = length_head d w;
        registers = length_open_registers d w;
        blocks = length_open_blocks d w;
        rows = length_open_row_cells d w;
        entries = length_open_entries d w;
      }

  pub length_open_cells : length (open_cells d) ≡ function_length
  length_open_cells = rw (sections d) (length_cells sized)

-- ---- between two functions all cells are zero

no_sections : (a b c d e : ℕ) → pad a [] ++ (pad b [] ++ (pad c [] ++ (pad d [] ++ pad e []))) ≡ zeros (a + (b + (c + (d + e))))
unfolding zeros
no_sections a b c d e =
    let z : (k : ℕ) → pad k [] ≡ replicate k 0 = λ k. pad_is k [] k (omega arith) in
    simp (z, replicate-append-replicate)

-- a head with no name is not yet put down
fresh_head : (fs : List Func) → open_head (fresh fs) ≡ pad registers_offset []
unfolding open_head name_cells pad
fresh_head fs = refl

pub open_fresh : (fs : List Func) → open_cells (fresh fs) ≡ zeros function_length
unfolding cells_of open_registers open_blocks open_block open_row_cells open_entries open_rows numbered_rows
open_fresh fs =
    sections (fresh fs)
    ∙ rw (fresh_head fs) (no_sections registers_offset registers_length blocks_length rows_length max_entries)
