-- The cells of a program that fits are bytes: each part's are.
-- Assumes nothing.
use mathlib.Core.List.{List, [], ◌∷◌, ◌++◌}
use Prim.Native.Nat.{ℕ, ◌≤◌, ◌<◌}
use native.Mathlib.Nat.{lt_of_lt_of_le}
use native.Mathlib.Omega.{arith}
use lib.ListN.{length, get_or}
use Rattle.laws.specs.Lists.{gather}
use Rattle.laws.specs.Sections.{Bytes, gather_from}
use Rattle.laws.proofs.Every.{Every, none, more, every_keep, every_below}
use Rattle.laws.proofs.Sections.{bytes_append, bytes_pad, bytes_gather_from, gather_is_from}
use Rattle.language.specs.Programs.{Row, Register, Func, entries_of, rows_of, no_register, max_blocks, max_entries}
use Rattle.language.specs.Checking.{goes_to, predecessors}
use Rattle.language.specs.Table.{two_bytes, name_cells, register_cells, predecessor_cells, BlockRecord, block_cells, row_cells, head_cells, register_section, block_section}
use Rattle.language.specs.Table.{block_records, row_section, entry_section, cells_listing, predecessor_lists, function_cells, blocks_length, registers_length, row_length, rows_length}
use Rattle.language.specs.Instructions.{jump_cond_op, jump_op, leave_op, phi_op, return_op}
use Rattle.theorems.specs.TableLaw.{NameFits, RegisterFits, RowFits, FunctionFits, ListsFit, no_block_record}
use Rattle.theorems.proofs.TableFunction.{height, length_listed, listed_in, listed_at, predecessor_list, laid_of, lists_fit}

two_bytes_law : (n : ℕ) → Bytes (two_bytes n)
two_bytes_law n = omega arith

name_bytes : (name : List ℕ) → NameFits name → Bytes (name_cells name)
unfolding name_cells
name_bytes name h = (omega arith, bytes_pad 64 name h.bytes)

register_bytes : (r : Register) → RegisterFits r → Bytes (register_cells r)
unfolding register_cells
register_bytes r h = (h.type, name_bytes r.name h.name)

pub bytes_under : {n : ℕ} {xs : List ℕ} → n ≤ 256 → Every (λ x. x < n) xs → Bytes xs
bytes_under h none = tt
bytes_under h (more p q) = (lt_of_lt_of_le p h, bytes_under h q)

-- predecessors are blocks
list_bytes : (f : Func) (b : ℕ) → length f.blocks ≤ max_blocks → Bytes (predecessors f b)
unfolding predecessors
list_bytes f b l = bytes_under (omega arith) (every_keep (λ x. goes_to f x b) (λ x t h. h) (every_below (length f.blocks) (λ i h. h)))

block_bytes : (n : ℕ) (b : BlockRecord) → NameFits b.block.name → length b.list ≤ max_blocks → Bytes b.list → Bytes (block_cells n b)
unfolding block_cells predecessor_cells
block_bytes n b h l c =
    let count : List ℕ = two_bytes (length b.block.rows) in
    let name : List ℕ = name_cells b.block.name in
    let list : List ℕ = predecessor_cells b.list in
    bytes_append (two_bytes n) (count ++ (name ++ list)) (two_bytes_law n)
    (bytes_append count (name ++ list) (two_bytes_law (length b.block.rows))
    (bytes_append name list (name_bytes b.block.name h) (omega arith, bytes_pad max_blocks b.list c)))

row_bytes : (n : ℕ) (row : Row) → RowFits row → Bytes (row_cells n row)
unfolding row_cells
row_bytes n Row.nop h = bytes_pad row_length (0 ∷ []) (omega arith)
row_bytes n (Row.load op t x) h = omega arith
row_bytes n (Row.unary op t s) h = bytes_pad row_length (op ∷ t ∷ s ∷ []) (omega arith)
row_bytes n (Row.binary op t l r) h = bytes_pad row_length (op ∷ t ∷ l ∷ r ∷ []) (omega arith)
row_bytes n (Row.phi t es) h = bytes_pad row_length (phi_op ∷ t ∷ 0 ∷ 0 ∷ (two_bytes n ++ two_bytes (length es))) (omega arith)
row_bytes n (Row.jump b) h = bytes_pad row_length (jump_op ∷ 0 ∷ 0 ∷ 0 ∷ b ∷ []) (omega arith)
row_bytes n (Row.branch s x y) h = bytes_pad row_length (jump_cond_op ∷ 0 ∷ s ∷ 0 ∷ x ∷ y ∷ []) (omega arith)
row_bytes n (Row.return s) h = bytes_pad row_length (return_op ∷ 0 ∷ s ∷ []) (omega arith)
row_bytes n Row.leave h = bytes_pad row_length (leave_op ∷ []) (omega arith)
row_bytes n (Row.unknown op) h = bytes_pad row_length (op ∷ []) (omega arith)

module _ (f : Func) (fits : FunctionFits f) where
  head_bytes : Bytes (head_cells f)
  unfolding head_cells
  head_bytes =
      let counts : Bytes (length f.blocks ∷ f.entry ∷ name_cells f.name) = (omega (arith, fits.block_count), (fits.entry, name_bytes f.name fits.name)) in
      (fits.ssa, (fits.result, (omega arith, (omega arith, (omega arith, (omega arith, counts))))))

  registers_bytes : Bytes (register_section f)
  unfolding register_section
  registers_bytes =
      bytes_pad registers_length (gather register_cells f.registers)
      (rw (gather_is_from register_cells 0 f.registers)
      (bytes_gather_from (λ x. 0) (λ m. register_cells) no_register 0 f.registers (λ m i b. register_bytes (get_or f.registers i no_register) (fits.registers i b))))

  blocks_bytes : Bytes (block_section (predecessor_lists f) f)
  unfolding block_section
  blocks_bytes =
      let lists : List (List ℕ) = predecessor_lists f in
      let fit : ListsFit lists f = lists_fit f (laid_of f fits) in
      bytes_pad blocks_length (gather_from height block_cells 0 (block_records lists f.blocks))
      (bytes_gather_from height block_cells no_block_record 0 (block_records lists f.blocks)
      (λ m i b.
      let c : i < length f.blocks = omega (arith, length_listed lists f.blocks fit.count) in
      rw (listed_at lists f.blocks i fit.count c)
      (block_bytes m (listed_in lists f i) (fits.block_names i c) (fit.short i c) (rw (predecessor_list f i c) (list_bytes f i fits.block_count)))))

  rows_bytes : Bytes (row_section f)
  unfolding row_section
  rows_bytes =
      bytes_pad rows_length (gather_from (λ r. length (entries_of r)) row_cells 0 (rows_of f))
      (bytes_gather_from (λ r. length (entries_of r)) row_cells Row.nop 0 (rows_of f) (λ m i b. row_bytes m (get_or (rows_of f) i Row.nop) (fits.rows i b)))

  entries_bytes : Bytes (entry_section f)
  unfolding entry_section
  entries_bytes =
      bytes_pad max_entries (gather entries_of (rows_of f))
      (rw (gather_is_from entries_of 0 (rows_of f)) (bytes_gather_from (λ x. 0) (λ m. entries_of) Row.nop 0 (rows_of f) (λ m i b. (fits.rows i b).entries)))

  pub function_bytes : Bytes (function_cells f)
  unfolding function_cells cells_listing
  function_bytes =
      let blocks : List ℕ = block_section (predecessor_lists f) f in
      bytes_append (head_cells f) (register_section f ++ (blocks ++ (row_section f ++ entry_section f))) head_bytes
      (bytes_append (register_section f) (blocks ++ (row_section f ++ entry_section f)) registers_bytes
      (bytes_append blocks (row_section f ++ entry_section f) blocks_bytes (bytes_append (row_section f) (entry_section f) rows_bytes entries_bytes)))
