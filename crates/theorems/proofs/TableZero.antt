-- Cells that are not needed are written as 0: each part is padded with zeros behind its own cells, and those are needed.
-- Assumes nothing.
use mathlib.Core.Logic.{inl, inr}
use mathlib.Core.Path.{◌≡◌, refl, ap, ◌∙◌}
use mathlib.Core.List.{List, [], ◌∷◌, ◌++◌, map}
use Prim.Native.Nat.{ℕ, suc, ◌+◌, ◌*◌, ◌≤◌, ◌<◌, suc-le-suc}
use native.Mathlib.Nat.{zero-lt-suc, add-zero}
use native.Mathlib.Omega.{arith}
use lib.Dec.{T}
use lib.ListN.{length, get_or, take}
use Rattle.laws.specs.Lists.{gather, sum, member}
use Rattle.laws.specs.Sections.{At, ZeroOr, pad, gather_from}
use Rattle.laws.proofs.Sections.{at_right, gather_is_from, zero_or_append, zero_or_pad, zero_or_all, zero_or_gather, zero_or_stride}
use Rattle.laws.proofs.Sections.{zero_or_map}
use Rattle.language.specs.Instructions.{form_of, jump_cond_op, jump_op, leave_op, phi_op, return_op}
use Rattle.language.specs.Programs.{Row, Register, Func, entries_of, form_in, rows_at, rows_of, first_row, block_at, no_register, max_entries}
use Rattle.language.specs.Table.{two_bytes, name_cells, register_cells, predecessor_cells, BlockRecord, block_cells, row_cells, head_cells, register_section, block_section}
use Rattle.language.specs.Table.{block_records, row_section, entry_section, cells_listing, row_op, register_count, block_count, phi_first, phi_count, name_length, name_offset}
use Rattle.language.specs.Table.{block_length, block_names_offset, blocks_length, blocks_offset, entries_offset, predecessors_offset, register_length, register_names_offset, registers_length, registers_offset, row_length, rows_length, rows_offset}
use Rattle.theorems.specs.TableLaw.{Laid, ListsFit, no_block_record}
use Rattle.theorems.specs.TableNeeds.{used_cells, NeededRow, NeededIn}
use Rattle.theorems.proofs.TableParts.{by_phi, length_row, phi_first_back, phi_count_back, block_name_at}
use Rattle.language.proofs.TableLaws.{length_name, name_length_back}
use Rattle.theorems.proofs.TableFunction.{entries, entry_start, height, length_listed, listed_in, listed_at, registers_stride, blocks_stride, length_head}
use Rattle.theorems.proofs.TableFunction.{length_registers, length_blocks, length_rows, register_at, row_at, row_op_at, entries_fit, block_at_law}
use Rattle.theorems.proofs.TableFunction.{block_count_at, row_count_at, predecessor_count_at, from_name, register_count_at}

-- a name or a list of predecessors: how many and which, then zeros
list_zero : (P : ℕ → Type 0) (k : ℕ) (list : List ℕ) → ((j : ℕ) → j < suc (length list) → (m : ℕ) → m ≡ k + j → P m) → ZeroOr P k (length list ∷ pad 64 list)
list_zero P k list h = (
  inr (h 0 (zero-lt-suc (length list)) k (omega arith)),
  zero_or_pad P (suc k) 64 list (zero_or_all P (suc k) list (λ j b m e. h (suc j) (suc-le-suc b) m (omega arith))),
)

abbrev Used : Row → ℕ → Type 0
Used row j = T (member j (used_cells (form_in row)))

-- the cells that a row does not use
row_zero : (n : ℕ) (row : Row) → ZeroOr (Used row) 0 (row_cells n row)
unfolding row_cells
row_zero n Row.nop = zero_or_pad (Used Row.nop) 0 row_length (0 ∷ []) (inr tt, tt)
row_zero n (Row.load op t x) =
    (inr tt, (inr tt, (inl refl, (inl refl, (inr tt, (inr tt, (inr tt, (inr tt, (inr tt, (inr tt, (inr tt, (inr tt, tt))))))))))))
row_zero n (Row.unary op t s) = zero_or_pad (Used (Row.unary op t s)) 0 row_length (op ∷ t ∷ s ∷ []) (inr tt, (inr tt, (inr tt, tt)))
row_zero n (Row.binary op t l r) = zero_or_pad (Used (Row.binary op t l r)) 0 row_length (op ∷ t ∷ l ∷ r ∷ []) (inr tt, (inr tt, (inr tt, (inr tt, tt))))
row_zero n (Row.phi t es) =
    zero_or_pad (Used (Row.phi t es)) 0 row_length (phi_op ∷ t ∷ 0 ∷ 0 ∷ (two_bytes n ++ two_bytes (length es)))
    (inr tt, (inr tt, (inl refl, (inl refl, (inr tt, (inr tt, (inr tt, (inr tt, tt))))))))
row_zero n (Row.jump b) = zero_or_pad (Used (Row.jump b)) 0 row_length (jump_op ∷ 0 ∷ 0 ∷ 0 ∷ b ∷ []) (inr tt, (inl refl, (inl refl, (inl refl, (inr tt, tt)))))
row_zero n (Row.branch s x y) =
    zero_or_pad (Used (Row.branch s x y)) 0 row_length (jump_cond_op ∷ 0 ∷ s ∷ 0 ∷ x ∷ y ∷ []) (inr tt, (inl refl, (inr tt, (inl refl, (inr tt, (inr tt, tt))))))
row_zero n (Row.return s) = zero_or_pad (Used (Row.return s)) 0 row_length (return_op ∷ 0 ∷ s ∷ []) (inr tt, (inl refl, (inr tt, tt)))
row_zero n Row.leave = zero_or_pad (Used Row.leave) 0 row_length (leave_op ∷ []) (inr tt, tt)
row_zero n (Row.unknown op) = zero_or_pad (Used (Row.unknown op)) 0 row_length (op ∷ []) (inr tt, tt)

module _ (f : Func) (laid : Laid f) (lists : List (List ℕ)) (fit : ListsFit lists f) {t : List ℕ} (a : ℕ) (h : At t a (cells_listing lists f)) where
  abbrev P : ℕ → Type 0
  P k = NeededIn t a k

  head_zero : ZeroOr P a (head_cells f)
  unfolding head_cells name_cells
  head_zero =
      zero_or_append P a (f.ssa ∷ f.result ∷ (two_bytes f.params ++ (two_bytes (length f.registers) ++ (length f.blocks ∷ f.entry ∷ [])))) (name_cells f.name)
      (zero_or_all P a (f.ssa ∷ f.result ∷ (two_bytes f.params ++ (two_bytes (length f.registers) ++ (length f.blocks ∷ f.entry ∷ [])))) (λ j b m e. NeededIn.head j b e))
      (list_zero P (a + name_offset) f.name (λ j b m e. NeededIn.name j (rw (name_length_back f.name (from_name f laid lists fit a h) {m = a + name_offset} (omega arith)) b) e))
      refl

  -- ---- registers

  register_zero : (i : ℕ) → i < length f.registers → (q : ℕ) → q ≡ a + registers_offset + register_length * i → ZeroOr P q (register_cells (get_or f.registers i no_register))
  unfolding register_cells name_cells
  register_zero i b q e =
      let r : Register = get_or f.registers i no_register in
      let inside : i < register_count t a = omega (arith, register_count_at f laid lists fit a h) in
      let long : get_or t (a + register_names_offset + register_length * i) 0 ≡ length r.name =
      name_length_back r.name (at_right (r.type ∷ []) (name_cells r.name) (register_at f laid lists fit a h i b)) (omega arith) in
      (inr (NeededIn.register_type i inside e), list_zero P (suc q) r.name (λ j c m d. NeededIn.register_name i j inside (rw long c) (omega arith)))

  registers_zero : ZeroOr P (a + registers_offset) (register_section f)
  unfolding register_section
  registers_zero =
      zero_or_pad P (a + registers_offset) registers_length (gather register_cells f.registers)
      (rw (gather_is_from register_cells 0 f.registers)
      (zero_or_stride P (a + registers_offset) (λ x. 0) (λ m. register_cells) register_length no_register 0 f.registers (registers_stride f laid) (λ m i b q e. register_zero i b q e)))

  -- ---- blocks

  block_zero : (m i : ℕ) → i < length f.blocks → (q : ℕ) → q ≡ a + blocks_offset + block_length * i → ZeroOr P q (block_cells m (listed_in lists f i))
  unfolding block_cells name_cells predecessor_cells
  block_zero m i b q e =
      let count : List ℕ = two_bytes (length (rows_at f i)) in
      let name : List ℕ = (block_at f i).name in
      let list : List ℕ = get_or lists i [] in
      let inside : i < block_count t a = omega (arith, block_count_at f laid lists fit a h) in
      let long : get_or t (a + block_names_offset + block_length * i) 0 ≡ length name =
      name_length_back name (block_name_at a (first_row f i) (listed_in lists f i) i (block_at_law f laid lists fit a h i b) refl) refl in
      let many : get_or t (a + predecessors_offset + block_length * i) 0 ≡ length list = predecessor_count_at f laid lists fit a h i b in
      zero_or_append P q (two_bytes m ++ count) (name_cells name ++ predecessor_cells list)
      (zero_or_all P q (two_bytes m ++ count) (λ j c k d. NeededIn.block_place i j inside c (omega arith)))
      (zero_or_append P (q + 4) (name_cells name) (predecessor_cells list)
      (list_zero P (q + 4) name (λ j c k d. NeededIn.block_name i j inside (rw long c) (omega arith)))
      (list_zero P (q + 4 + name_length) list (λ j c k d. NeededIn.predecessor i j inside (rw many c) (omega arith)))
      (omega (arith, length_name name (laid.block_names i b))))
      refl

  blocks_zero : ZeroOr P (a + blocks_offset) (block_section lists f)
  unfolding block_section
  blocks_zero =
      let blocks : List BlockRecord = block_records lists f.blocks in
      zero_or_pad P (a + blocks_offset) blocks_length (gather_from height block_cells 0 blocks)
      (zero_or_stride P (a + blocks_offset) height block_cells block_length no_block_record 0 blocks (blocks_stride f laid lists fit)
      (λ m i b q e.
      let c : i < length f.blocks = omega (arith, length_listed lists f.blocks fit.count) in
      rw (listed_at lists f.blocks i fit.count c) (block_zero m i c q e)))

  -- ---- rows and their entries

  module _ (i : ℕ) (b : i < length (rows_of f)) where
    abbrev row : Row
    row = get_or (rows_of f) i Row.nop

    inside : NeededRow t a i
    inside = NeededRow.counted (omega (arith, row_count_at f laid lists fit a h))

    form : form_of (row_op t a i) ≡ form_in row
    form = ap form_of (row_op_at f laid lists fit a h i b) ∙ laid.forms i b

    row_cells_zero : (m q : ℕ) → q ≡ a + rows_offset + row_length * i → ZeroOr P q (row_cells m row)
    row_cells_zero m q e =
        rw (add-zero q) at (zero_or_map (Used row) P q (λ j k d u. NeededIn.row i j inside (rw form u) (omega arith)) 0 (row_cells m row) (row_zero m row))

    entries_cells_zero : (q : ℕ) → q ≡ a + entries_offset + sum (map entries (take i (rows_of f))) → ZeroOr P q (entries_of row)
    entries_cells_zero q e =
        by_phi
        (λ x. At t (a + rows_offset + row_length * i) (row_cells (entry_start f i) x) → form_of (row_op t a i) ≡ form_in x → entry_start f i + entries x ≤ max_entries → ZeroOr P q (entries_of x))
        (λ u es g d c.
        let first : phi_first t a i ≡ entry_start f i = phi_first_back a (entry_start f i) u es i g refl (omega arith) in
        let count : phi_count t a i ≡ length es = phi_count_back a (entry_start f i) u es i g refl (omega arith) in
        zero_or_all P q es (λ j k m n. NeededIn.entry i j inside d (rw count k) (omega arith)))
        (λ x u none g d c. rw none tt)
        row (row_at f laid lists fit a h i b) form (omega (arith, entries_fit f laid lists fit a h i b))

  rows_zero : ZeroOr P (a + rows_offset) (row_section f)
  unfolding row_section
  rows_zero =
      zero_or_pad P (a + rows_offset) rows_length (gather_from entries row_cells 0 (rows_of f))
      (zero_or_stride P (a + rows_offset) entries row_cells row_length Row.nop 0 (rows_of f) (λ m i b. length_row m (get_or (rows_of f) i Row.nop)) (λ m i b q e. row_cells_zero i b m q e))

  entries_zero : ZeroOr P (a + entries_offset) (entry_section f)
  unfolding entry_section
  entries_zero =
      zero_or_pad P (a + entries_offset) max_entries (gather entries_of (rows_of f))
      (zero_or_gather P (a + entries_offset) entries_of Row.nop (rows_of f) entries_cells_zero)

  pub function_zero : ZeroOr P a (cells_listing lists f)
  unfolding cells_listing
  function_zero =
      let blocks : List ℕ = block_section lists f in
      zero_or_append P a (head_cells f) (register_section f ++ (blocks ++ (row_section f ++ entry_section f))) head_zero
      (zero_or_append P (a + registers_offset) (register_section f) (blocks ++ (row_section f ++ entry_section f)) registers_zero
      (zero_or_append P (a + blocks_offset) blocks (row_section f ++ entry_section f) blocks_zero
      (zero_or_append P (a + rows_offset) (row_section f) (entry_section f) rows_zero entries_zero (omega (arith, length_rows f laid)))
      (omega (arith, length_blocks f laid lists fit)))
      (omega (arith, length_registers f laid)))
      (omega (arith, length_head f laid))
