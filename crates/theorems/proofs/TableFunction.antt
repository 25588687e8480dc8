-- One function of a table, read back: its sections stand one behind the other, each as long as its offsets say. All but the whole function
-- holds whatever lists of predecessors its blocks' records hold.
-- Assumes nothing.
use mathlib.Core.Bool.{Bool, true, cond, ◌&&◌}
use mathlib.Core.Path.{◌≡◌, refl, sym, ap, ◌∙◌}
use mathlib.Core.List.{List, [], ◌∷◌, ◌++◌, map}
use Prim.Native.Nat.{ℕ, suc, ◌+◌, ◌*◌, ◌≤◌, ◌<◌}
use native.Mathlib.Nat.{zero-add, le_refl, le_of_lt, mod-eq_of_lt}
use native.Mathlib.Omega.{arith}
use lib.Dec.{eqb, lit<}
use lib.ListN.{length, get_or, take, length-append}
use lib.Seq.{take-length}
use borrow.Author.Tests.{eq-eqb}
use Rattle.laws.specs.Lists.{gather, same, sum, below}
use Rattle.laws.specs.Sections.{At, gather_from}
use Rattle.laws.proofs.Indexing.{length_below, length_together_le, get_or_together}
use Rattle.laws.proofs.Positions.{same_is}
use Rattle.laws.proofs.Ranges.{map_from, map_from_take, length_map_from, get_or_map_from, all_below}
use Rattle.laws.proofs.Gather.{sum_take_le, length_gather}
use Rattle.laws.proofs.Sums.{length_keeps}
use Rattle.laws.proofs.Sections.{at_move, at_left, at_right, at_cell, at_pad, at_gather, at_stride, gather_is_from}
use Rattle.laws.proofs.Sections.{length_gather_from, length_pad}
use Rattle.language.specs.Programs.{Row, Block, Func, entries_of, named_by, op_of, rows_at, rows_of, first_row, entry_count, block_at, no_register, no_block, max_entries}
use Rattle.language.specs.Checking.{goes_to, predecessors}
use Rattle.language.specs.Table.{two_bytes, name_cells, register_cells, predecessor_cells, BlockRecord, block_cells, row_cells, head_cells, register_section, block_section}
use Rattle.language.specs.Table.{block_records, row_section, entry_section, cells_listing, predecessor_lists, function_cells, decode_register, decode_row, decode_block}
use Rattle.language.specs.Table.{blocks_placed, phis_placed, predecessors_kept, decode_at, decode_function, function_name, function_ssa, function_result, function_params}
use Rattle.language.specs.Table.{function_entry, register_count, block_count, block_first, block_rows, rows_before, predecessor_count, stored_predecessors}
use Rattle.language.specs.Table.{row_count, row_op, phi_first, row_entries, entries_before}
use Rattle.language.specs.Table.{block_length, blocks_length, blocks_offset, entries_offset, function_length, predecessors_offset, register_length, registers_length, registers_offset, row_length, rows_length, rows_offset}
use Rattle.language.specs.Instructions.{phi_op}
use Rattle.language.proofs.TableLaws.{length_name, length_register, length_block, name_back, predecessor_count_back, predecessors_back}
use Rattle.theorems.specs.TableLaw.{FunctionFits, Laid, ListsFit, no_block_record}
use Rattle.theorems.proofs.TableParts.{two_back, register_back, length_row, op_back, row_back, named_back, row_entries_back, phi_placed_back}
use Rattle.theorems.proofs.TableParts.{block_first_back, block_rows_back, block_list_at, block_back}
-- the rows of a block are rows of its function, and row j of block b is the one numbered `first_row f b + j`
pub use Rattle.theorems.proofs.Spots.{first_within as rows_within, row_at as row_of_block}

-- ---- places, by the counts, from 0 on

abbrev pub entries : Row → ℕ
entries row = length (entries_of row)

-- the entries before row r
abbrev pub entry_start : Func → ℕ → ℕ
entry_start f r = 0 + sum (map entries (take r (rows_of f)))

abbrev pub height : BlockRecord → ℕ
height b = length b.block.rows

-- ---- blocks with their lists

abbrev pub listed_in : List (List ℕ) → Func → ℕ → BlockRecord
listed_in lists f b = record { block = block_at f b; list = get_or lists b [] }

pub length_listed : (lists : List (List ℕ)) (blocks : List Block) → length lists ≡ length blocks → length (block_records lists blocks) ≡ length blocks
length_listed lists blocks e = length_together_le (λ b list. record { block = b; list = list }) blocks lists (omega arith) ∙ e

pub listed_at : (lists : List (List ℕ)) (blocks : List Block) (b : ℕ) → length lists ≡ length blocks → b < length blocks
    → get_or (block_records lists blocks) b no_block_record ≡ record { block = get_or blocks b no_block; list = get_or lists b [] }
listed_at lists blocks b e c =
    get_or_together (λ b list. record { block = b; list = list }) no_block [] no_block_record blocks lists b (omega arith) (omega arith)

-- lists do not move rows
pub listed_first : (lists : List (List ℕ)) (f : Func) (b : ℕ) → length lists ≡ length f.blocks → b ≤ length f.blocks
    → sum (map height (take b (block_records lists f.blocks))) ≡ first_row f b
unfolding first_row
listed_first lists f b e c =
    ap sum
    (sym (map_from_take (λ i. length (rows_at f i)) height no_block_record 0 (block_records lists f.blocks) b (omega (arith, length_listed lists f.blocks e))
    (λ i d. rw (zero-add i, listed_at lists f.blocks i e (omega arith))))
    ∙ map_from_take (λ i. length (rows_at f i)) (λ x. length x.rows) no_block 0 f.blocks b c (λ i d. rw (zero-add i)))

-- ---- the predecessors of all blocks as lists

pub predecessor_list : (f : Func) (b : ℕ) → b < length f.blocks → get_or (predecessor_lists f) b [] ≡ predecessors f b
unfolding predecessor_lists
predecessor_list f b c = get_or_map_from (predecessors f) [] 0 (length f.blocks) b c ∙ ap (predecessors f) (zero-add b)

pub laid_of : (f : Func) → FunctionFits f → Laid f
laid_of f fits =
    record {
      name = fits.name.short;
      register_count = fits.register_count;
      block_count = fits.block_count;
      row_count = fits.row_count;
      entry_count = fits.entry_count;
      register_names = λ r b. (fits.registers r b).name.short;
      block_names = λ b c. (fits.block_names b c).short;
      forms = λ r b. (fits.rows r b).form;
    }

-- a block has at most as many predecessors as there are blocks
pub lists_fit : (f : Func) → Laid f → ListsFit (predecessor_lists f) f
unfolding predecessor_lists predecessors
lists_fit f laid =
    record {
      count = length_map_from (predecessors f) 0 (length f.blocks);
      short = λ b c. rw (predecessor_list f b c)
          (omega (arith, length_keeps (λ x. goes_to f x b) (below (length f.blocks)), length_below (length f.blocks), laid.block_count));
    }

-- ---- lengths

module _ (f : Func) (laid : Laid f) where
  pub length_head : length (head_cells f) ≡ registers_offset
  unfolding head_cells
  length_head = ap (λ k. suc (suc (suc (suc (suc (suc (suc (suc k)))))))) (length_name f.name laid.name)

  pub registers_stride : (m i : ℕ) → i < length f.registers → length (register_cells (get_or f.registers i no_register)) ≡ register_length
  registers_stride m i b = length_register (get_or f.registers i no_register) (laid.register_names i b)

  pub length_registers : length (register_section f) ≡ registers_length
  unfolding register_section
  length_registers =
      length_pad registers_length (gather register_cells f.registers)
      (rw (gather_is_from register_cells 0 f.registers, length_gather_from (λ x. 0) (λ m. register_cells) register_length no_register 0 f.registers registers_stride)
      (omega (arith, laid.register_count)))

  pub length_rows : length (row_section f) ≡ rows_length
  unfolding row_section
  length_rows =
      length_pad rows_length (gather_from entries row_cells 0 (rows_of f))
      (rw (length_gather_from entries row_cells row_length Row.nop 0 (rows_of f) (λ m i b. length_row m (get_or (rows_of f) i Row.nop)))
      (omega (arith, laid.row_count)))

  pub length_entries : length (entry_section f) ≡ max_entries
  unfolding entry_section entry_count
  length_entries =
      length_pad max_entries (gather entries_of (rows_of f)) (rw (length_gather entries_of (rows_of f)) (omega (arith, laid.entry_count)))

module _ (f : Func) (laid : Laid f) (lists : List (List ℕ)) (fit : ListsFit lists f) where
  abbrev blocks : List BlockRecord
  blocks = block_records lists f.blocks

  block_count_law : length blocks ≡ length f.blocks
  block_count_law = length_listed lists f.blocks fit.count

  pub blocks_stride : (m i : ℕ) → i < length (block_records lists f.blocks) → length (block_cells m (get_or (block_records lists f.blocks) i no_block_record)) ≡ block_length
  blocks_stride m i b =
      let c : i < length f.blocks = omega (arith, block_count_law) in
      rw (listed_at lists f.blocks i fit.count c) (length_block m (listed_in lists f i) (laid.block_names i c) (fit.short i c))

  pub length_blocks : length (block_section lists f) ≡ blocks_length
  unfolding block_section
  length_blocks =
      length_pad blocks_length (gather_from height block_cells 0 blocks)
      (rw (length_gather_from height block_cells block_length no_block_record 0 blocks blocks_stride) (omega (arith, block_count_law, laid.block_count)))

  pub length_listing : length (cells_listing lists f) ≡ function_length
  unfolding cells_listing
  length_listing =
      simp length-append (omega (arith, length_head f laid, length_registers f laid, length_blocks, length_rows f laid, length_entries f laid))

  -- ---- the sections of the function that begins at cell a

  module _ {t : List ℕ} (a : ℕ) (h : At t a (cells_listing lists f)) where
    abbrev behind_blocks : List ℕ
    behind_blocks = row_section f ++ entry_section f

    abbrev behind_registers : List ℕ
    behind_registers = block_section lists f ++ behind_blocks

    abbrev behind_head : List ℕ
    behind_head = register_section f ++ behind_registers

    head_at : At t a (head_cells f)
    unfolding cells_listing
    head_at = at_left (head_cells f) behind_head h

    from_registers : At t (a + registers_offset) behind_head
    unfolding cells_listing
    from_registers = at_move (omega (arith, length_head f laid)) (at_right (head_cells f) behind_head h)

    from_blocks : At t (a + blocks_offset) behind_registers
    from_blocks = at_move (omega (arith, length_registers f laid)) (at_right (register_section f) behind_registers from_registers)

    from_rows : At t (a + rows_offset) behind_blocks
    from_rows = at_move (omega (arith, length_blocks)) (at_right (block_section lists f) behind_blocks from_blocks)

    from_entries : At t (a + entries_offset) (entry_section f)
    from_entries = at_move (omega (arith, length_rows f laid)) (at_right (row_section f) (entry_section f) from_rows)

    -- ---- the head

    abbrev behind_params : List ℕ
    behind_params = two_bytes (length f.registers) ++ (length f.blocks ∷ f.entry ∷ name_cells f.name)

    from_params : At t (a + 2) (two_bytes f.params ++ behind_params)
    unfolding head_cells
    from_params = at_right (f.ssa ∷ f.result ∷ []) (two_bytes f.params ++ behind_params) head_at

    from_counts : At t (a + 2 + 2) behind_params
    from_counts = at_right (two_bytes f.params) behind_params from_params

    pub from_name : At t (a + 2 + 2 + 2 + 2) (name_cells f.name)
    from_name =
        at_right (length f.blocks ∷ f.entry ∷ []) (name_cells f.name)
        (at_right (two_bytes (length f.registers)) (length f.blocks ∷ f.entry ∷ name_cells f.name) from_counts)

    pub register_count_at : register_count t a ≡ length f.registers
    register_count_at =
        two_back (length f.registers) (at_left (two_bytes (length f.registers)) (length f.blocks ∷ f.entry ∷ name_cells f.name) from_counts) (omega arith)
        ∙ mod-eq_of_lt (omega (arith, laid.register_count))

    pub block_count_at : block_count t a ≡ length f.blocks
    unfolding head_cells
    block_count_at = at_cell 0 head_at 6 (rw (length_head f laid) (lit< tt)) refl

    -- ---- registers

    pub register_at : (i : ℕ) → i < length f.registers → At t (a + registers_offset + register_length * i) (register_cells (get_or f.registers i no_register))
    unfolding register_section
    register_at i b =
        at_stride (λ x. 0) (λ m. register_cells) register_length no_register 0 f.registers (registers_stride f laid) i b
        (rw (gather_is_from register_cells 0 f.registers) at (at_pad registers_length (gather register_cells f.registers) (at_left (register_section f) behind_registers from_registers)))

    -- ---- blocks

    pub block_at_law : (b : ℕ) → b < length f.blocks → At t (a + blocks_offset + block_length * b) (block_cells (first_row f b) (listed_in lists f b))
    unfolding block_section
    block_at_law b c =
        let first : 0 + sum (map height (take b blocks)) ≡ first_row f b = omega (arith, listed_first lists f b fit.count (le_of_lt c)) in
        rw (first, listed_at lists f.blocks b fit.count c) at
        (at_stride height block_cells block_length no_block_record 0 blocks blocks_stride b (omega (arith, block_count_law))
        (at_pad blocks_length (gather_from height block_cells 0 blocks) (at_left (block_section lists f) behind_blocks from_blocks)))

    pub block_first_at : (b : ℕ) → b < length f.blocks → block_first t a b ≡ first_row f b
    block_first_at b c = block_first_back a (first_row f b) (listed_in lists f b) b (block_at_law b c) refl (omega (arith, rows_within f b c, laid.row_count))

    pub block_rows_at : (b : ℕ) → b < length f.blocks → block_rows t a b ≡ length (rows_at f b)
    block_rows_at b c = block_rows_back a (first_row f b) (listed_in lists f b) b (block_at_law b c) refl (omega (arith, rows_within f b c, laid.row_count))

    pub list_at : (b : ℕ) → b < length f.blocks → At t (a + predecessors_offset + block_length * b) (predecessor_cells (get_or lists b []))
    list_at b c = block_list_at a (first_row f b) (listed_in lists f b) b (block_at_law b c) refl (laid.block_names b c)

    pub predecessor_count_at : (b : ℕ) → b < length f.blocks → predecessor_count t a b ≡ length (get_or lists b [])
    predecessor_count_at b c = predecessor_count_back (get_or lists b []) (list_at b c) refl

    pub stored_at : (b : ℕ) → b < length f.blocks → stored_predecessors t a b ≡ get_or lists b []
    stored_at b c = predecessors_back (get_or lists b []) (list_at b c) refl

    -- ---- rows

    pub row_at : (r : ℕ) → r < length (rows_of f) → At t (a + rows_offset + row_length * r) (row_cells (entry_start f r) (get_or (rows_of f) r Row.nop))
    unfolding row_section
    row_at r b =
        at_stride entries row_cells row_length Row.nop 0 (rows_of f) (λ m i c. length_row m (get_or (rows_of f) i Row.nop)) r b
        (at_pad rows_length (gather_from entries row_cells 0 (rows_of f)) (at_left (row_section f) (entry_section f) from_rows))

    pub row_op_at : (r : ℕ) → r < length (rows_of f) → row_op t a r ≡ op_of (get_or (rows_of f) r Row.nop)
    row_op_at r b = op_back a (entry_start f r) (get_or (rows_of f) r Row.nop) r (row_at r b) refl

    pub named_at : (r : ℕ) → r < length (rows_of f) → named_by (decode_row t a r) ≡ named_by (get_or (rows_of f) r Row.nop)
    named_at r b = named_back a (entry_start f r) (get_or (rows_of f) r Row.nop) r (laid.forms r b) (row_at r b) refl

    pub entries_at : (r : ℕ) → r < length (rows_of f) → At t (a + entries_offset + sum (map entries (take r (rows_of f)))) (entries_of (get_or (rows_of f) r Row.nop))
    unfolding entry_section
    entries_at r b = at_gather entries_of Row.nop (rows_of f) r b (at_pad max_entries (gather entries_of (rows_of f)) from_entries)

    pub entries_fit : (r : ℕ) → r < length (rows_of f) → sum (map entries (take r (rows_of f))) + length (entries_of (get_or (rows_of f) r Row.nop)) ≤ max_entries
    unfolding entry_count
    entries_fit r b = omega (arith, sum_take_le entries (rows_of f) r Row.nop b, laid.entry_count)

    -- ---- the stored positions

    rows_before_at : (b : ℕ) → b ≤ length f.blocks → rows_before t a b ≡ first_row f b
    unfolding first_row
    rows_before_at b c =
        ap sum (map_from_take (block_rows t a) (λ x. length x.rows) no_block 0 f.blocks b c (λ i d. rw (zero-add i) (block_rows_at i (omega arith))))

    entries_before_at : (r : ℕ) → r ≤ length (rows_of f) → entries_before t a r ≡ sum (map entries (take r (rows_of f)))
    entries_before_at r c =
        ap sum (map_from_take (row_entries t a) entries Row.nop 0 (rows_of f) r c
        (λ i d. let e : i < length (rows_of f) = omega arith in
        row_entries_back a (entry_start f i) (get_or (rows_of f) i Row.nop) (0 + i) (laid.forms i e) (row_at i e) (omega arith) (omega (arith, entries_fit i e))))

    all_rows : first_row f (length f.blocks) ≡ length (rows_of f)
    unfolding first_row rows_of
    all_rows = ap (λ (bs : List Block). sum (map (λ x. length x.rows) bs)) (take-length f.blocks) ∙ sym (length_gather (λ b. b.rows) f.blocks)

    pub row_count_at : row_count t a ≡ length (rows_of f)
    row_count_at = rw block_count_at (rows_before_at (length f.blocks) (le_refl (length f.blocks)) ∙ all_rows)

    blocks_placed_at : blocks_placed t a ≡ true
    unfolding blocks_placed
    blocks_placed_at =
        rw block_count_at
        (all_below (λ b. eqb (block_first t a b) (rows_before t a b)) (length f.blocks)
        (λ i c. eq-eqb (block_first t a i) (rows_before t a i) (block_first_at i c ∙ sym (rows_before_at i (le_of_lt c)))))

    phis_placed_at : phis_placed t a ≡ true
    unfolding phis_placed
    phis_placed_at =
        rw row_count_at
        (all_below (λ r. cond (eqb (row_op t a r) phi_op) (eqb (phi_first t a r) (entries_before t a r)) true) (length (rows_of f))
        (λ i c.
        let before : entries_before t a i ≡ entry_start f i = omega (arith, entries_before_at i (le_of_lt c)) in
        rw before (phi_placed_back a (entry_start f i) (get_or (rows_of f) i Row.nop) i (laid.forms i c) (row_at i c) refl (omega (arith, entries_fit i c)))))

    -- ---- a function whose numbers fit too

    module _ (fits : FunctionFits f) where
      registers_back : map (decode_register t a) (below (register_count t a)) ≡ f.registers
      registers_back =
          rw register_count_at
          (map_from (decode_register t a) no_register 0 f.registers
          (λ i b. register_back a (get_or f.registers i no_register) (0 + i) (register_at i b) (omega arith)))

      rows_back : (r : ℕ) → r < length (rows_of f) → decode_row t a r ≡ get_or (rows_of f) r Row.nop
      rows_back r b =
          let c : entry_start f r + length (entries_of (get_or (rows_of f) r Row.nop)) ≤ max_entries = omega (arith, entries_fit r b) in
          row_back a (entry_start f r) (get_or (rows_of f) r Row.nop) r (fits.rows r b) (row_at r b) refl (entries_at r b) (omega arith) (omega arith) (omega arith)

      block_is : (b : ℕ) → b < length f.blocks → decode_block t a b ≡ block_at f b
      block_is b c =
          let d : first_row f b + length (rows_at f b) ≤ length (rows_of f) = rows_within f b c in
          block_back a (first_row f b) (listed_in lists f b) b (block_at_law b c) refl (omega (arith, laid.row_count)) (omega (arith, laid.row_count))
          (λ j e. rows_back (first_row f b + j) (omega arith) ∙ row_of_block f b j e)

      blocks_back : map (decode_block t a) (below (block_count t a)) ≡ f.blocks
      blocks_back = rw block_count_at (map_from (decode_block t a) no_block 0 f.blocks (λ i b. rw (zero-add i) (block_is i b)))

      -- the function but for what its lists tell
      pub decoded_at : (placed : Bool) → placed ≡ f.placed → decode_at t a placed ≡ f
      unfolding head_cells
      decoded_at p placed =
          let name : function_name t a ≡ f.name = name_back f.name from_name (omega arith) in
          let ssa : function_ssa t a ≡ f.ssa = at_cell 0 head_at 0 (rw (length_head f laid) (lit< tt)) (omega arith) in
          let result : function_result t a ≡ f.result = at_cell 0 head_at 1 (rw (length_head f laid) (lit< tt)) refl in
          let params : function_params t a ≡ f.params = two_back f.params (at_left (two_bytes f.params) behind_params from_params) refl ∙ mod-eq_of_lt fits.params in
          let entry : function_entry t a ≡ f.entry = at_cell 0 head_at 7 (rw (length_head f laid) (lit< tt)) refl in
          λ j. record { name = name j; ssa = ssa j; result = result j; params = params j; registers = registers_back j; blocks = blocks_back j; entry = entry j; placed = placed j }

-- ---- the function with the lists that document 01 gives it

pub length_laid : (f : Func) → Laid f → length (function_cells f) ≡ function_length
unfolding function_cells
length_laid f laid = length_listing f laid (predecessor_lists f) (lists_fit f laid)

module _ (f : Func) (fits : FunctionFits f) where
  pub length_function : length (function_cells f) ≡ function_length
  length_function = length_laid f (laid_of f fits)

  module _ {t : List ℕ} (a : ℕ) (h : At t a (function_cells f)) where
    abbrev laid : Laid f
    laid = laid_of f fits

    abbrev fit : ListsFit (predecessor_lists f) f
    fit = lists_fit f laid

    own : At t a (cells_listing (predecessor_lists f) f)
    unfolding function_cells
    own = h

    pub stored_back : (b : ℕ) → b < length f.blocks → stored_predecessors t a b ≡ predecessors f b
    stored_back b c = stored_at f laid (predecessor_lists f) fit a own b c ∙ predecessor_list f b c

    kept_back : predecessors_kept t a ≡ true
    unfolding predecessors_kept
    kept_back =
        let back : decode_at t a true ≡ f = decoded_at f laid (predecessor_lists f) fit a own fits true (sym fits.placed) in
        all_below (λ b. same (stored_predecessors t a b) (predecessors (decode_at t a true) b)) (block_count t a)
        (λ b c.
        let inside : b < length f.blocks = omega (arith, block_count_at f laid (predecessor_lists f) fit a own) in
        same_is (stored_predecessors t a b) (predecessors (decode_at t a true) b) (stored_back b inside ∙ ap (λ (g : Func). predecessors g b) (sym back)))

    pub function_back : decode_function t a ≡ f
    unfolding decode_function
    function_back =
        decoded_at f laid (predecessor_lists f) fit a own fits (blocks_placed t a && (phis_placed t a && predecessors_kept t a))
        (rw (blocks_placed_at f laid (predecessor_lists f) fit a own, phis_placed_at f laid (predecessor_lists f) fit a own, kept_back, fits.placed))
