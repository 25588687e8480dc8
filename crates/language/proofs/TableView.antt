-- What the accessors of a table's cells have to do with the program that it decodes to.
-- Assumes nothing.
use mathlib.Core.Bool.{Bool, true, cond, ◌&&◌, and-eq-true_iff}
use mathlib.Core.Path.{◌≡◌, refl, sym, ap, ◌∙◌}
use mathlib.Core.List.{List, [], ◌∷◌, map, map-map}
use Prim.Native.Nat.{ℕ, ◌+◌, ◌*◌, ◌<◌}
use native.Mathlib.Nat.{zero-add}
use native.Mathlib.Omega.{arith}
use lib.Dec.{eqb}
use lib.ListN.{length, get_or, take, drop, length-drop}
use lib.Seq.{get_or-take, get_or-drop, length-take-le}
use borrow.Author.Tests.{eqb-true}
use Rattle.laws.specs.Lists.{below, same, sum}
use Rattle.laws.proofs.Gather.{length_gather}
use Rattle.laws.proofs.Ranges.{length_map_from, get_or_map_from, gather_from, all_from_at, map_from_take, map_from_same}
use Rattle.laws.proofs.Sums.{gather_map, sum_same}
use Rattle.laws.proofs.Positions.{same_eq}
use Rattle.laws.proofs.Tests.{of_true}
use Rattle.language.specs.Instructions.{Form, form_of, form_number, has_target, source_count, phi_op}
use Rattle.language.proofs.FormLaws.{by_form, phi_form}
use Rattle.language.specs.Programs.{Row, Block, type_at, block_at, rows_at, rows_of, first_row, op_of, targets_of, sources_of, entries_of, is_phi, entry_count, no_register, no_block, no_function, max_blocks}
use Rattle.language.specs.Table.{function_count, function_at, function_entry, register_count, register_type, block_count, block_first, block_rows, rows_before}
use Rattle.language.specs.Table.{row_count, phi_first, phi_count, phi_entry, row_entries, entries_before, row_op, row_target, row_left, row_right, decode_register, decode_as, decode_row, decode_block, decode_function, decode}
use Rattle.language.specs.Table.{blocks_placed, phis_placed, predecessors_kept, predecessor_count, predecessor_at, stored_predecessors, decode_at, predecessors_offset, block_length, InTable}
use Rattle.language.specs.Checking.{goes_to, predecessors}

module _ (t : List ℕ) where
  pub function_count_law : length (decode t) ≡ function_count t
  unfolding decode
  function_count_law = length_map_from (λ i. decode_function t (function_at i)) 0 (function_count t)

  pub function_is : (i : ℕ) → i < function_count t → get_or (decode t) i no_function ≡ decode_function t (function_at i)
  unfolding decode
  function_is i b = get_or_map_from (λ i. decode_function t (function_at i)) no_function 0 (function_count t) i b ∙ ap (λ k. decode_function t (function_at k)) (zero-add i)

-- a row has the number of its instruction
pub op_decoded : (t : List ℕ) (a r : ℕ) → op_of (decode_row t a r) ≡ row_op t a r
unfolding decode_row decode_as
op_decoded t a r =
    let n = row_op t a r in
    let P : Form → Type 0 = λ g. op_of (decode_as g t a r) ≡ n in
    by_form P n sym (λ a b. refl) (λ a b. refl) (λ a b. refl) sym sym sym sym sym (λ e. refl)

-- ---- a row by its form

module _ (t : List ℕ) (a r : ℕ) where
  pub targets_as : (g : Form) → targets_of (decode_as g t a r) ≡ cond (has_target g) (row_target t a r ∷ []) []
  unfolding decode_as
  targets_as Form.nop = refl
  targets_as Form.load = refl
  targets_as Form.unary = refl
  targets_as Form.binary = refl
  targets_as Form.phi = refl
  targets_as Form.jump = refl
  targets_as Form.branch = refl
  targets_as Form.return = refl
  targets_as Form.leave = refl
  targets_as Form.unknown = refl

  pub sources_as : (g : Form) → sources_of (decode_as g t a r) ≡ take (source_count g) (row_left t a r ∷ row_right t a r ∷ [])
  unfolding decode_as
  sources_as Form.nop = refl
  sources_as Form.load = refl
  sources_as Form.unary = refl
  sources_as Form.binary = refl
  sources_as Form.phi = refl
  sources_as Form.jump = refl
  sources_as Form.branch = refl
  sources_as Form.return = refl
  sources_as Form.leave = refl
  sources_as Form.unknown = refl

  is_phi_as : (g : Form) → is_phi (decode_as g t a r) ≡ eqb (form_number g) 4
  unfolding decode_as
  is_phi_as Form.nop = refl
  is_phi_as Form.load = refl
  is_phi_as Form.unary = refl
  is_phi_as Form.binary = refl
  is_phi_as Form.phi = refl
  is_phi_as Form.jump = refl
  is_phi_as Form.branch = refl
  is_phi_as Form.return = refl
  is_phi_as Form.leave = refl
  is_phi_as Form.unknown = refl

  -- a phi is instruction 31 alone
  pub phi_row : is_phi (decode_row t a r) ≡ eqb (row_op t a r) phi_op
  unfolding decode_row
  phi_row = is_phi_as (form_of (row_op t a r)) ∙ phi_form (row_op t a r)

  pub op_of_phi : is_phi (decode_row t a r) ≡ true → row_op t a r ≡ phi_op
  op_of_phi e = eqb-true (row_op t a r) phi_op (sym phi_row ∙ e)

module _ (t : List ℕ) (a : ℕ) where
  pub register_count_law : length (decode_function t a).registers ≡ register_count t a
  unfolding decode_function
  register_count_law = length_map_from (decode_register t a) 0 (register_count t a)

  pub register_is : (r : ℕ) → r < register_count t a → get_or (decode_function t a).registers r no_register ≡ decode_register t a r
  unfolding decode_function
  register_is r b = get_or_map_from (decode_register t a) no_register 0 (register_count t a) r b ∙ ap (decode_register t a) (zero-add r)

  pub type_is : (r : ℕ) → r < register_count t a → type_at (decode_function t a) r ≡ register_type t a r
  unfolding decode_register
  type_is r b = ap (λ x. x.type) (register_is r b)

  pub block_count_law : length (decode_function t a).blocks ≡ block_count t a
  unfolding decode_function
  block_count_law = length_map_from (decode_block t a) 0 (block_count t a)

  pub block_is : (b : ℕ) → b < block_count t a → block_at (decode_function t a) b ≡ decode_block t a b
  unfolding decode_function
  block_is b c = get_or_map_from (decode_block t a) no_block 0 (block_count t a) b c ∙ ap (decode_block t a) (zero-add b)

  pub entry_is : (decode_function t a).entry ≡ function_entry t a
  unfolding decode_function
  entry_is = refl

  pub block_rows_count : (b : ℕ) → b < block_count t a → length (rows_at (decode_function t a) b) ≡ block_rows t a b
  unfolding decode_block
  block_rows_count b c = ap (λ x. length x.rows) (block_is b c) ∙ length_map_from (decode_row t a) (block_first t a b) (block_rows t a b)

  -- row j of block b
  pub block_row_is : (b : ℕ) → b < block_count t a → (j : ℕ) → j < block_rows t a b → get_or (rows_at (decode_function t a) b) j Row.nop ≡ decode_row t a (block_first t a b + j)
  unfolding decode_block
  block_row_is b c j d = ap (λ x. get_or x.rows j Row.nop) (block_is b c) ∙ get_or_map_from (decode_row t a) Row.nop (block_first t a b) (block_rows t a b) j d

  -- ---- counts

  -- the rows of all blocks together, wherever they are said to stand
  pub rows_count : length (rows_of (decode_function t a)) ≡ row_count t a
  unfolding rows_of decode_function decode_block
  rows_count =
      length_gather (λ x. x.rows) (map (decode_block t a) (below (block_count t a)))
      ∙ ap sum
      (map-map (λ x. length x.rows) (decode_block t a) (below (block_count t a))
      ∙ map_from_same (λ b. length (decode_block t a b).rows) (block_rows t a) 0 (block_count t a)
      (λ b c. length_map_from (decode_row t a) (block_first t a (0 + b)) (block_rows t a (0 + b))))

  -- the entries of a row
  as_entries : (g : Form) (r : ℕ) → length (entries_of (decode_as g t a r)) ≡ cond (eqb (form_number g) 4) (phi_count t a r) 0
  unfolding decode_as
  as_entries Form.nop r = refl
  as_entries Form.load r = refl
  as_entries Form.unary r = refl
  as_entries Form.binary r = refl
  as_entries Form.phi r = length_map_from (phi_entry t a) (phi_first t a r) (phi_count t a r)
  as_entries Form.jump r = refl
  as_entries Form.branch r = refl
  as_entries Form.return r = refl
  as_entries Form.leave r = refl
  as_entries Form.unknown r = refl

  pub row_entries_law : (r : ℕ) → length (entries_of (decode_row t a r)) ≡ row_entries t a r
  unfolding decode_row
  row_entries_law r = as_entries (form_of (row_op t a r)) r ∙ ap (λ b. cond b (phi_count t a r) 0) (phi_form (row_op t a r))

  -- ---- where the blocks' rows are in sequence

  module _ (placed : blocks_placed t a ≡ true) where
    pub sequence_first : (b : ℕ) → b < block_count t a → block_first t a b ≡ rows_before t a b
    unfolding blocks_placed
    sequence_first b c =
        rw (zero-add b) at
        (eqb-true (block_first t a (0 + b)) (rows_before t a (0 + b)) (all_from_at (λ b. eqb (block_first t a b) (rows_before t a b)) 0 (block_count t a) placed b c))

    -- the rows of the blocks, one block after the other, are rows 0, 1 and so on
    pub sequence_rows : rows_of (decode_function t a) ≡ map (decode_row t a) (below (row_count t a))
    unfolding rows_of decode_function decode_block
    sequence_rows =
        gather_map (λ x. x.rows) (decode_block t a) (below (block_count t a))
        ∙ gather_from (decode_row t a) (block_first t a) (block_rows t a) 0 0 (block_count t a)
        (λ i b. rw (zero-add i, zero-add (rows_before t a i)) (sequence_first i b))

    pub sequence_entries : entry_count (decode_function t a) ≡ entries_before t a (row_count t a)
    unfolding entry_count
    sequence_entries =
        ap (λ (rows : List Row). sum (map (λ r. length (entries_of r)) rows)) sequence_rows
        ∙ ap sum (map-map (λ r. length (entries_of r)) (decode_row t a) (below (row_count t a)))
        ∙ sum_same row_entries_law (below (row_count t a))

  -- ---- stored predecessors, one by one

  pub predecessor_is : (b k : ℕ) → k < predecessor_count t a b → get_or (stored_predecessors t a b) k 0 ≡ predecessor_at t a b k
  predecessor_is b k h =
      let p = a + predecessors_offset + block_length * b in
      get_or-take (predecessor_count t a b) (drop (p + 1) t) k 0 h ∙ get_or-drop (p + 1) t k 0 ∙ ap (λ i. get_or t i 0) (omega arith)

  pub stored_count : InTable t a → (b : ℕ) → b < max_blocks → predecessor_count t a b < 256 → length (stored_predecessors t a b) ≡ predecessor_count t a b
  stored_count h b l c =
      let p = a + predecessors_offset + block_length * b in
      length-take-le (predecessor_count t a b) (drop (p + 1) t) (omega (arith, length-drop (p + 1) t))

  -- predecessors go by the blocks alone
  pub predecessors_decoded : (b : ℕ) → predecessors (decode_function t a) b ≡ predecessors (decode_at t a true) b
  unfolding decode_function predecessors goes_to
  predecessors_decoded b = refl

  -- ---- where all stored positions are right

  module _ (placed : (decode_function t a).placed ≡ true) where
    first : (blocks_placed t a ≡ true) × ((phis_placed t a && predecessors_kept t a) ≡ true)
    unfolding decode_function
    first = (and-eq-true_iff (blocks_placed t a) (phis_placed t a && predecessors_kept t a)).0 placed

    second : (phis_placed t a ≡ true) × (predecessors_kept t a ≡ true)
    second = (and-eq-true_iff (phis_placed t a) (predecessors_kept t a)).0 first.1

    pub block_first_is : (b : ℕ) → b < block_count t a → block_first t a b ≡ rows_before t a b
    block_first_is = sequence_first first.0

    pub phi_first_is : (r : ℕ) → r < row_count t a → row_op t a r ≡ phi_op → phi_first t a r ≡ entries_before t a r
    unfolding phis_placed
    phi_first_is r b e =
        let test : cond (eqb (row_op t a r) phi_op) (eqb (phi_first t a r) (entries_before t a r)) true ≡ true =
        rw (zero-add r) at
        (all_from_at (λ r. cond (eqb (row_op t a r) phi_op) (eqb (phi_first t a r) (entries_before t a r)) true) 0 (row_count t a) second.0 r b) in
        eqb-true (phi_first t a r) (entries_before t a r) (rw e at test)

    pub row_count_law : length (rows_of (decode_function t a)) ≡ row_count t a
    row_count_law = rows_count

    pub row_is : (r : ℕ) → r < row_count t a → get_or (rows_of (decode_function t a)) r Row.nop ≡ decode_row t a r
    row_is r b =
        ap (λ x. get_or x r Row.nop) (sequence_rows first.0) ∙ get_or_map_from (decode_row t a) Row.nop 0 (row_count t a) r b ∙ ap (decode_row t a) (zero-add r)

    pub first_row_is : (b : ℕ) → b < block_count t a → first_row (decode_function t a) b ≡ block_first t a b
    unfolding first_row
    first_row_is b c =
        let blocks : List Block = (decode_function t a).blocks in
        let counts : map (block_rows t a) (below b) ≡ map (λ x. length x.rows) (take b blocks) =
        map_from_take (block_rows t a) (λ x. length x.rows) no_block 0 blocks b (omega (arith, block_count_law))
        (λ i d. rw (zero-add i) (sym (block_rows_count i (omega arith)))) in
        ap sum (sym counts) ∙ sym (block_first_is b c)

    -- what a run takes phi entries by is what the definition takes from terminators
    pub stored_is : (b : ℕ) → b < block_count t a → stored_predecessors t a b ≡ predecessors (decode_function t a) b
    unfolding predecessors_kept
    stored_is b c =
        let test : ℕ → Bool = λ b. same (stored_predecessors t a b) (predecessors (decode_at t a true) b) in
        same_eq (stored_predecessors t a b) (predecessors (decode_at t a true) b)
        (of_true (test b) (rw (zero-add b) at (all_from_at test 0 (block_count t a) second.1 b c)))
        ∙ sym (predecessors_decoded b)

    -- count by count and one by one
    pub kept_count : InTable t a → (b : ℕ) → b < block_count t a → b < max_blocks → predecessor_count t a b < 256
        → predecessor_count t a b ≡ length (predecessors (decode_function t a) b)
    kept_count h b c l e = sym (stored_count h b l e) ∙ ap length (stored_is b c)

    pub kept_at_law : (b k : ℕ) → b < block_count t a → k < predecessor_count t a b → predecessor_at t a b k ≡ get_or (predecessors (decode_function t a) b) k 0
    kept_at_law b k c l = sym (predecessor_is b k l) ∙ ap (λ xs. get_or xs k 0) (stored_is b c)
