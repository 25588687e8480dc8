-- Cells that are not needed are ignored: each accessor that `decode` calls reads needed cells alone.
-- Assumes nothing.
use mathlib.Core.Bool.{Bool, true, false, cond, ◌&&◌}
use mathlib.Core.Path.{◌≡◌, refl, ap, ap₂, ◌∙◌}
use mathlib.Core.List.{List, map}
use Prim.Native.Nat.{ℕ, suc, ◌+◌, ◌*◌, ◌≤◌, ◌<◌, suc-le-suc}
use native.Mathlib.Nat.{zero-lt-suc, le_refl, le_of_lt}
use native.Mathlib.Omega.{arith}
use lib.Dec.{T, eqb, lit<}
use lib.ListN.{length, get_or}
use borrow.Author.Tests.{eqb-true}
use Rattle.laws.specs.Lists.{all, member, from, below, same, sum}
use Rattle.laws.proofs.Ranges.{map_from_same, all_from_same}
use Rattle.laws.proofs.Sections.{part_same}
use Rattle.language.specs.Instructions.{Form, form_of, phi_op}
use Rattle.language.specs.Programs.{Row, Func}
use Rattle.language.specs.Table.{two, list_at, function_count, function_at, function_name, function_ssa, function_result, function_params, name_offset}
use Rattle.language.specs.Table.{function_entry, register_count, block_count, register_type, register_name, block_first, block_rows, block_name}
use Rattle.language.specs.Table.{row_op, row_target, row_left, row_right, jump_first, jump_second, phi_first, phi_count, phi_entry, rows_before}
use Rattle.language.specs.Table.{row_count, row_entries, entries_before, decode_register, decode_row, decode_as, decode_block, decode_function}
use Rattle.language.specs.Table.{decode, decode_at, blocks_placed, phis_placed, predecessors_kept, stored_predecessors}
use Rattle.language.specs.Table.{block_length, block_names_offset, block_rows_offset, blocks_offset, entries_offset, operands_offset, predecessors_offset, register_length, register_names_offset, registers_offset, row_length, rows_offset}
use Rattle.language.specs.Checking.{predecessors}
use Rattle.language.specs.Answers.{check_answer, signature_answer, run_answer, run_each, run_each_answer, translate_answer, write_answer}
use Rattle.theorems.specs.TableNeeds.{used_cells, NeededRow, NeededIn, Needed, IgnoredLaw, IgnoredInAnswers}

op_used : (f : Form) → T (member 0 (used_cells f))
op_used Form.nop = tt
op_used Form.load = tt
op_used Form.unary = tt
op_used Form.binary = tt
op_used Form.phi = tt
op_used Form.jump = tt
op_used Form.branch = tt
op_used Form.return = tt
op_used Form.leave = tt
op_used Form.unknown = tt

cond_same : {A : Type 0} (b : Bool) (x y z : A) → (b ≡ true → x ≡ y) → cond b x z ≡ cond b y z
cond_same true x y z h = h refl
cond_same false x y z h = refl

module _ (t u : List ℕ) (l : length t ≡ length u) (a : ℕ) (h : (k : ℕ) → NeededIn t a k → get_or t k 0 ≡ get_or u k 0) where
  -- ---- rows

  module _ (r : ℕ) (n : NeededRow t a r) where
    op_same : row_op t a r ≡ row_op u a r
    op_same = h (a + rows_offset + row_length * r) (NeededIn.row r 0 n (op_used (form_of (row_op t a r))) (omega arith))

    module _ (f : Form) (e : form_of (row_op t a r) ≡ f) where
      cell_same : (j : ℕ) → T (member j (used_cells f)) → {m : ℕ} → m ≡ a + rows_offset + row_length * r + j → get_or t m 0 ≡ get_or u m 0
      cell_same j b {m} d = h m (NeededIn.row r j n (rw e b) d)

      two_same : (j : ℕ) → T (member j (used_cells f)) → T (member (suc j) (used_cells f)) → {m : ℕ} → m ≡ a + rows_offset + row_length * r + j → two t m ≡ two u m
      two_same j b c d = ap₂ (λ x y. x + 256 * y) (cell_same j b d) (cell_same (suc j) c (omega arith))

    as_same : (f : Form) → form_of (row_op t a r) ≡ f → decode_as f t a r ≡ decode_as f u a r
    unfolding decode_as
    as_same Form.nop e = refl
    as_same Form.load e =
        let target : row_target t a r ≡ row_target u a r = cell_same Form.load e 1 tt (omega arith) in
        let p : two t (a + operands_offset + row_length * r) ≡ two u (a + operands_offset + row_length * r) = two_same Form.load e 4 tt tt (omega arith) in
        let q : two t (a + operands_offset + row_length * r + 2) ≡ two u (a + operands_offset + row_length * r + 2) = two_same Form.load e 6 tt tt (omega arith) in
        let v : two t (a + operands_offset + row_length * r + 4) ≡ two u (a + operands_offset + row_length * r + 4) = two_same Form.load e 8 tt tt (omega arith) in
        let w : two t (a + operands_offset + row_length * r + 4 + 2) ≡ two u (a + operands_offset + row_length * r + 4 + 2) = two_same Form.load e 10 tt tt (omega arith) in
        λ i. Row.load (op_same i) (target i) (p i + 65536 * q i + 4294967296 * (v i + 65536 * w i))
    as_same Form.unary e =
        let target : row_target t a r ≡ row_target u a r = cell_same Form.unary e 1 tt (omega arith) in
        let source : row_left t a r ≡ row_left u a r = cell_same Form.unary e 2 tt (omega arith) in
        λ i. Row.unary (op_same i) (target i) (source i)
    as_same Form.binary e =
        let target : row_target t a r ≡ row_target u a r = cell_same Form.binary e 1 tt (omega arith) in
        let left : row_left t a r ≡ row_left u a r = cell_same Form.binary e 2 tt (omega arith) in
        let right : row_right t a r ≡ row_right u a r = cell_same Form.binary e 3 tt (omega arith) in
        λ i. Row.binary (op_same i) (target i) (left i) (right i)
    as_same Form.phi e =
        let target : row_target t a r ≡ row_target u a r = cell_same Form.phi e 1 tt (omega arith) in
        let first : phi_first t a r ≡ phi_first u a r = two_same Form.phi e 4 tt tt (omega arith) in
        let count : phi_count t a r ≡ phi_count u a r = two_same Form.phi e 6 tt tt (omega arith) in
        let entries : map (phi_entry t a) (from (phi_first t a r) (phi_count t a r)) ≡ map (phi_entry u a) (from (phi_first u a r) (phi_count u a r)) =
        rw (← first, ← count)
        (map_from_same (phi_entry t a) (phi_entry u a) (phi_first t a r) (phi_count t a r) (λ j b. h (a + entries_offset + (phi_first t a r + j)) (NeededIn.entry r j n e b refl))) in
        λ i. Row.phi (target i) (entries i)
    as_same Form.jump e = ap Row.jump (cell_same Form.jump e 4 tt (omega arith))
    as_same Form.branch e =
        let source : row_left t a r ≡ row_left u a r = cell_same Form.branch e 2 tt (omega arith) in
        let first : jump_first t a r ≡ jump_first u a r = cell_same Form.branch e 4 tt (omega arith) in
        let second : jump_second t a r ≡ jump_second u a r = cell_same Form.branch e 5 tt (omega arith) in
        λ i. Row.branch (source i) (first i) (second i)
    as_same Form.return e = ap Row.return (cell_same Form.return e 2 tt (omega arith))
    as_same Form.leave e = refl
    as_same Form.unknown e = ap Row.unknown op_same

    row_same : decode_row t a r ≡ decode_row u a r
    unfolding decode_row
    row_same = as_same (form_of (row_op t a r)) refl ∙ ap (λ o. decode_as (form_of o) u a r) op_same

    -- the test of positions reads a phi alone
    is_phi_law : eqb (row_op t a r) phi_op ≡ true → form_of (row_op t a r) ≡ Form.phi
    unfolding form_of
    is_phi_law e = ap form_of (eqb-true (row_op t a r) phi_op e)

    entries_same : row_entries t a r ≡ row_entries u a r
    entries_same =
        rw (← op_same)
        (cond_same (eqb (row_op t a r) phi_op) (phi_count t a r) (phi_count u a r) 0 (λ e. two_same Form.phi (is_phi_law e) 6 tt tt (omega arith)))

    position_same : (x : ℕ)
        → cond (eqb (row_op t a r) phi_op) (eqb (phi_first t a r) x) true ≡ cond (eqb (row_op u a r) phi_op) (eqb (phi_first u a r) x) true
    position_same x =
        rw (← op_same)
        (cond_same (eqb (row_op t a r) phi_op) (eqb (phi_first t a r) x) (eqb (phi_first u a r) x) true
        (λ e. ap (λ k. eqb k x) (two_same Form.phi (is_phi_law e) 4 tt tt (omega arith))))

  -- ---- names and lists, registers, blocks

  list_same : (m : ℕ) → ((j : ℕ) → j < suc (get_or t m 0) → (k : ℕ) → k ≡ m + j → get_or t k 0 ≡ get_or u k 0) → list_at t m ≡ list_at u m
  list_same m b =
      let count : get_or t m 0 ≡ get_or u m 0 = b 0 (zero-lt-suc (get_or t m 0)) m (omega arith) in
      rw (← count) (part_same 0 t u l (get_or t m 0) (m + 1) (λ j c. b (suc j) (suc-le-suc c) (m + 1 + j) (omega arith)))

  register_same : (r : ℕ) → r < register_count t a → decode_register t a r ≡ decode_register u a r
  unfolding decode_register
  register_same r b =
      let type : register_type t a r ≡ register_type u a r = h (a + registers_offset + register_length * r) (NeededIn.register_type r b refl) in
      let name : register_name t a r ≡ register_name u a r = list_same (a + register_names_offset + register_length * r) (λ j c k e. h k (NeededIn.register_name r j b c e)) in
      λ i. record { type = type i; name = name i }

  module _ (b : ℕ) (c : b < block_count t a) where
    first_same : block_first t a b ≡ block_first u a b
    first_same =
        ap₂ (λ x y. x + 256 * y) (h (a + blocks_offset + block_length * b) (NeededIn.block_place b 0 c (lit< tt) (omega arith)))
        (h (a + blocks_offset + block_length * b + 1) (NeededIn.block_place b 1 c (lit< tt) refl))

    rows_same : block_rows t a b ≡ block_rows u a b
    rows_same =
        ap₂ (λ x y. x + 256 * y) (h (a + block_rows_offset + block_length * b) (NeededIn.block_place b 2 c (lit< tt) (omega arith)))
        (h (a + block_rows_offset + block_length * b + 1) (NeededIn.block_place b 3 c (lit< tt) (omega arith)))

    stored_same : stored_predecessors t a b ≡ stored_predecessors u a b
    stored_same = list_same (a + predecessors_offset + block_length * b) (λ j d k e. h k (NeededIn.predecessor b j c d e))

    block_same : decode_block t a b ≡ decode_block u a b
    unfolding decode_block
    block_same =
        let name : block_name t a b ≡ block_name u a b = list_same (a + block_names_offset + block_length * b) (λ j d k e. h k (NeededIn.block_name b j c d e)) in
        let rows : map (decode_row t a) (from (block_first t a b) (block_rows t a b)) ≡ map (decode_row u a) (from (block_first u a b) (block_rows u a b)) =
        rw (← first_same, ← rows_same)
        (map_from_same (decode_row t a) (decode_row u a) (block_first t a b) (block_rows t a b)
        (λ j d. row_same (block_first t a b + j) (NeededRow.stored b j c d refl))) in
        λ i. record { name = name i; rows = rows i }

  -- ---- positions and the function

  block_count_same : block_count t a ≡ block_count u a
  block_count_same = h (a + 6) (NeededIn.head 6 (lit< tt) refl)

  rows_before_same : (b : ℕ) → b ≤ block_count t a → rows_before t a b ≡ rows_before u a b
  rows_before_same b c = ap sum (map_from_same (block_rows t a) (block_rows u a) 0 b (λ i d. rows_same (0 + i) (omega arith)))

  row_count_same : row_count t a ≡ row_count u a
  row_count_same = rw (← block_count_same) (rows_before_same (block_count t a) (le_refl (block_count t a)))

  entries_before_same : (r : ℕ) → r ≤ row_count t a → entries_before t a r ≡ entries_before u a r
  entries_before_same r c =
      ap sum (map_from_same (row_entries t a) (row_entries u a) 0 r (λ i d. entries_same (0 + i) (NeededRow.counted (omega arith))))

  blocks_placed_same : blocks_placed t a ≡ blocks_placed u a
  unfolding blocks_placed
  blocks_placed_same =
      rw (← block_count_same)
      (all_from_same (λ b. eqb (block_first t a b) (rows_before t a b)) (λ b. eqb (block_first u a b) (rows_before u a b)) 0 (block_count t a)
      (λ i c. let d : 0 + i < block_count t a = omega arith in ap₂ eqb (first_same (0 + i) d) (rows_before_same (0 + i) (le_of_lt d))))

  phis_placed_same : phis_placed t a ≡ phis_placed u a
  unfolding phis_placed
  phis_placed_same =
      rw (← row_count_same)
      (all_from_same (λ r. cond (eqb (row_op t a r) phi_op) (eqb (phi_first t a r) (entries_before t a r)) true)
      (λ r. cond (eqb (row_op u a r) phi_op) (eqb (phi_first u a r) (entries_before u a r)) true) 0 (row_count t a)
      (λ i c. let d : 0 + i < row_count t a = omega arith in
      rw (← entries_before_same (0 + i) (le_of_lt d)) (position_same (0 + i) (NeededRow.counted d) (entries_before t a (0 + i)))))

  head_two_same : (j : ℕ) → suc j < name_offset → two t (a + j) ≡ two u (a + j)
  head_two_same j b =
      ap₂ (λ x y. x + 256 * y) (h (a + j) (NeededIn.head j (omega arith) refl)) (h (a + j + 1) (NeededIn.head (suc j) b (omega arith)))

  at_same : (p q : Bool) → p ≡ q → decode_at t a p ≡ decode_at u a q
  at_same p q placed =
      let name : function_name t a ≡ function_name u a = list_same (a + name_offset) (λ j c k e. h k (NeededIn.name j c e)) in
      let ssa : function_ssa t a ≡ function_ssa u a = h a (NeededIn.head 0 (lit< tt) (omega arith)) in
      let result : function_result t a ≡ function_result u a = h (a + 1) (NeededIn.head 1 (lit< tt) refl) in
      let params : function_params t a ≡ function_params u a = head_two_same 2 (lit< tt) in
      let count : register_count t a ≡ register_count u a = head_two_same 4 (lit< tt) in
      let registers : map (decode_register t a) (below (register_count t a)) ≡ map (decode_register u a) (below (register_count u a)) =
      rw (← count) (map_from_same (decode_register t a) (decode_register u a) 0 (register_count t a) (λ i b. register_same (0 + i) (omega arith))) in
      let blocks : map (decode_block t a) (below (block_count t a)) ≡ map (decode_block u a) (below (block_count u a)) =
      rw (← block_count_same) (map_from_same (decode_block t a) (decode_block u a) 0 (block_count t a) (λ i b. block_same (0 + i) (omega arith))) in
      let entry : function_entry t a ≡ function_entry u a = h (a + 7) (NeededIn.head 7 (lit< tt) refl) in
      λ i. record {
        name = name i;
        ssa = ssa i;
        result = result i;
        params = params i;
        registers = registers i;
        blocks = blocks i;
        entry = entry i;
        placed = placed i;
      }

  predecessors_kept_same : predecessors_kept t a ≡ predecessors_kept u a
  unfolding predecessors_kept
  predecessors_kept_same =
      let kept : (List ℕ → ℕ → Bool) = λ v b. same (stored_predecessors v a b) (predecessors (decode_at v a true) b) in
      all_from_same (kept t) (kept u) 0 (block_count t a)
      (λ i c. ap₂ same (stored_same (0 + i) (omega arith)) (ap (λ (f : Func). predecessors f (0 + i)) (at_same true true refl)))
      ∙ ap (λ n. all (kept u) (below n)) block_count_same

  function_same : decode_function t a ≡ decode_function u a
  unfolding decode_function
  function_same =
      at_same (blocks_placed t a && (phis_placed t a && predecessors_kept t a)) (blocks_placed u a && (phis_placed u a && predecessors_kept u a))
      (λ i. blocks_placed_same i && (phis_placed_same i && predecessors_kept_same i))

pub unneeded_ignored : IgnoredLaw
unfolding decode
unneeded_ignored t u h =
    let count : function_count t ≡ function_count u = h.needed 0 (Needed.count refl) in
    rw (← count)
    (map_from_same (λ i. decode_function t (function_at i)) (λ i. decode_function u (function_at i)) 0 (function_count t)
    (λ i b. function_same t u h.count (function_at (0 + i)) (λ k n. h.needed k (Needed.function (0 + i) (omega arith) n))))

-- An answer knows a table by its length and its program.
pub answers_ignore_unneeded : IgnoredInAnswers
unfolding check_answer signature_answer run_answer run_each run_each_answer translate_answer write_answer
answers_ignore_unneeded t u h =
    let p : decode t ≡ decode u = unneeded_ignored t u h in
    let count : function_count t ≡ function_count u = h.needed 0 (Needed.count refl) in
    record {
      check = rw (h.count, p) refl;
      signature = λ i result types. rw (h.count, count, p) refl;
      run = λ i args budget n. rw (h.count, p) refl;
      run_each = λ i args budget n m. simp (h.count, p);
      translate = λ i n. rw (h.count, p) refl;
      write = λ n. rw (h.count, p) refl;
    }
