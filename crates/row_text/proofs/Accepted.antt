-- What acceptance gives of every row: the numbers that its instruction needs are in their range. Assumes nothing.
use mathlib.Core.Bool.{Bool, cond}
use mathlib.Core.List.{List, [], ◌∷◌, map}
use mathlib.Core.Path.{◌≡◌, refl, sym, ap, ◌∙◌, subst}
use Prim.Native.Nat.{ℕ, ◌+◌, ◌^◌, ◌<◌, ◌≤◌}
use native.Mathlib.Omega.{arith}
use lib.Dec.{T, eqb, ltb, ltb→lt}
use lib.Ieee.Fits.{and_l}
use lib.ListN.{length, get_or, take, length-take}
use lib.Seq.{get_or-take}
use Rattle.laws.specs.Lists.{from}
use Rattle.laws.proofs.Every.{Every, every_all, every_at, every_left, every_right}
use Rattle.laws.proofs.Ranges.{get_or_map_from, length_map_from}
use Rattle.laws.proofs.Sums.{sum_below_le}
use Rattle.language.specs.Instructions.{Form, form_of, form_number, instruction_count, width, load_type, operand_of, phi_op, Operand}
use Rattle.language.specs.Programs.{Row, Func, op_of, form_in, targets_of, sources_of, entries_of, named_by, rows_of, max_blocks, max_registers}
use Rattle.language.specs.Checking.{shaped, number_fits, in_range}
use Rattle.language.specs.Table.{register_count, block_count, row_count, row_op, row_target, row_left, row_right, load_number, jump_first, jump_second, phi_first, phi_count, phi_entry, row_entries, decode_as, decode_row, decode_function}
use Rattle.instructions.specs.Shapes.{operand_number, shape_of}
use Rattle.theorems.specs.Clean.{Clean}
use Rattle.theorems.proofs.AcceptanceCheck.{sound_parts}
use Rattle.theorems.proofs.AcceptanceRows.{InRange, range_parts}
use Rattle.language.proofs.TableView.{op_decoded, register_count_law, block_count_law, phi_first_is, row_count_law, row_is}
use Rattle.flow.specs.Sized.{Sized}
use Rattle.naming.specs.Numbered.{RegistersNumbered, BlocksNumbered}
use Rattle.row_text.specs.Ready.{Entries, RowReady, TextReady}
use Rattle.row_text.proofs.Shapes.{targets_are, sources_are}

instruction_of : (x : Row) → T (shaped x) → op_of x < instruction_count
unfolding shaped
instruction_of x h = ltb→lt (op_of x) instruction_count (and_l (ltb (op_of x) instruction_count) (eqb (form_number (form_of (op_of x))) (form_number (form_in x))) h)

-- ---- the operand, by the kind's number

module _ (t : List ℕ) (a r : ℕ) where
  number_as : (g : Form) → operand_number (operand_of g) ≡ operand_number Operand.number → T (number_fits (decode_as g t a r)) → load_number t a r < 2 ^ width (load_type (row_op t a r))
  unfolding decode_as
  number_as Form.nop e h = absurd (omega arith)
  number_as Form.load e h = ltb→lt (load_number t a r) (2 ^ width (load_type (row_op t a r))) h
  number_as Form.unary e h = absurd (omega arith)
  number_as Form.binary e h = absurd (omega arith)
  number_as Form.phi e h = absurd (omega arith)
  number_as Form.jump e h = absurd (omega arith)
  number_as Form.branch e h = absurd (omega arith)
  number_as Form.return e h = absurd (omega arith)
  number_as Form.leave e h = absurd (omega arith)
  number_as Form.unknown e h = absurd (omega arith)

  phi_as : (g : Form) → operand_number (operand_of g) ≡ operand_number Operand.registers → decode_as g t a r ≡ Row.phi (row_target t a r) (map (phi_entry t a) (from (phi_first t a r) (phi_count t a r)))
  unfolding decode_as
  phi_as Form.nop e = absurd (omega arith)
  phi_as Form.load e = absurd (omega arith)
  phi_as Form.unary e = absurd (omega arith)
  phi_as Form.binary e = absurd (omega arith)
  phi_as Form.phi e = refl
  phi_as Form.jump e = absurd (omega arith)
  phi_as Form.branch e = absurd (omega arith)
  phi_as Form.return e = absurd (omega arith)
  phi_as Form.leave e = absurd (omega arith)
  phi_as Form.unknown e = absurd (omega arith)

  -- the blocks that a row names, as many as its kind says
  named_as : (g : Form) → (k : ℕ) → k + 2 < operand_number (operand_of g) → (k < length (named_by (decode_as g t a r))) × (get_or (named_by (decode_as g t a r)) k 0 ≡ get_or (jump_first t a r ∷ jump_second t a r ∷ []) k 0)
  unfolding decode_as
  named_as Form.nop k l = absurd (omega arith)
  named_as Form.load k l = absurd (omega arith)
  named_as Form.unary k l = absurd (omega arith)
  named_as Form.binary k l = absurd (omega arith)
  named_as Form.phi k l = absurd (omega arith)
  named_as Form.jump k l = let e : k ≡ 0 = omega arith in (omega arith, rw e)
  named_as Form.branch k l = (omega arith, refl)
  named_as Form.return k l = absurd (omega arith)
  named_as Form.leave k l = absurd (omega arith)
  named_as Form.unknown k l = absurd (omega arith)

-- ---- a row that breaks nothing

module _ (t : List ℕ) (a : ℕ) (sized : Sized t a) (clean : Clean (decode_function t a)) (r : ℕ) (l : r < row_count t a) where
  abbrev f : Func
  f = decode_function t a

  in_range_law : InRange f (decode_row t a r)
  in_range_law =
      let h : r < length (rows_of f) = omega (arith, row_count_law t a sized.placed) in
      range_parts f (decode_row t a r)
      (subst (λ (x : Row). T (in_range f x)) (row_is t a sized.placed r l) (every_at (every_all (in_range f) (rows_of f) (sound_parts [] f clean.head).ranges) Row.nop r h))

  abbrev Known : ℕ → Type 0
  Known u = u < length f.registers

  known : (xs : List ℕ) → Every Known xs → (k : ℕ) → k < length xs → get_or xs k 0 < register_count t a
  known xs h k b = omega (arith, every_at h 0 k b, register_count_law t a)

  sources_known : Every Known (sources_of (decode_row t a r))
  sources_known = every_left (sources_of (decode_row t a r)) (entries_of (decode_row t a r)) (every_right (targets_of (decode_row t a r)) _ in_range_law.registers)

  source : (k : ℕ) → k < (shape_of (row_op t a r)).sources → k < 2 → get_or (row_left t a r ∷ row_right t a r ∷ []) k 0 < register_count t a
  source k b m =
      let n = (shape_of (row_op t a r)).sources in
      let both : List ℕ = row_left t a r ∷ row_right t a r ∷ [] in
      let h : Every Known (take n both) = subst (Every Known) (sources_are t a r) sources_known in
      rw (get_or-take n both k 0 b) at (known (take n both) h k (simp length-take (omega arith)))

  entries_of_law : (shape_of (row_op t a r)).operand ≡ operand_number Operand.registers → Entries t a (phi_first t a r) (phi_count t a r)
  unfolding decode_row shape_of
  entries_of_law e =
      let row : decode_row t a r ≡ Row.phi (row_target t a r) (map (phi_entry t a) (from (phi_first t a r) (phi_count t a r))) = phi_as t a r (form_of (row_op t a r)) e in
      let op : row_op t a r ≡ phi_op = sym (op_decoded t a r) ∙ ap op_of row in
      let entries : List ℕ = map (phi_entry t a) (from (phi_first t a r) (phi_count t a r)) in
      let h : Every Known entries =
      subst (Every Known) (ap entries_of row) (every_right (sources_of (decode_row t a r)) (entries_of (decode_row t a r)) (every_right (targets_of (decode_row t a r)) _ in_range_law.registers)) in
      let own : row_entries t a r ≡ phi_count t a r = rw op in
      record {
        within = omega (arith, own, phi_first_is t a sized.placed r l op, sum_below_le (row_entries t a) r (row_count t a) l, sized.entries);
        registers = λ k b.
            rw (get_or_map_from (phi_entry t a) 0 (phi_first t a r) (phi_count t a r) k b) at
            (known entries h k (rw (length_map_from (phi_entry t a) (phi_first t a r) (phi_count t a r)) b));
      }

  block : (k : ℕ) → k + 2 < (shape_of (row_op t a r)).operand → get_or (jump_first t a r ∷ jump_second t a r ∷ []) k 0 < block_count t a
  unfolding decode_row shape_of
  block k b =
      let n = named_as t a r (form_of (row_op t a r)) k b in
      omega (arith, every_at in_range_law.blocks 0 k n.0, n.1, block_count_law t a)

  pub row_ready : RowReady t a r
  unfolding decode_row shape_of
  row_ready =
      record {
        instruction = omega (arith, instruction_of (decode_row t a r) in_range_law.shape, op_decoded t a r);
        target = λ e.
            known (row_target t a r ∷ [])
            (subst (Every Known) (targets_are t a r ∙ ap (λ (b : Bool). cond b (row_target t a r ∷ []) []) e) (every_left (targets_of (decode_row t a r)) _ in_range_law.registers)) 0 (omega arith);
        left = λ b. source 0 b (omega arith);
        right = λ b. source 1 b (omega arith);
        number = λ e. number_as t a r (form_of (row_op t a r)) e in_range_law.number;
        entries = entries_of_law;
        first = λ b. block 0 (omega arith);
        second = λ b. block 1 (omega arith);
      }

-- An accepted function with its made names numbered is ready.
pub ready : {t : List ℕ} {a : ℕ} {rs bs : List ℕ} → Sized t a → Clean (decode_function t a)
    → RegistersNumbered (decode_function t a) rs → BlocksNumbered (decode_function t a) bs → max_registers ≤ length rs → max_blocks ≤ length bs → TextReady t a rs bs
ready {t} {a} sized clean registers blocks m n =
    record { sized = sized; rows = row_ready t a sized clean; registers = registers; blocks = blocks; register_room = m; block_room = n }
