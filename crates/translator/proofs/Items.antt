-- What stands in a translation at each number, by the cells of the source.
-- Assumes nothing.
use mathlib.Core.Path.{◌≡◌, refl, sym, ap, ◌∙◌}
use mathlib.Core.Bool.{true, cond, false≢true}
use mathlib.Core.List.{List, [], ◌∷◌, ◌++◌, map}
use Prim.Native.Nat.{ℕ, ◌+◌, ◌*◌, ◌<◌}
use native.Mathlib.Nat.{add_assoc}
use native.Mathlib.Omega.{arith}
use lib.Dec.{eqb}
use lib.ListN.{length, get_or, length-map, get_or-append}
use lib.Seq.{get_or-append-add}
use Rattle.laws.specs.Lists.{keep, from, together}
use Rattle.laws.proofs.Every.{every_at}
use Rattle.laws.proofs.Gather.{get_or_gather, keep_gather}
use Rattle.laws.proofs.Indexing.{get_d_map, length_together_from}
use Rattle.laws.proofs.Ranges.{length_map_from, get_or_map_from}
use Rattle.laws.proofs.Sums.{sum_below_le}
use Rattle.language.specs.Instructions.{Form, form_of}
use Rattle.language.specs.Programs.{Row, Block, Func, no_register, no_block, block_at, rows_at, type_at, rows_of, is_phi, entries_of, max_entries}
use Rattle.language.specs.Checking.{predecessors}
use Rattle.language.specs.Running.{phis_of, phi_target, entry_at}
use Rattle.language.specs.Table.{register_count, register_type, block_count, block_first, block_rows, block_name, row_count, row_op, row_target, phi_first, phi_count, phi_entry, row_entries}
use Rattle.language.specs.Table.{decode_as, decode_row, decode_register, decode_block, decode_function}
use Rattle.language.specs.Translating.{phis_before, new_register, retarget, edge_rows, copy_row, kept_block, register_for, translation, phi_total}
use Rattle.theorems.specs.Clean.{Clean}
use Rattle.language.proofs.TableView.{register_count_law, register_is, type_is, block_count_law, block_is, block_rows_count, block_row_is, phi_first_is, op_of_phi}
use Rattle.theorems.proofs.SimulationBlocks.{kept_block_law, kept_rows}
use Rattle.theorems.proofs.SimulationRows.{phis_at, phi_of, kept_at, phi_at, kept_at_law, phi_is, rows_count, phi_target_law}
use Rattle.theorems.proofs.AcceptanceRows.{source_phis}
use Rattle.theorems.proofs.AcceptanceNumbers.{new_lt}
use Rattle.flow.specs.Sized.{Sized}
use Rattle.flow.proofs.Standing.{row_within}
use Rattle.theorems.proofs.SimulationBlocks.{phis_fit}
use Rattle.translator.proofs.Running.{get_d_numbered}

-- ---- a row by its instruction

phi_as : (g : Form) (t : List ℕ) (a r : ℕ) → is_phi (decode_as g t a r) ≡ true
    → decode_as g t a r ≡ Row.phi (row_target t a r) (map (phi_entry t a) (from (phi_first t a r) (phi_count t a r)))
unfolding decode_as
phi_as Form.nop t a r e = absurd (false≢true e)
phi_as Form.load t a r e = absurd (false≢true e)
phi_as Form.unary t a r e = absurd (false≢true e)
phi_as Form.binary t a r e = absurd (false≢true e)
phi_as Form.phi t a r e = refl
phi_as Form.jump t a r e = absurd (false≢true e)
phi_as Form.branch t a r e = absurd (false≢true e)
phi_as Form.return t a r e = absurd (false≢true e)
phi_as Form.leave t a r e = absurd (false≢true e)
phi_as Form.unknown t a r e = absurd (false≢true e)

module _ (t : List ℕ) (a r : ℕ) (e : is_phi (decode_row t a r) ≡ true) where
  pub phi_decoded : decode_row t a r ≡ Row.phi (row_target t a r) (map (phi_entry t a) (from (phi_first t a r) (phi_count t a r)))
  unfolding decode_row
  phi_decoded = phi_as (form_of (row_op t a r)) t a r e

-- ---- the rows of an edge block

module _ (n k y : ℕ) (phis : List Row) where
  abbrev ins : List Row
  ins = together (λ m r. copy_row m (entry_at k r)) (from n (length phis)) phis

  abbrev outs : List Row
  outs = together (λ m r. copy_row (phi_target r) m) (from n (length phis)) phis

  in_count : length ins ≡ length phis
  in_count = length_together_from (λ m r. copy_row m (entry_at k r)) n phis

  out_count : length outs ≡ length phis
  out_count = length_together_from (λ m r. copy_row (phi_target r) m) n phis

  pub copies_in : (i : ℕ) → i < length phis → get_or (edge_rows n k y phis) i Row.nop ≡ copy_row (n + i) (entry_at k (get_or phis i Row.nop))
  unfolding edge_rows
  copies_in i h =
      get_or-append ins (outs ++ (Row.jump y ∷ [])) Row.nop i (omega (arith, in_count))
      ∙ get_d_numbered (λ m r. copy_row m (entry_at k r)) n phis i Row.nop Row.nop h

  pub copies_out : (i : ℕ) → i < length phis → get_or (edge_rows n k y phis) (length phis + i) Row.nop ≡ copy_row (phi_target (get_or phis i Row.nop)) (n + i)
  unfolding edge_rows
  copies_out i h =
      ap (λ j. get_or (ins ++ (outs ++ (Row.jump y ∷ []))) (j + i) Row.nop) (sym in_count)
      ∙ get_or-append-add ins (outs ++ (Row.jump y ∷ [])) i Row.nop
      ∙ get_or-append outs (Row.jump y ∷ []) Row.nop i (omega (arith, out_count))
      ∙ get_d_numbered (λ m r. copy_row (phi_target r) m) n phis i Row.nop Row.nop h

  pub jumps_on : get_or (edge_rows n k y phis) (2 * length phis) Row.nop ≡ Row.jump y
  unfolding edge_rows
  jumps_on =
      let place : 2 * length phis ≡ length ins + (length outs + 0) = omega (arith, in_count, out_count) in
      ap (λ j. get_or (ins ++ (outs ++ (Row.jump y ∷ []))) j Row.nop) place
      ∙ get_or-append-add ins (outs ++ (Row.jump y ∷ [])) (length outs + 0) Row.nop
      ∙ get_or-append-add outs (Row.jump y ∷ []) 0 Row.nop

-- ---- the rows of the source

module _ (t : List ℕ) (a : ℕ) (s : Sized t a) where
  module _ (c : Clean (decode_function t a)) where
    abbrev f : Func
    f = decode_function t a

    module _ (y i : ℕ) (l : y < block_count t a) (h : i < length (phis_at f y)) where
      abbrev r : ℕ
      r = block_first t a y + i

      among : i < block_rows t a y
      among = omega (arith, rows_count f c y, block_rows_count t a y l)

      pub phi_within : r < row_count t a
      phi_within = row_within t a s y i l among

      phi_row : phi_of f y i ≡ decode_row t a r
      phi_row = sym (phi_at f c y i h) ∙ block_row_is t a y l i among

      phi_here : is_phi (decode_row t a r) ≡ true
      phi_here = ap is_phi (sym phi_row) ∙ phi_is f c y i h

      phi_parts : phi_of f y i ≡ Row.phi (row_target t a r) (map (phi_entry t a) (from (phi_first t a r) (phi_count t a r)))
      phi_parts = phi_row ∙ phi_decoded t a r phi_here

      pub target_is : phi_target (phi_of f y i) ≡ row_target t a r
      target_is = ap phi_target phi_parts

      pub target_known : row_target t a r < register_count t a
      target_known = rw (← target_is, ← register_count_law t a) (phi_target_law f c y i h)

      entries_count : phi_count t a r ≡ length (predecessors f y)
      entries_count =
          sym (ap (λ x. length (entries_of x)) phi_parts ∙ length_map_from (phi_entry t a) (phi_first t a r) (phi_count t a r))
          ∙ (every_at (source_phis f c y) Row.nop i h).count

      module _ (j : ℕ) (m : j < length (predecessors f y)) where
        pub entry_is : entry_at j (phi_of f y i) ≡ phi_entry t a (phi_first t a r + j)
        entry_is = ap (entry_at j) phi_parts ∙ get_or_map_from (phi_entry t a) 0 (phi_first t a r) (phi_count t a r) j (rw entries_count m)

        pub entry_within : phi_first t a r + j < max_entries
        entry_within =
            let own : row_entries t a r ≡ phi_count t a r = ap (λ n. cond (eqb n 31) (phi_count t a r) 0) (op_of_phi t a r phi_here) in
            omega (arith, own, entries_count, phi_first_is t a s.placed r phi_within (op_of_phi t a r phi_here), sum_below_le (row_entries t a) r (row_count t a) phi_within, s.entries)

    -- ---- the registers of the translation

    pub register_kept : (i : ℕ) → i < register_count t a → get_or (translation f).registers i no_register ≡ decode_register t a i
    unfolding translation
    register_kept i l =
        get_or-append f.registers (map (register_for f) (phis_of (rows_of f))) no_register i (rw (register_count_law t a) l) ∙ register_is t a i l

    -- the i-th phi of block y among all
    phi_among : (y i : ℕ) → y < block_count t a → i < length (phis_at f y) → get_or (phis_of (rows_of f)) (phis_before f y + i) Row.nop ≡ phi_of f y i
    unfolding phis_before phis_of rows_of
    phi_among y i l h =
        rw (keep_gather is_phi (λ (b : Block). b.rows) f.blocks)
        (get_or_gather (λ (b : Block). keep is_phi b.rows) f.blocks y i no_block Row.nop (rw (block_count_law t a) l) h)

    all_phis : (y i : ℕ) → y < block_count t a → i < length (phis_at f y) → phis_before f y + i < length (phis_of (rows_of f))
    unfolding phi_total
    all_phis y i l h = omega (arith, phis_fit f y (rw (block_count_law t a) l))

    module _ (y i : ℕ) (l : y < block_count t a) (h : i < length (phis_at f y)) where
      pub new_within : new_register f y + i < length (translation f).registers
      new_within = new_lt f y (rw (block_count_law t a) l) i h

      pub register_new :
          get_or (translation f).registers (new_register f y + i) no_register
          ≡ record { type = register_type t a (row_target t a (block_first t a y + i)); name = [] }
      unfolding new_register translation register_for
      register_new =
          let k = phis_before f y + i in
          let phis = phis_of (rows_of f) in
          let among : k < length phis = all_phis y i l h in
          ap (λ n. get_or (f.registers ++ map (register_for f) phis) n no_register) (add_assoc (length f.registers) (phis_before f y) i)
          ∙ get_or-append-add f.registers (map (register_for f) phis) k no_register
          ∙ get_d_map (register_for f) phis k Row.nop no_register among
          ∙ ap (register_for f) (phi_among y i l h)
          ∙ ap (λ n. record { type = n; name = [] }) (ap (type_at f) (target_is y i l h) ∙ type_is t a (row_target t a (block_first t a y + i)) (target_known y i l h))

    -- ---- its blocks

    module _ (x : ℕ) (l : x < block_count t a) where
      known : x < length f.blocks
      known = rw (block_count_law t a) l

      pub kept_name : (block_at (translation f) x).name ≡ block_name t a x
      unfolding kept_block decode_block
      kept_name = ap (λ b. b.name) (kept_block_law f x known) ∙ ap (λ b. b.name) (block_is t a x l)

      pub kept_height : length (phis_at f x) + length (rows_at (translation f) x) ≡ block_rows t a x
      kept_height =
          let kept : length (rows_at (translation f) x) ≡ length (kept_at f x) = ap length (kept_rows f x known) ∙ length-map (kept_at f x) (retarget f x) in
          omega (arith, kept, rows_count f c x, block_rows_count t a x l)

      pub kept_row : (i : ℕ) → i < length (rows_at (translation f) x)
          → get_or (rows_at (translation f) x) i Row.nop ≡ retarget f x (decode_row t a (block_first t a x + (length (phis_at f x) + i)))
      kept_row i h =
          let few : i < length (kept_at f x) = omega (arith, kept_height, rows_count f c x, block_rows_count t a x l) in
          ap (λ rs. get_or rs i Row.nop) (kept_rows f x known)
          ∙ get_d_map (retarget f x) (kept_at f x) i Row.nop Row.nop few
          ∙ ap (retarget f x) (sym (kept_at_law f c x i) ∙ block_row_is t a x l (length (phis_at f x) + i) (omega (arith, kept_height)))
