-- The kept blocks of a translation and their rows, put down one after the other.
-- Assumes nothing.
use mathlib.Core.Path.{◌≡◌, refl, sym, ap, ◌∙◌}
use mathlib.Core.Bool.{false, true≢false}
use mathlib.Core.List.{List, ◌∷◌, ◌++◌, map, append-nil, append_assoc}
use Prim.Native.Nat.{ℕ, suc, ◌+◌, ◌-◌, ◌*◌, ◌≤◌, ◌<◌}
use native.Mathlib.Nat.{zero-add}
use native.Mathlib.Numerals.{add-one}
use native.Mathlib.Omega.{arith}
use lib.ListN.{length, get_or, take, replicate, replicate-append-replicate}
use lib.Seq.{sets}
use Rattle.laws.specs.Lists.{sum}
use Rattle.laws.proofs.Cells.{sets_then}
use Rattle.laws.proofs.Every.{every_at}
use Rattle.language.specs.Instructions.{Form, form_of}
use Rattle.language.specs.Programs.{Row, Block, Func, block_at, rows_at, rows_of, first_row, is_phi, entries_of, max_rows}
use Rattle.language.specs.Table.{two_bytes, block_count, block_rows, block_first, block_name, row_op, row_cells, decode_as, decode_row, decode_function}
use Rattle.language.specs.Table.{block_length, block_names_offset, blocks_offset, function_at, predecessors_length, row_length, rows_offset, table_length}
use Rattle.instructions.specs.Shapes.{shape_of}
use Rattle.language.proofs.TableView.{op_decoded, block_count_law, block_rows_count, block_row_is}
use Rattle.theorems.proofs.SimulationRows.{phis_at, kept_at, row_of, kept_at_law, kept_is, rows_count}
use Rattle.theorems.proofs.AcceptanceNumbers.{block_lt}
use Rattle.theorems.proofs.Spots.{first_next, first_within, row_at, row_below}
use Rattle.language.proofs.TableLaws.{name_cells_law}
use Rattle.flow.proofs.Standing.{row_within}
use Rattle.flow.specs.Layout.{phis_in}
use Rattle.flow.specs.Prepared.{Prepared}
use Rattle.predecessors.specs.Listing.{bare_cells}
use Rattle.predecessors.proofs.BareLaws.{bare_cells_law}
use Rattle.translator.specs.Source.{TranslatableAt, Planned, translated, built, kept_cells, Naming, KeptRows}
use Rattle.translator.proofs.Filling.{length_filled, block_stored, row_stored}
use Rattle.translator.proofs.Items.{kept_name, kept_height, kept_row}
use Rattle.translator.proofs.RegistersLaws.{target_laid, plain}
use Rattle.translator.proofs.Renaming.{Renames, renames, cells_as_law}
use Rattle.translator.proofs.SizesLaws.{phis_here}

-- a row that is no phi has no entries to place
pub plain_cells : (n : ℕ) (row : Row) → is_phi row ≡ false → row_cells n row ≡ row_cells 0 row
unfolding row_cells
plain_cells n Row.nop e = refl
plain_cells n (Row.load op t x) e = refl
plain_cells n (Row.unary op t s) e = refl
plain_cells n (Row.binary op t l r) e = refl
plain_cells n (Row.phi t es) e = absurd (true≢false e)
plain_cells n (Row.jump b) e = refl
plain_cells n (Row.branch s x y) e = refl
plain_cells n (Row.return s) e = refl
plain_cells n Row.leave e = refl
plain_cells n (Row.unknown op) e = refl

-- of a block without a list, its place and name are stored
pub bare_stored : (n : ℕ) (b : Block)
    → bare_cells n b ≡ two_bytes n ++ two_bytes (length b.rows) ++ (length b.name ∷ b.name) ++ replicate (64 - length b.name + predecessors_length) 0
bare_stored n b =
    let name : List ℕ = length b.name ∷ b.name in
    let left : ℕ = 64 - length b.name in
    bare_cells_law n b
    ∙ ap (λ (r : List ℕ). two_bytes n ++ (two_bytes (length b.rows) ++ r))
    (ap (λ (r : List ℕ). r ++ replicate predecessors_length 0) (name_cells_law b.name)
    ∙ append_assoc name (replicate left 0) (replicate predecessors_length 0)
    ∙ ap (λ (r : List ℕ). name ++ r) (replicate-append-replicate left predecessors_length 0))

-- the blocks that a row names may be renamed
naming_as : (t : List ℕ) (a : ℕ) (m plan : List ℕ) (x r : ℕ) (g : Form) → form_of (row_op t a r) ≡ g → Renames t a m plan x (decode_as g t a r) → Naming t a r (shape_of (row_op t a r)).operand
unfolding decode_as shape_of
naming_as t a m plan x r Form.nop e k = rw e (record { first = λ z. absurd (omega arith); second = λ z. absurd (omega arith) })
naming_as t a m plan x r Form.load e k = rw e (record { first = λ z. absurd (omega arith); second = λ z. absurd (omega arith) })
naming_as t a m plan x r Form.unary e k = rw e (record { first = λ z. absurd (omega arith); second = λ z. absurd (omega arith) })
naming_as t a m plan x r Form.binary e k = rw e (record { first = λ z. absurd (omega arith); second = λ z. absurd (omega arith) })
naming_as t a m plan x r Form.phi e k = rw e (record { first = λ z. absurd (omega arith); second = λ z. absurd (omega arith) })
naming_as t a m plan x r Form.jump e k = rw e (record { first = λ z. k.names; second = λ z. absurd (omega arith) })
naming_as t a m plan x r Form.branch e k = rw e (record { first = λ z. k.0.names; second = λ z. k.1.names })
naming_as t a m plan x r Form.return e k = rw e (record { first = λ z. absurd (omega arith); second = λ z. absurd (omega arith) })
naming_as t a m plan x r Form.leave e k = rw e (record { first = λ z. absurd (omega arith); second = λ z. absurd (omega arith) })
naming_as t a m plan x r Form.unknown e k = rw e (record { first = λ z. absurd (omega arith); second = λ z. absurd (omega arith) })

module _ (t : List ℕ) (a : ℕ) (h : TranslatableAt t a) where
  abbrev f : Func
  f = decode_function t a

  abbrev g : Func
  g = translated t a

  pub length_built : (j k : ℕ) → j ≤ length g.blocks → k ≤ length (rows_of g) → length (built t a j k) ≡ table_length
  length_built j k hj hk = length_filled g (target_laid t a h) (length g.registers) j k (omega arith) hj hk

  -- one more row
  pub one_row : (j k : ℕ) (out next vs : List ℕ) → j ≤ length g.blocks → k < length (rows_of g) → out ≡ built t a j k
      → row_cells 0 (get_or (rows_of g) k Row.nop) ≡ vs → next ≡ sets out (function_at 0 + rows_offset + row_length * k) vs → next ≡ built t a j (suc k)
  one_row j k out next vs hj l e c s =
      let n : ℕ = 0 + sum (map (λ r. length (entries_of r)) (take k (rows_of g))) in
      let cells : row_cells n (get_or (rows_of g) k Row.nop) ≡ vs ++ replicate 0 0 =
      plain_cells n (get_or (rows_of g) k Row.nop) (every_at (plain t a h) Row.nop k l) ∙ c ∙ sym (append-nil vs) in
      s ∙ ap (λ (u : List ℕ). sets u (function_at 0 + rows_offset + row_length * k) vs) e
      ∙ sym (row_stored g (target_laid t a h) (length g.registers) j k (omega arith) hj (omega arith) vs 0 l cells).cells

  -- one more block: its place, then its name
  pub one_block : (j k : ℕ) (out next vs : List ℕ) (z : ℕ) → j < length g.blocks → k ≤ length (rows_of g) → out ≡ built t a j k
      → bare_cells (first_row g j) (block_at g j) ≡ vs ++ replicate z 0 → next ≡ sets out (function_at 0 + blocks_offset + block_length * j) vs → next ≡ built t a (suc j) k
  one_block j k out next vs z l hk e c s =
      s ∙ ap (λ (u : List ℕ). sets u (function_at 0 + blocks_offset + block_length * j) vs) e
      ∙ sym (block_stored g (target_laid t a h) (length g.registers) j k (omega arith) (omega arith) hk vs z l (rw (zero-add (first_row g j)) c)).cells

  -- ---- kept blocks

  pub block_within : (x : ℕ) → x < block_count t a → x < length g.blocks
  block_within x l = block_lt f x (rw (block_count_law t a) l)

  pub name_short : (x : ℕ) → x < block_count t a → length (block_name t a x) ≤ 64
  name_short x l = rw (kept_name t a h.sized h.clean x l) at ((target_laid t a h).block_names x (block_within x l))

  pub block_length_law : (x k : ℕ) (out : List ℕ) → x < block_count t a → k ≡ first_row g x → out ≡ built t a x k → length out ≡ table_length
  block_length_law x k out l d e =
      ap length e ∙ length_built x k (omega (arith, block_within x l)) (omega (arith, first_within g x (block_within x l)))

  pub first_none : 0 ≡ first_row g 0
  unfolding first_row
  first_none = refl

  module _ (m plan : List ℕ) (p : Prepared f m) (q : Planned f plan) where
    module _ (x i : ℕ) (l : x < block_count t a) (b : i < length (rows_at g x)) where
      abbrev place : ℕ
      place = length (phis_at f x) + i

      abbrev r : ℕ
      r = block_first t a x + place

      in_block : place < block_rows t a x
      in_block = omega (arith, kept_height t a h.sized h.clean x l)

      row_here : row_of f x place ≡ decode_row t a r
      row_here = block_row_is t a x l place in_block

      no_phi_here : is_phi (decode_row t a r) ≡ false
      no_phi_here =
          let few : i < length (kept_at f x) = omega (arith, in_block, rows_count f h.clean x, block_rows_count t a x l) in
          ap is_phi (sym row_here ∙ kept_at_law f h.clean x i) ∙ kept_is f h.clean x i few

      renames_here : Renames t a m plan x (decode_row t a r)
      renames_here =
          renames t a h.sized h.clean m plan p q (target_laid t a h).block_count x place (rw (block_count_law t a) l) (rw (block_rows_count t a x l) in_block)
          (decode_row t a r) row_here

      naming_here : Naming t a r (shape_of (row_op t a r)).operand
      unfolding decode_row
      naming_here = naming_as t a m plan x r (form_of (row_op t a r)) refl renames_here

      cells_here : row_cells 0 (get_or (rows_of g) (first_row g x + i) Row.nop) ≡ kept_cells t a m plan x r
      unfolding decode_row
      cells_here =
          ap (row_cells 0) (row_at g x i b ∙ kept_row t a h.sized h.clean x l i b)
          ∙ cells_as_law t a m plan x r (form_of (row_op t a r)) refl (op_decoded t a r) no_phi_here renames_here

    module _ (x r n k i : ℕ) (s : KeptRows t a m x r n k) (b : i < n) where
      here : i < length (rows_at g x)
      here = omega (arith, s.count, phis_here t a m p h.clean x s.block, kept_height t a h.sized h.clean x s.block)

      there : r + i ≡ block_first t a x + (length (phis_at f x) + i)
      there = omega (arith, s.first, phis_here t a m p h.clean x s.block)

      pub keeps_row : r + i < max_rows
      keeps_row = omega (arith, there, row_within t a h.sized x (length (phis_at f x) + i) s.block (in_block x i s.block here), h.sized.rows)

      within : k + i < length (rows_of g)
      within = rw s.place (row_below g x i here)

      pub keeps_place : k + i < max_rows
      keeps_place = omega (arith, within, (target_laid t a h).row_count)

      pub keeps_naming : Naming t a (r + i) (shape_of (row_op t a (r + i))).operand
      keeps_naming = rw there (naming_here x i s.block here)

      pub keeps_one : (out next : List ℕ) → out ≡ built t a (x + 1) (k + i) → next ≡ sets out (function_at 0 + rows_offset + row_length * (k + i)) (kept_cells t a m plan x (r + i)) → next ≡ built t a (x + 1) (k + (i + 1))
      keeps_one out next e c =
          let more : k + (i + 1) ≡ suc (k + i) = omega arith in
          let cells : row_cells 0 (get_or (rows_of g) (k + i) Row.nop) ≡ kept_cells t a m plan x (r + i) = rw (s.place, there) (cells_here x i s.block here) in
          rw more (one_row (x + 1) (k + i) out next (kept_cells t a m plan x (r + i)) (omega (arith, block_within x s.block)) within e cells c)

    -- the rows that are no phi
    pub fewer_phis : (x p' w : ℕ) → x < block_count t a → p' ≡ phis_in m x → w ≡ block_rows t a x → p' ≤ w
    fewer_phis x p' w l e d = omega (arith, phis_here t a m p h.clean x l, kept_height t a h.sized h.clean x l)

    pub rows_left : (x p' w : ℕ) → x < block_count t a → p' ≡ phis_in m x → w ≡ block_rows t a x → phis_in m x + (w - p') ≡ block_rows t a x
    rows_left x p' w l e d = omega (arith, fewer_phis x p' w l e d)

    -- a block's place and name
    module _ (x n k : ℕ) (l : x < block_count t a) (d : k ≡ first_row g x) (c : phis_in m x + n ≡ block_rows t a x) where
      pub kept_count : n ≡ length (rows_at g x)
      kept_count = omega (arith, phis_here t a m p h.clean x l, kept_height t a h.sized h.clean x l)

      pub kept_next : k + n ≡ first_row g (x + 1)
      kept_next = rw (add-one x) (omega (arith, first_next g x (block_within x l), kept_count))

      pub kept_most : k + n ≤ max_rows
      kept_most = omega (arith, kept_count, first_within g x (block_within x l), (target_laid t a h).row_count)

      pub keeps_block : (out first next name : List ℕ) → out ≡ built t a x k → first ≡ sets out (function_at 0 + blocks_offset + block_length * x) (two_bytes k ++ two_bytes n) → name ≡ block_name t a x
          → next ≡ sets first (function_at 0 + block_names_offset + block_length * x) (length name ∷ name) → next ≡ built t a (x + 1) k
      keeps_block out first next name e s1 z s2 =
          let vs : List ℕ = two_bytes k ++ two_bytes n ++ (length name ∷ name) in
          let rest : ℕ = 64 - length name + predecessors_length in
          let cells : bare_cells (first_row g x) (block_at g x) ≡ vs ++ replicate rest 0 =
          bare_stored (first_row g x) (block_at g x) ∙ rw (← d, ← kept_count, kept_name t a h.sized h.clean x l, ← z) in
          let all : next ≡ sets out (function_at 0 + blocks_offset + block_length * x) vs = sets_then out (two_bytes k ++ two_bytes n) (length name ∷ name) (function_at 0 + blocks_offset + block_length * x) (omega arith) s1 s2 in
          rw (add-one x) (one_block x k out next vs rest (block_within x l) (omega (arith, first_within g x (block_within x l))) e cells all)

    pub kept_length : (x r n k : ℕ) (out : List ℕ) → KeptRows t a m x r n k → out ≡ built t a (x + 1) k → length out ≡ table_length
    kept_length x r n k out s e =
        ap length e
        ∙ length_built (x + 1) k (omega (arith, block_within x s.block)) (omega (arith, s.place, first_within g x (block_within x s.block)))
