-- The edge blocks of a translation, put down one after the other.
-- Assumes nothing.
use mathlib.Core.Path.{◌≡◌, refl, sym, ap, ◌∙◌}
use mathlib.Core.Bool.{Bool, true, false, cond}
use mathlib.Core.List.{List, [], ◌∷◌, ◌++◌}
use Prim.Native.Nat.{ℕ, suc, ◌+◌, ◌*◌, ◌≤◌, ◌<◌}
use native.Mathlib.Nat.{not-suc-le-zero}
use native.Mathlib.Numerals.{add-one}
use native.Mathlib.Omega.{arith}
use lib.ListN.{length, get_or, replicate}
use lib.Seq.{sets}
use Rattle.laws.specs.Sections.{pad}
use Rattle.language.specs.Programs.{Row, Func, block_at, rows_at, rows_of, first_row, has_phi, max_rows, max_entries, max_blocks}
use Rattle.language.specs.Checking.{predecessors}
use Rattle.language.specs.Table.{two_bytes, eight_bytes, block_count, block_first, row_target, phi_first, phi_entry, row_cells, decode_function, name_length, predecessors_length}
use Rattle.language.specs.Table.{block_length, blocks_offset, function_at, row_length, rows_offset, table_length}
use Rattle.language.specs.Translating.{pairs_before, new_register, edge_rows, copy_row, translated_blocks}
use Rattle.language.specs.Instructions.{copy_op, jump_op}
use Rattle.theorems.proofs.Size.{size_blocks, length_edge_rows}
use Rattle.language.proofs.TableView.{block_count_law}
use Rattle.theorems.proofs.SimulationBlocks.{edge_block_law}
use Rattle.theorems.proofs.SimulationRows.{phis_at}
use Rattle.theorems.proofs.Spots.{first_next, first_within, row_at, row_below}
use Rattle.flow.specs.Layout.{phis_in}
use Rattle.flow.specs.Prepared.{Prepared}
use Rattle.predecessors.specs.Listing.{bare_cells}
use Rattle.translator.specs.Filling.{unlisted}
use Rattle.translator.specs.Source.{TranslatableAt, translated, built, pairs_in, edge_number, Edge}
use Rattle.translator.proofs.Counting.{pairs_at, pairs_next, pairs_within, pairs_all, first_all}
use Rattle.translator.proofs.Filling.{filled_all}
use Rattle.translator.proofs.Items.{copies_in, copies_out, jumps_on, phi_within, target_is, entry_is, entry_within, new_within}
use Rattle.translator.proofs.KeptLaws.{length_built, bare_stored, one_row, one_block}
use Rattle.translator.proofs.RegistersLaws.{target_laid, new_next, new_most}
use Rattle.language.proofs.TableLaws.{eight_of_one}
use Rattle.translator.proofs.SizesLaws.{phis_here, pairs_here}

-- a pair is one of a block with phi
pair_parts : (f : Func) (y j : ℕ) → j < pairs_at f y → (has_phi f y ≡ true) × (j < length (predecessors f y))
pair_parts f y j h = case (has_phi f y) refl h
  where
    case : (b : Bool) → has_phi f y ≡ b → j < cond b (length (predecessors f y)) 0 → (has_phi f y ≡ true) × (j < length (predecessors f y))
    case true e l = (e, l)
    case false e l = absurd (not-suc-le-zero l)

-- What is looked at and written for the i-th of p phi, whose rows begin at first, is within its limits.
pub record Bounds (t : List ℕ) (a j n k p first i : ℕ) : Type 0 where
  pub row : first + i < max_rows
  pub entry : phi_first t a (first + i) + j < max_entries
  pub new : n + i < 256
  pub into : k + i < max_rows
  pub onto : k + p + i < max_rows

module _ (t : List ℕ) (a : ℕ) (h : TranslatableAt t a) (m : List ℕ) (p : Prepared (decode_function t a) m) where
  abbrev f : Func
  f = decode_function t a

  abbrev g : Func
  g = translated t a

  -- the blocks up to the edges of block y are all there
  pub edges_most : (y : ℕ) → y < block_count t a → block_count t a + pairs_before f y + pairs_in t a m y ≤ length g.blocks
  unfolding translated_blocks
  edges_most y l =
      omega (arith, block_count_law t a, size_blocks f, pairs_here t a m p h.clean h.sized.placed y l, pairs_within f y (rw (block_count_law t a) l))

  pub edges_few : (y d e : ℕ) → y < block_count t a → d ≡ block_count t a + pairs_before f y → e ≡ pairs_in t a m y → d + e ≤ 64
  edges_few y d e l eb ep = omega (arith, edges_most y l, (target_laid t a h).block_count)

  module _ (y j n k : ℕ) (s : Edge t a m y j n k) where
    abbrev b : ℕ
    b = edge_number t a y j

    pub edge_known : b < length g.blocks
    edge_known = omega (arith, edges_most y s.block, s.pair)

    parts : (has_phi f y ≡ true) × (j < length (predecessors f y))
    parts = pair_parts f y j (rw (pairs_here t a m p h.clean h.sized.placed y s.block) at s.pair)

    edge_is : block_at g b ≡ record { name = []; rows = edge_rows (new_register f y) j y (phis_at f y) }
    edge_is = rw (block_count_law t a) at (edge_block_law f y j (rw (block_count_law t a) s.block) parts.0 parts.1)

    rows_are : rows_at g b ≡ edge_rows n j y (phis_at f y)
    rows_are = ap (λ x. x.rows) edge_is ∙ ap (λ i. edge_rows i j y (phis_at f y)) (sym s.new)

    phis : phis_in m y ≡ length (phis_at f y)
    phis = phis_here t a m p h.clean y s.block

    pub edge_count : length (rows_at g b) ≡ 2 * phis_in m y + 1
    edge_count = rw (rows_are, phis) (length_edge_rows n j y (phis_at f y))

    pub edge_row : (i : ℕ) → i < 2 * phis_in m y + 1 → get_or (rows_of g) (k + i) Row.nop ≡ get_or (edge_rows n j y (phis_at f y)) i Row.nop
    edge_row i l = rw s.place (row_at g b i (rw edge_count l) ∙ ap (λ rs. get_or rs i Row.nop) rows_are)

    pub edge_within : (i : ℕ) → i < 2 * phis_in m y + 1 → k + i < length (rows_of g)
    edge_within i l = rw s.place (row_below g b i (rw edge_count l))

    pub edge_short : (i : ℕ) → i < 2 * phis_in m y + 1 → k + i < max_rows
    edge_short i l = omega (arith, edge_within i l, (target_laid t a h).row_count)

    -- ---- its rows

    module _ (i : ℕ) (l : i < phis_in m y) where
      among : i < length (phis_at f y)
      among = omega (arith, phis)

      pub phi_short : block_first t a y + i < max_rows
      phi_short = omega (arith, phi_within t a h.sized h.clean y i s.block among, h.sized.rows)

      pub entry_short : phi_first t a (block_first t a y + i) + j < max_entries
      entry_short = entry_within t a h.sized h.clean y i s.block among j parts.1

      pub new_short : n + i < 256
      new_short = rw s.new (omega (arith, new_within t a h.sized h.clean y i s.block among, (target_laid t a h).register_count))

      -- an entry goes to a new register
      pub entry_put : (e : ℕ) (out next : List ℕ) → out ≡ built t a (b + 1) (k + i) → e ≡ phi_entry t a (phi_first t a (block_first t a y + i) + j)
          → next ≡ sets out (function_at 0 + rows_offset + row_length * (k + i)) (copy_op ∷ (n + i) ∷ e ∷ 0 ∷ eight_bytes 0) → next ≡ built t a (b + 1) (k + (i + 1))
      unfolding row_cells pad
      entry_put e out next o d c =
          let more : k + (i + 1) ≡ suc (k + i) = omega arith in
          let row : get_or (rows_of g) (k + i) Row.nop ≡ copy_row (n + i) e =
          edge_row i (omega arith) ∙ copies_in n j y (phis_at f y) i among ∙ ap (copy_row (n + i)) (entry_is t a h.sized h.clean y i s.block among j parts.1 ∙ sym d) in
          rw more
          (one_row t a h (b + 1) (k + i) out next (copy_op ∷ (n + i) ∷ e ∷ 0 ∷ eight_bytes 0) (omega (arith, edge_known)) (edge_within i (omega arith)) o (ap (row_cells 0) row) c)

      -- a new register goes to a target
      pub target_put : (q u : ℕ) (out next : List ℕ) → q ≡ phis_in m y → out ≡ built t a (b + 1) (k + q + i) → u ≡ row_target t a (block_first t a y + i)
          → next ≡ sets out (function_at 0 + rows_offset + row_length * (k + q + i)) (copy_op ∷ u ∷ (n + i) ∷ 0 ∷ eight_bytes 0) → next ≡ built t a (b + 1) (k + q + (i + 1))
      unfolding row_cells pad
      target_put q u out next x o d c =
          let z : ℕ = k + q + i in
          let more : k + q + (i + 1) ≡ suc z = omega arith in
          let at : z ≡ k + (length (phis_at f y) + i) = omega (arith, phis) in
          let row : get_or (rows_of g) z Row.nop ≡ copy_row u (n + i) =
          ap (λ v. get_or (rows_of g) v Row.nop) at ∙ edge_row (length (phis_at f y) + i) (omega (arith, phis)) ∙ copies_out n j y (phis_at f y) i among
          ∙ ap (λ v. copy_row v (n + i)) (target_is t a h.sized h.clean y i s.block among ∙ sym d) in
          rw more
          (one_row t a h (b + 1) z out next (copy_op ∷ u ∷ (n + i) ∷ 0 ∷ eight_bytes 0) (omega (arith, edge_known))
          (rw at (edge_within (length (phis_at f y) + i) (omega (arith, phis)))) o (ap (row_cells 0) row) c)

    -- the jump to the phi block
    pub jump_put : (out next : List ℕ) → out ≡ built t a (b + 1) (k + 2 * phis_in m y) → next ≡ sets out (function_at 0 + rows_offset + row_length * (k + 2 * phis_in m y)) (jump_op ∷ 0 ∷ 0 ∷ 0 ∷ eight_bytes y)
        → next ≡ built t a (b + 1) (k + 2 * phis_in m y + 1)
    unfolding row_cells pad
    jump_put out next o c =
        let z : ℕ = k + 2 * phis_in m y in
        let row : get_or (rows_of g) z Row.nop ≡ Row.jump y =
        edge_row (2 * phis_in m y) (omega arith) ∙ ap (λ v. get_or (edge_rows n j y (phis_at f y)) (2 * v) Row.nop) phis ∙ jumps_on n j y (phis_at f y) in
        let cells : row_cells 0 (get_or (rows_of g) z Row.nop) ≡ 32 ∷ 0 ∷ 0 ∷ 0 ∷ eight_bytes y =
        rw (row, eight_of_one y (omega (arith, s.block, h.sized.blocks))) in
        rw (add-one z) (one_row t a h (b + 1) z out next (jump_op ∷ 0 ∷ 0 ∷ 0 ∷ eight_bytes y) (omega (arith, edge_known)) (edge_within (2 * phis_in m y) (omega arith)) o cells c)

    -- ---- its place

    pub place_put : (out next : List ℕ) → out ≡ built t a b k → next ≡ sets out (function_at 0 + blocks_offset + block_length * b) (two_bytes k ++ two_bytes (2 * phis_in m y + 1)) → next ≡ built t a (b + 1) k
    place_put out next o c =
        let vs : List ℕ = two_bytes k ++ two_bytes (2 * phis_in m y + 1) in
        let unnamed : (block_at g b).name ≡ [] = ap (λ x. x.name) edge_is in
        let cells : bare_cells (first_row g b) (block_at g b) ≡ vs ++ replicate (name_length + predecessors_length) 0 =
        bare_stored (first_row g b) (block_at g b) ∙ rw (← s.place, edge_count, unnamed) in
        rw (add-one b) (one_block t a h b k out next vs (name_length + predecessors_length) edge_known (omega (arith, s.place, first_within g b edge_known)) o cells c)

    pub edge_next : k + 2 * phis_in m y + 1 ≡ first_row g (b + 1)
    edge_next = rw (add-one b) (omega (arith, first_next g b edge_known, edge_count, s.place))

    pub edge_length_law : (out : List ℕ) → out ≡ built t a b k → length out ≡ table_length
    edge_length_law out o = ap length o ∙ length_built t a h b k (omega (arith, edge_known)) (omega (arith, s.place, first_within g b edge_known))

    -- the same by the numbers of the code
    module _ (d q : ℕ) (eb : d ≡ b) (eq : q ≡ phis_in m y) where
      pub edge_few : d < max_blocks
      edge_few = omega (arith, edge_known, (target_laid t a h).block_count)

      pub edge_long : (out : List ℕ) → out ≡ built t a d k → length out ≡ table_length
      edge_long out o = edge_length_law out (o ∙ ap (λ v. built t a v k) eb)

      pub edge_last : k + 2 * q < max_rows
      edge_last = rw eq (edge_short (2 * phis_in m y) (omega arith))

      pub placed : (out next : List ℕ) → out ≡ built t a d k → next ≡ sets out (function_at 0 + blocks_offset + block_length * d) (two_bytes k ++ two_bytes (2 * q + 1)) → next ≡ built t a (b + 1) k
      placed out next o c = place_put out next (o ∙ ap (λ v. built t a v k) eb) (rw (eb, eq) at c)

      pub jumped : (out next : List ℕ) → out ≡ built t a (b + 1) (k + 2 * phis_in m y) → next ≡ sets out (function_at 0 + rows_offset + row_length * (k + 2 * q)) (jump_op ∷ 0 ∷ 0 ∷ 0 ∷ eight_bytes y)
          → (k + 2 * q + 1 ≡ first_row g (d + 1)) × (next ≡ built t a (d + 1) (k + 2 * q + 1))
      jumped out next o c = (rw (eb, eq) edge_next, rw (eb, eq) (jump_put out next o (rw eq at c)))

    pub bounds : (q first i : ℕ) → q ≡ phis_in m y → first ≡ block_first t a y → i < q → Bounds t a j n k q first i
    bounds q first i e d l =
        let few : i < phis_in m y = omega arith in
        record {
          row = rw d (phi_short i few);
          entry = rw d (entry_short i few);
          new = new_short i few;
          into = edge_short i (omega arith);
          onto = omega (arith, edge_short (q + i) (omega arith));
        }

    pub built_length : (v : ℕ) (out : List ℕ) → v ≤ 2 * phis_in m y + 1 → out ≡ built t a (b + 1) (k + v) → length out ≡ table_length
    built_length v out l o =
        ap length o ∙ length_built t a h (b + 1) (k + v) (omega (arith, edge_known)) (omega (arith, edge_count, s.place, first_within g b edge_known))

  -- ---- block by block

  pub edges_first : block_count t a ≡ block_count t a + pairs_before f 0
  unfolding pairs_before
  edges_first = omega arith

  module _ (y : ℕ) (l : y < block_count t a) where
    pub edges_next : (d e : ℕ) → d ≡ block_count t a + pairs_before f y → e ≡ pairs_in t a m y → d + e ≡ block_count t a + pairs_before f (y + 1)
    edges_next d e eb ep = rw (add-one y) (omega (arith, pairs_next f y, pairs_here t a m p h.clean h.sized.placed y l))

    pub registers_next : (n q : ℕ) → n ≡ new_register f y → q ≡ phis_in m y → n + q ≡ new_register f (y + 1)
    registers_next n q en eq = rw (add-one y) (omega (arith, new_next t a h y l, phis_here t a m p h.clean y l))

    pub registers_few : (n q : ℕ) → n ≡ new_register f y → q ≡ phis_in m y → n + q ≤ 256
    registers_few n q en eq = new_most t a h y n q l en (eq ∙ phis_here t a m p h.clean y l)

  -- ---- all of it

  pub edges_all : (k : ℕ) (out : List ℕ) → k ≡ first_row g (block_count t a + pairs_before f (block_count t a)) → out ≡ built t a (block_count t a + pairs_before f (block_count t a)) k
      → out ≡ unlisted g
  unfolding translated_blocks
  edges_all k out d o =
      let all : block_count t a + pairs_before f (block_count t a) ≡ length g.blocks =
      rw (size_blocks f, ← block_count_law t a) (ap (λ n. length f.blocks + n) (pairs_all f)) in
      o ∙ ap (λ j. built t a j k) all ∙ ap (built t a (length g.blocks)) (d ∙ ap (first_row g) all ∙ first_all g) ∙ filled_all g
