-- The translated size, counted block by block; and the plan.
-- Assumes nothing.
use mathlib.Core.Path.{◌≡◌, refl, sym, ap, ◌∙◌}
use mathlib.Core.Bool.{true, false, cond}
use mathlib.Core.List.{List}
use Prim.Native.Nat.{ℕ, ◌+◌, ◌-◌, ◌*◌, ◌≤◌, ◌<◌}
use native.Mathlib.Nat.{mul-le-mul}
use native.Mathlib.Numerals.{add-one}
use native.Mathlib.Omega.{arith}
use lib.Dec.{T, leb}
use lib.ListN.{length, get_or, set, length-set}
use lib.Seq.{get_or-set_same, get_or-set_other}
use borrow.Author.Count.{below_more}
use borrow.Author.Tests.{le-leb, lt-leb}
use Rattle.language.specs.Programs.{Func, rows_at, rows_of, first_row, has_phi, max_rows, max_blocks, max_registers}
use Rattle.language.specs.Table.{register_count, block_count, block_rows, stored_predecessors, decode_function}
use Rattle.language.specs.Translating.{phis_before, pairs_before, phi_total, pair_count, size_of_edges, translated_registers, translated_blocks, translated_rows, translation_fits}
use Rattle.theorems.specs.Clean.{Clean}
use Rattle.theorems.proofs.SimulationRows.{phis_at}
use Rattle.language.proofs.TableView.{register_count_law, block_count_law, block_rows_count, stored_is}
use Rattle.theorems.proofs.Spots.{first_next}
use Rattle.flow.specs.Layout.{phis_in}
use Rattle.flow.specs.Prepared.{Prepared}
use Rattle.flow.specs.Sized.{Sized}
use Rattle.flow.proofs.LeadingLaws.{leading_phis_law}
use Rattle.translator.specs.Sizes.{sizes_of}
use Rattle.translator.specs.Source.{Planned, pairs_in}
use Rattle.translator.specs.declared.sizes.Sizes.{Sizes}
use Rattle.translator.proofs.Counting.{pairs_at, edges_at, edges_before, pairs_next, edges_next, phis_next, phis_all, pairs_all, first_all, edges_all, phis_fewer, blocks_fit, by_count}

-- ---- what is prepared, by block

module _ (t : List ℕ) (a : ℕ) (m : List ℕ) (p : Prepared (decode_function t a) m) (c : Clean (decode_function t a)) where
  abbrev f : Func
  f = decode_function t a

  pub phis_here : (y : ℕ) → y < block_count t a → phis_in m y ≡ length (phis_at f y)
  phis_here y l = p.phis y (rw (block_count_law t a) l) ∙ leading_phis_law f c y

  pub pairs_here : f.placed ≡ true → (y : ℕ) → y < block_count t a → pairs_in t a m y ≡ pairs_at f y
  pairs_here k y l =
      by_count f c y (phis_in m y) 0 (length (stored_predecessors t a y)) (phis_here y l)
      ∙ ap (λ (xs : List ℕ). cond (has_phi f y) (length xs) 0) (stored_is t a k y l)

-- ---- the sizes of the first b blocks

pub record Measured (t : List ℕ) (a n new edges rows b : ℕ) : Type 0 where
  pub within : b ≤ n
  pub phis : new ≡ phis_before (decode_function t a) b
  pub pairs : edges ≡ pairs_before (decode_function t a) b
  pub all : rows ≡ first_row (decode_function t a) b + edges_before (decode_function t a) b
  pub new_small : new ≤ 65536 * b
  pub edges_small : edges ≤ 65536 * b
  pub rows_small : rows ≤ 8589934592 * b

pub measured_none : (t : List ℕ) (a n : ℕ) → Measured t a n 0 0 0 0
unfolding phis_before pairs_before first_row edges_before
measured_none t a n =
    record { within = omega arith; phis = refl; pairs = refl; all = omega arith; new_small = omega arith; edges_small = omega arith; rows_small = omega arith }

pub product_small : (p e : ℕ) → p < 65536 → e < 65536 → e * (2 * p + 1) ≤ 8589737985
product_small p e h k = mul-le-mul {n₂ = 65535} {m₂ = 131071} (omega arith) (omega arith)

module _ (t : List ℕ) (a : ℕ) (m : List ℕ) (s : Sized t a) (q : Prepared (decode_function t a) m) (c : Clean (decode_function t a)) where
  pub measured_next : (n new edges rows b p e w : ℕ) → n ≡ block_count t a → b < n → Measured t a n new edges rows b
      → p ≡ phis_in m b → p < 65536 → e ≡ pairs_in t a m b → e < 65536 → w ≡ block_rows t a b → w < 65536
      → Measured t a n (new + p) (edges + e) (rows + (w + e * (2 * p + 1))) (b + 1)
  measured_next n new edges rows b p e w z l h ep lp ee le ew lw =
      let f = decode_function t a in
      let known : b < block_count t a = omega arith in
      let here : b < length f.blocks = rw (block_count_law t a) known in
      let P : p ≡ length (phis_at f b) = ep ∙ phis_here t a m q c b known in
      let E : e ≡ pairs_at f b = ee ∙ pairs_here t a m q c s.placed b known in
      let W : w ≡ length (rows_at f b) = ew ∙ sym (block_rows_count t a b known) in
      let X : e * (2 * p + 1) ≡ edges_at f b = rw (P, E) in
      rw (add-one b)
      (record {
        within = omega arith;
        phis = omega (arith, phis_next f b here, h.phis);
        pairs = omega (arith, pairs_next f b, h.pairs);
        all = omega (arith, first_next f b here, edges_next f b, h.all);
        new_small = omega (arith, h.new_small);
        edges_small = omega (arith, h.edges_small);
        rows_small = omega (arith, h.rows_small, product_small p e lp le);
      })

-- ---- the sizes of all blocks

module _ (t : List ℕ) (a n new edges rows b : ℕ) (z : n ≡ block_count t a) (h : Measured t a n new edges rows b) (l : n ≤ b) where
  whole : b ≡ length (decode_function t a).blocks
  whole = let e : b ≡ n = omega (arith, h.within) in e ∙ z ∙ sym (block_count_law t a)

  phis_whole : new ≡ phi_total (decode_function t a)
  phis_whole = h.phis ∙ ap (phis_before (decode_function t a)) whole ∙ phis_all (decode_function t a)

  pairs_whole : edges ≡ pair_count (decode_function t a)
  pairs_whole = h.pairs ∙ ap (pairs_before (decode_function t a)) whole ∙ pairs_all (decode_function t a)

  rows_whole : rows ≡ length (rows_of (decode_function t a)) + size_of_edges (decode_function t a)
  rows_whole =
      let f = decode_function t a in
      let x : first_row f b ≡ length (rows_of f) = ap (first_row f) whole ∙ first_all f in
      let y : edges_before f b ≡ size_of_edges f = ap (edges_before f) whole ∙ edges_all f in
      omega (arith, h.all)

  pub fewer_phis : new ≤ rows
  fewer_phis = omega (arith, phis_whole, rows_whole, phis_fewer (decode_function t a))

  pub measured_all : (r : ℕ) → r ≡ register_count t a → record { registers = r + new; blocks = n + edges; rows = rows - new } ≡ sizes_of (decode_function t a)
  unfolding sizes_of translated_registers translated_blocks translated_rows
  measured_all r e =
      let f = decode_function t a in
      let x : r + new ≡ length f.registers + phi_total f = omega (arith, phis_whole, register_count_law t a) in
      let y : n + edges ≡ length f.blocks + pair_count f = omega (arith, pairs_whole, block_count_law t a) in
      let w : rows - new ≡ length (rows_of f) - phi_total f + size_of_edges f = omega (arith, phis_whole, rows_whole, phis_fewer f) in
      rw (x, y, w)

-- ---- 31

module _ (f : Func) (s : Sizes) (e : s ≡ sizes_of f) where
  pub over_registers : 256 < s.registers → false ≡ translation_fits f
  unfolding translation_fits sizes_of
  over_registers h = let k : 256 < translated_registers f = rw e at h in rw (lt-leb (translated_registers f) max_registers k)

  pub over_blocks : s.registers ≤ max_registers → max_blocks < s.blocks → false ≡ translation_fits f
  unfolding translation_fits sizes_of
  over_blocks g h =
      let j : translated_registers f ≤ 256 = rw e at g in
      let k : 64 < translated_blocks f = rw e at h in
      rw (le-leb (translated_registers f) max_registers j, lt-leb (translated_blocks f) max_blocks k)

  pub by_rows : s.registers ≤ max_registers → s.blocks ≤ max_blocks → leb s.rows max_rows ≡ translation_fits f
  unfolding translation_fits sizes_of
  by_rows g h =
      let j : translated_registers f ≤ 256 = rw e at g in
      let k : translated_blocks f ≤ 64 = rw e at h in
      rw (le-leb (translated_registers f) max_registers j, le-leb (translated_blocks f) max_blocks k) (ap (λ x. leb x.rows max_rows) e)

  pub registers_are : s.registers ≡ translated_registers f
  unfolding sizes_of
  registers_are = ap (λ x. x.registers) e

  pub blocks_are : s.blocks ≡ translated_blocks f
  unfolding sizes_of
  blocks_are = ap (λ x. x.blocks) e

  pub blocks_few : T (translation_fits f) → s.blocks < 256
  unfolding translated_blocks
  blocks_few h = omega (arith, blocks_are, blocks_fit f h)

-- ---- the plan

-- The first y blocks are planned, and next is the number of the next edge block.
pub record Planning (f : Func) (plan : List ℕ) (next y : ℕ) : Type 0 where
  pub count : length plan ≡ max_blocks
  pub within : y ≤ length f.blocks
  pub edge : next ≡ length f.blocks + pairs_before f y
  pub first : (x : ℕ) → x < y → get_or plan x 0 ≡ length f.blocks + pairs_before f x

pub planning_none : (f : Func) (plan : List ℕ) (n : ℕ) → length plan ≡ max_blocks → n ≡ length f.blocks → Planning f plan n 0
unfolding pairs_before
planning_none f plan n l e = record { count = l; within = omega arith; edge = omega arith; first = λ x h. absurd (omega arith) }

pub planning_next : (f : Func) (plan : List ℕ) (next y e : ℕ) → Planning f plan next y → y < length f.blocks → length f.blocks ≤ max_blocks → e ≡ pairs_at f y
    → Planning f (set plan y next) (next + e) (y + 1)
planning_next f plan next y e h l few z =
    let here : get_or (set plan y next) y 0 ≡ length f.blocks + pairs_before f y = get_or-set_same plan y next 0 (omega (arith, h.count)) ∙ h.edge in
    record {
      count = simp length-set h.count;
      within = omega arith;
      edge = rw (add-one y) (omega (arith, h.edge, pairs_next f y));
      first =
          below_more (λ x. get_or (set plan y next) x 0 ≡ length f.blocks + pairs_before f x) y
          (λ x b. get_or-set_other plan y x next 0 (λ q. omega arith) ∙ h.first x b) here;
    }

pub planning_all : (f : Func) (plan : List ℕ) (next y : ℕ) → Planning f plan next y → length f.blocks ≤ y → Planned f plan
planning_all f plan next y h l = record { count = h.count; first = λ x b. h.first x (omega arith) }
