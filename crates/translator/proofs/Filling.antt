-- A table of one function while it is put down: each item is one store at its place.
-- Assumes nothing.
use mathlib.Core.Path.{◌≡◌, refl, sym, ap, ◌∙◌}
use mathlib.Core.List.{List, [], ◌∷◌, ◌++◌, map, append-nil}
use Prim.Native.Nat.{ℕ, suc, ◌+◌, ◌-◌, ◌*◌, ◌≤◌, ◌<◌}
use native.Mathlib.Nat.{mul-le-mul_left, mul-suc}
use native.Mathlib.Omega.{arith}
use lib.ListN.{length, get_or, take, replicate, length-append, length-replicate, replicate-append-replicate}
use lib.Seq.{take-suc, take-length, get_or-take, length-take-le}
use Rattle.laws.specs.Lists.{gather, sum}
use Rattle.laws.specs.Sections.{pad, gather_from}
use Rattle.laws.proofs.Appending.{gather_from_append}
use Rattle.laws.proofs.Sections.{length_pad, length_gather_from, gather_is_from}
use Rattle.laws.proofs.Storing.{Stored, pad_is, pad_zeros, pad_stored, stored_left, stored_right, stored_pad}
use Rattle.language.specs.Answers.{zeros}
use Rattle.language.specs.Programs.{Row, Block, Func, no_register, no_block, block_at, entries_of, rows_of, first_row, max_blocks, max_entries}
use Rattle.language.specs.Table.{head_cells, register_cells, row_cells, entry_section, function_cells, register_section, row_section, cells_listing, predecessor_lists, cells, block_count, InTable}
use Rattle.language.specs.Table.{block_length, blocks_length, blocks_offset, function_at, function_length, functions_length, registers_length, row_length, rows_length, rows_offset, table_length}
use Rattle.language.specs.Table.{register_length, registers_offset}
use Rattle.theorems.specs.TableLaw.{Laid, ListsFit}
use Rattle.theorems.proofs.TableParts.{length_row}
use Rattle.theorems.proofs.TableFunction.{length_head, length_entries, registers_stride, length_listing, lists_fit, block_count_at}
use Rattle.predecessors.specs.Listing.{FunctionStands, no_lists, bare_cells}
use Rattle.predecessors.proofs.BareLaws.{bare_section, length_bare}
use Rattle.predecessors.proofs.ListingLaws.{before_fit, stands_at, stands_within}
use Rattle.translator.specs.Filling.{filled, unlisted}

-- ---- a section of items of w cells each, the first i of them put down

module _ {A : Type 0} (n : ℕ) (size : A → ℕ) (f : ℕ → A → List ℕ) (w : ℕ) (d : A) (xs : List A) (stride : (m i : ℕ) → i < length xs → length (f m (get_or xs i d)) ≡ w) where
  pub length_first : (i : ℕ) → i ≤ length xs → length (gather_from size f 0 (take i xs)) ≡ w * i
  length_first i h =
      let count : length (take i xs) ≡ i = length-take-le i xs h in
      length_gather_from size f w d 0 (take i xs) (λ m j c. let l : j < i = omega arith in rw (get_or-take i xs j d l) (stride m j (omega arith)))
      ∙ ap (λ (k : ℕ). w * k) count

  module _ (room : w * length xs ≤ n) where
    pub length_section : (i : ℕ) → i ≤ length xs → length (pad n (gather_from size f 0 (take i xs))) ≡ n
    length_section i h = length_pad n (gather_from size f 0 (take i xs)) (omega (arith, length_first i h, mul-le-mul_left w h))

    -- zeros at an item's end need no store
    pub section_grows : (i : ℕ) → i < length xs → (vs : List ℕ) (z : ℕ) → f (0 + sum (map size (take i xs))) (get_or xs i d) ≡ vs ++ replicate z 0
        → Stored (pad n (gather_from size f 0 (take i xs))) (w * i) vs (pad n (gather_from size f 0 (take (suc i) xs)))
    section_grows i b vs z e =
        let k : ℕ = 0 + sum (map size (take i xs)) in
        let len : length vs + z ≡ w = sym (ap length e ∙ simp (length-append, length-replicate)) ∙ stride k i b in
        let most : w * suc i ≤ w * length xs = mul-le-mul_left w b in
        rw (take-suc xs i d b, gather_from_append size f 0 (take i xs) (get_or xs i d ∷ []), append-nil, e)
        (pad_stored n (gather_from size f 0 (take i xs)) 0 vs z
        (omega (arith, length_first i (omega arith), mul-suc w i))
        (omega (arith, length_first i (omega arith))))

-- ---- a store in a section is a store in the table

unfoldable table_of : (h r b w e : List ℕ) → List ℕ
table_of h r b w e = 1 ∷ pad functions_length (h ++ (r ++ (b ++ (w ++ e))))

record Lengths (h r b w e : List ℕ) : Type 0 where
  pub head : length h ≡ registers_offset
  pub registers : length r ≡ registers_length
  pub blocks : length b ≡ blocks_length
  pub rows : length w ≡ rows_length
  pub entries : length e ≡ max_entries

module _ {h r b w e : List ℕ} (l : Lengths h r b w e) where
  length_table : length (table_of h r b w e) ≡ table_length
  unfolding table_of
  length_table = ap suc (length_pad functions_length (h ++ (r ++ (b ++ (w ++ e)))) (simp length-append (omega (arith, l))))

  in_cells : {k : ℕ} {vs c : List ℕ} → Stored (h ++ (r ++ (b ++ (w ++ e)))) k vs c → k + length vs ≤ function_length → {m : ℕ} → m ≡ 1 + k
      → Stored (table_of h r b w e) m vs (1 ∷ pad functions_length c)
  unfolding table_of
  in_cells s f p = stored_right (stored_pad s functions_length (simp length-append (omega (arith, l)))) (1 ∷ []) p

  module _ {k : ℕ} {vs x : List ℕ} {m : ℕ} where
    in_registers : Stored r k vs x → k + length vs ≤ registers_length → m ≡ function_at 0 + registers_offset + k → Stored (table_of h r b w e) m vs (table_of h x b w e)
    unfolding table_of
    in_registers s f p = in_cells (stored_right (stored_left s (b ++ (w ++ e)) (omega (arith, l))) h refl) (omega (arith, l)) (omega (arith, l))

    in_blocks : Stored b k vs x → k + length vs ≤ blocks_length → m ≡ function_at 0 + blocks_offset + k → Stored (table_of h r b w e) m vs (table_of h r x w e)
    unfolding table_of
    in_blocks s f p = in_cells (stored_right (stored_right (stored_left s (w ++ e) (omega (arith, l))) r refl) h refl) (omega (arith, l)) (omega (arith, l))

    in_rows_law : Stored w k vs x → k + length vs ≤ rows_length → m ≡ function_at 0 + rows_offset + k → Stored (table_of h r b w e) m vs (table_of h r b x e)
    unfolding table_of
    in_rows_law s f p =
        in_cells (stored_right (stored_right (stored_right (stored_left s e (omega (arith, l))) b refl) r refl) h refl) (omega (arith, l)) (omega (arith, l))

-- ---- one more item

abbrev height : Block → ℕ
height b = length b.rows

abbrev entries : Row → ℕ
entries r = length (entries_of r)

-- of the cells of an item, those that are stored
short : {xs : List ℕ} (vs : List ℕ) (z w : ℕ) → xs ≡ vs ++ replicate z 0 → length xs ≡ w → length vs ≤ w
short vs z w e l = let n : length vs + z ≡ w = sym (ap length e ∙ simp (length-append, length-replicate)) ∙ l in omega arith

module _ (g : Func) (laid : Laid g) where
  row_stride : (m i : ℕ) → i < length (rows_of g) → length (row_cells m (get_or (rows_of g) i Row.nop)) ≡ row_length
  row_stride m i b = length_row m (get_or (rows_of g) i Row.nop)

  block_stride : (m i : ℕ) → i < length g.blocks → length (bare_cells m (block_at g i)) ≡ block_length
  block_stride m i b = length_bare m (block_at g i) (laid.block_names i b)

  abbrev registers_first : ℕ → List ℕ
  registers_first i = pad registers_length (gather_from (λ x. 0) (λ m. register_cells) 0 (take i g.registers))

  abbrev blocks_first : ℕ → List ℕ
  blocks_first j = pad blocks_length (gather_from height bare_cells 0 (take j g.blocks))

  abbrev rows_first : ℕ → List ℕ
  rows_first k = pad rows_length (gather_from entries row_cells 0 (take k (rows_of g)))

  sections : (i j k : ℕ) → filled g i j k ≡ table_of (head_cells g) (registers_first i) (blocks_first j) (rows_first k) (entry_section g)
  unfolding filled table_of
  sections i j k = rw (gather_is_from register_cells 0 (take i g.registers))

  registers_room : register_length * length g.registers ≤ registers_length
  registers_room = omega (arith, laid.register_count)

  blocks_room : block_length * length g.blocks ≤ blocks_length
  blocks_room = omega (arith, laid.block_count)

  rows_room : row_length * length (rows_of g) ≤ rows_length
  rows_room = omega (arith, laid.row_count)

  module _ (i j k : ℕ) (hi : i ≤ length g.registers) (hj : j ≤ length g.blocks) (hk : k ≤ length (rows_of g)) where
    lengths : Lengths (head_cells g) (registers_first i) (blocks_first j) (rows_first k) (entry_section g)
    lengths =
        record {
          head = length_head g laid;
          registers = length_section registers_length (λ x. 0) (λ m. register_cells) register_length no_register g.registers (registers_stride g laid) registers_room i hi;
          blocks = length_section blocks_length height bare_cells block_length no_block g.blocks block_stride blocks_room j hj;
          rows = length_section rows_length entries row_cells row_length Row.nop (rows_of g) row_stride rows_room k hk;
          entries = length_entries g laid;
        }

    pub length_filled : length (filled g i j k) ≡ table_length
    length_filled = rw (sections i j k) (length_table lengths)

    module _ (vs : List ℕ) (z : ℕ) where
      pub register_stored : i < length g.registers → register_cells (get_or g.registers i no_register) ≡ vs ++ replicate z 0
          → Stored (filled g i j k) (function_at 0 + registers_offset + register_length * i) vs (filled g (suc i) j k)
      register_stored b e =
          rw (sections i j k, sections (suc i) j k)
          (in_registers lengths (section_grows registers_length (λ x. 0) (λ m. register_cells) register_length no_register g.registers (registers_stride g laid) registers_room i b vs z e)
          (omega (arith, short vs z register_length e (registers_stride g laid 0 i b), registers_room)) refl)

      pub block_stored : j < length g.blocks → bare_cells (0 + first_row g j) (block_at g j) ≡ vs ++ replicate z 0
          → Stored (filled g i j k) (function_at 0 + blocks_offset + block_length * j) vs (filled g i (suc j) k)
      unfolding first_row
      block_stored b e =
          rw (sections i j k, sections i (suc j) k)
          (in_blocks lengths (section_grows blocks_length height bare_cells block_length no_block g.blocks block_stride blocks_room j b vs z e)
          (omega (arith, short vs z block_length e (block_stride (0 + first_row g j) j b), blocks_room)) refl)

      pub row_stored : k < length (rows_of g) → row_cells (0 + sum (map entries (take k (rows_of g)))) (get_or (rows_of g) k Row.nop) ≡ vs ++ replicate z 0
          → Stored (filled g i j k) (function_at 0 + rows_offset + row_length * k) vs (filled g i j (suc k))
      row_stored b e =
          rw (sections i j k, sections i j (suc k))
          (in_rows_law lengths (section_grows rows_length entries row_cells row_length Row.nop (rows_of g) row_stride rows_room k b vs z e)
          (omega (arith, short vs z row_length e (row_stride (0 + sum (map entries (take k (rows_of g)))) k b), rows_room)) refl)

-- ---- all of it, and none of it

pub filled_all : (g : Func) → filled g (length g.registers) (length g.blocks) (length (rows_of g)) ≡ unlisted g
unfolding filled unlisted cells_listing register_section row_section
filled_all g = rw (take-length g.registers, take-length g.blocks, take-length (rows_of g), bare_section g)

-- then the lists, between the function count and the cells of no function
module _ (g : Func) (laid : Laid g) where
  abbrev behind : List ℕ
  behind = replicate (functions_length - length (cells_listing (no_lists g) g)) 0

  none_fit : ListsFit (no_lists g) g
  none_fit = before_fit g 0 (omega arith)

  stands : (lists : List (List ℕ)) → ListsFit lists g → FunctionStands (1 ∷ pad functions_length (cells_listing lists g)) 1 lists g (1 ∷ []) behind
  stands lists fit =
      record {
        laid = laid;
        place = refl;
        cells =
            ap (λ (r : List ℕ). 1 ∷ r)
            (pad_is functions_length (cells_listing lists g) (functions_length - length (cells_listing (no_lists g) g))
            (omega (arith, length_listing g laid lists fit, length_listing g laid (no_lists g) none_fit)));
      }

  module _ {out : List ℕ} (o : out ≡ unlisted g) where
    bare : FunctionStands out 1 (no_lists g) g (1 ∷ []) behind
    unfolding unlisted
    bare = rw o (stands (no_lists g) none_fit)

    pub unlisted_within : (InTable out 1) × (block_count out 1 ≤ max_blocks)
    unlisted_within =
        (stands_within bare none_fit, omega (arith, block_count_at g laid (no_lists g) none_fit 1 (stands_at bare none_fit), laid.block_count))

    pub lists_put : {next : List ℕ}
        → ((f : Func) (before rest : List ℕ) → FunctionStands out 1 (no_lists f) f before rest → FunctionStands next 1 (predecessor_lists f) f before rest) → next ≡ cells (g ∷ [])
    unfolding cells function_cells
    lists_put put =
        (put g (1 ∷ []) behind bare).cells ∙ sym (stands (predecessor_lists g) (lists_fit g laid)).cells
        ∙ ap (λ (r : List ℕ). 1 ∷ pad functions_length r) (sym (append-nil (function_cells g)))

zeros_pad : (n : ℕ) → zeros n ≡ pad n []
unfolding zeros
zeros_pad n = sym (pad_is n [] n (omega arith))

no_sections : (n : ℕ) (xs : List ℕ) (a b c d : ℕ) → length xs + (a + (b + (c + d))) ≤ n
    → pad n (xs ++ (pad a [] ++ (pad b [] ++ (pad c [] ++ pad d [])))) ≡ pad n xs
no_sections n xs a b c d h =
    let z : (k : ℕ) → pad k [] ≡ replicate k 0 = λ k. pad_is k [] k (omega arith) in
    simp (z, replicate-append-replicate) (pad_zeros n xs (a + (b + (c + d))) h)

pad_cons : (n x : ℕ) (xs : List ℕ) → length xs ≤ n → pad (suc n) (x ∷ xs) ≡ x ∷ pad n xs
pad_cons n x xs h =
    let k : ℕ = n - length xs in
    pad_is (suc n) (x ∷ xs) k (omega arith) ∙ ap (λ (r : List ℕ). x ∷ r) (sym (pad_is n xs k (omega arith)))

module _ (g : Func) (laid : Laid g) (none : gather entries_of (rows_of g) ≡ []) where
  filled_head : filled g 0 0 0 ≡ pad table_length (1 ∷ head_cells g)
  unfolding filled entry_section
  filled_head =
      let short : length (head_cells g) ≤ functions_length = omega (arith, length_head g laid) in
      rw none
      (ap (λ (r : List ℕ). 1 ∷ r) (no_sections functions_length (head_cells g) registers_length blocks_length rows_length max_entries (omega (arith, length_head g laid)))
      ∙ sym (pad_cons functions_length 1 (head_cells g) short))

  -- the head goes to a table that is all zero
  pub head_stored : (vs : List ℕ) (z : ℕ) → head_cells g ≡ vs ++ replicate z 0 → Stored (zeros table_length) 0 (1 ∷ vs) (filled g 0 0 0)
  head_stored vs z e =
      let n : length vs + z ≡ registers_offset = sym (ap length e ∙ simp (length-append, length-replicate)) ∙ length_head g laid in
      rw (filled_head, e, zeros_pad table_length) (pad_stored table_length [] 0 (1 ∷ vs) z (omega arith) (omega arith))
