-- The parts of a table, read back: numbers, names, registers, rows and blocks, each from the cells that `cells` writes for it.
-- Assumes nothing.
use mathlib.Core.Bool.{true, false, cond, true≢false}
use mathlib.Core.Path.{◌≡◌, refl, ap, ◌∙◌}
use mathlib.Core.List.{List, [], ◌∷◌, ◌++◌, map}
use Prim.Native.Nat.{ℕ, ◌+◌, ◌*◌, ◌/◌, ◌%◌, ◌^◌, ◌≤◌, ◌<◌}
use native.Mathlib.Nat.{zero-lt-suc, mod-eq_of_lt}
use native.Mathlib.Omega.{arith}
use lib.Dec.{eqb, lit<}
use borrow.Author.Tests.{eq-eqb, ne_eqb}
use lib.ListN.{length, get_or}
use Rattle.laws.specs.Lists.{from}
use Rattle.laws.specs.Sections.{At, pad}
use Rattle.laws.proofs.Ranges.{map_from}
use Rattle.laws.proofs.Sections.{at_move, at_left, at_right, at_cell, at_pad}
use Rattle.language.specs.Instructions.{Form, form_of, phi_op}
use Rattle.language.specs.Programs.{Row, Register, entries_of, named_by, op_of, form_in, is_phi, max_name}
use Rattle.language.specs.Table.{two, four, eight, two_bytes, four_bytes, eight_bytes, name_cells, register_cells, predecessor_cells, BlockRecord, block_cells, row_cells}
use Rattle.language.specs.Table.{decode_register, decode_row, decode_as, decode_block, register_type, register_name, block_first, block_rows}
use Rattle.language.specs.Table.{block_name, row_entries, row_op, row_target, row_left, row_right, load_number, jump_first, jump_second, phi_first}
use Rattle.language.specs.Table.{phi_count, phi_entry, block_length, block_names_offset, blocks_offset, entries_offset, predecessors_offset, register_length, registers_offset, row_length, rows_offset}
use Rattle.language.proofs.TableLaws.{length_name, name_back}
use Rattle.theorems.specs.TableLaw.{RowFits, loaded_number}

-- ---- the cells of a row

pub length_row : (n : ℕ) (row : Row) → length (row_cells n row) ≡ row_length
unfolding pad row_cells
length_row n Row.nop = refl
length_row n (Row.load op t x) = refl
length_row n (Row.unary op t s) = refl
length_row n (Row.binary op t l r) = refl
length_row n (Row.phi t es) = refl
length_row n (Row.jump b) = refl
length_row n (Row.branch s x y) = refl
length_row n (Row.return s) = refl
length_row n Row.leave = refl
length_row n (Row.unknown op) = refl

first_cell : (n : ℕ) (row : Row) → get_or (row_cells n row) 0 0 ≡ op_of row
unfolding pad row_cells
first_cell n Row.nop = refl
first_cell n (Row.load op t x) = refl
first_cell n (Row.unary op t s) = refl
first_cell n (Row.binary op t l r) = refl
first_cell n (Row.phi t es) = refl
first_cell n (Row.jump b) = refl
first_cell n (Row.branch s x y) = refl
first_cell n (Row.return s) = refl
first_cell n Row.leave = refl
first_cell n (Row.unknown op) = refl

-- a row is a phi, or has no entries
pub by_phi : (P : Row → Type 0) → ((u : ℕ) (es : List ℕ) → P (Row.phi u es)) → ((row : Row) → is_phi row ≡ false → entries_of row ≡ [] → P row)
    → (row : Row) → P row
by_phi P p q Row.nop = q Row.nop refl refl
by_phi P p q (Row.load op t x) = q (Row.load op t x) refl refl
by_phi P p q (Row.unary op t s) = q (Row.unary op t s) refl refl
by_phi P p q (Row.binary op t l r) = q (Row.binary op t l r) refl refl
by_phi P p q (Row.phi t es) = p t es
by_phi P p q (Row.jump b) = q (Row.jump b) refl refl
by_phi P p q (Row.branch s x y) = q (Row.branch s x y) refl refl
by_phi P p q (Row.return s) = q (Row.return s) refl refl
by_phi P p q Row.leave = q Row.leave refl refl
by_phi P p q (Row.unknown op) = q (Row.unknown op) refl refl

-- only phi has phi's number
not_phi : (op : ℕ) → (form_of op ≡ Form.phi → true ≡ false) → eqb op phi_op ≡ false
unfolding form_of
not_phi op h = ne_eqb op phi_op (λ e. true≢false (h (ap form_of e)))

phi_op_law : (row : Row) → form_of (op_of row) ≡ form_in row → eqb (op_of row) phi_op ≡ is_phi row
phi_op_law Row.nop f = refl
phi_op_law (Row.load op t x) f = not_phi op (λ q. cc)
phi_op_law (Row.unary op t s) f = not_phi op (λ q. cc)
phi_op_law (Row.binary op t l r) f = not_phi op (λ q. cc)
phi_op_law (Row.phi t es) f = refl
phi_op_law (Row.jump b) f = refl
phi_op_law (Row.branch s x y) f = refl
phi_op_law (Row.return s) f = refl
phi_op_law Row.leave f = refl
phi_op_law (Row.unknown op) f = not_phi op (λ q. cc)

module _ {t : List ℕ} where
  -- ---- numbers

  pub two_back : {k : ℕ} (n : ℕ) → At t k (two_bytes n) → {m : ℕ} → m ≡ k → two t m ≡ n % 65536
  two_back {k} n h {m} e =
      let low : get_or t m 0 ≡ n % 256 = at_cell 0 h 0 (lit< tt) (omega arith) in
      let high : get_or t (m + 1) 0 ≡ n / 256 % 256 = at_cell 0 h 1 (lit< tt) (omega arith) in
      omega arith

  pub four_back : {k : ℕ} (n : ℕ) → At t k (four_bytes n) → {m : ℕ} → m ≡ k → four t m ≡ n % 4294967296
  four_back {k} n h {m} e =
      let low : two t m ≡ n % 65536 = two_back n (at_left (two_bytes n) (two_bytes (n / 65536)) h) e in
      let high : two t (m + 2) ≡ n / 65536 % 65536 = two_back (n / 65536) (at_right (two_bytes n) (two_bytes (n / 65536)) h) (omega arith) in
      omega arith

  pub eight_back : {k : ℕ} (n : ℕ) → At t k (eight_bytes n) → {m : ℕ} → m ≡ k → eight t m ≡ n % 2 ^ 64
  eight_back {k} n h {m} e =
      let low : four t m ≡ n % 4294967296 = four_back n (at_left (four_bytes n) (four_bytes (n / 4294967296)) h) e in
      let high : four t (m + 4) ≡ n / 4294967296 % 4294967296 = four_back (n / 4294967296) (at_right (four_bytes n) (four_bytes (n / 4294967296)) h) (omega arith) in
      omega arith

module _ {t : List ℕ} (a : ℕ) where
  pub register_back : {k : ℕ} (r : Register) (i : ℕ) → At t k (register_cells r) → k ≡ a + registers_offset + register_length * i → decode_register t a i ≡ r
  unfolding register_cells decode_register
  register_back r i h e =
      let type : register_type t a i ≡ r.type = at_cell 0 h 0 (zero-lt-suc (length (name_cells r.name))) (omega arith) in
      let name : register_name t a i ≡ r.name = name_back r.name (at_right (r.type ∷ []) (name_cells r.name) h) (omega arith) in
      λ j. record { type = type j; name = name j }

  -- ---- rows

  pub entries_back : {k : ℕ} (n : ℕ) (es : List ℕ) → At t k es → k ≡ a + entries_offset + n → map (phi_entry t a) (from n (length es)) ≡ es
  entries_back n es h e = map_from (phi_entry t a) 0 n es (λ i b. at_cell 0 h i b (omega arith))

  module _ {k : ℕ} (n : ℕ) (row : Row) (r : ℕ) (h : At t k (row_cells n row)) (e : k ≡ a + rows_offset + row_length * r) where
    row_cell : (j : ℕ) → j < row_length → {m : ℕ} → m ≡ k + j → get_or t m 0 ≡ get_or (row_cells n row) j 0
    row_cell j b d = at_cell 0 h j (rw (length_row n row) b) d

    pub op_back : row_op t a r ≡ op_of row
    op_back = row_cell 0 (lit< tt) (omega arith) ∙ first_cell n row

  module _ {k : ℕ} (n u : ℕ) (es : List ℕ) (r : ℕ) (h : At t k (row_cells n (Row.phi u es))) (e : k ≡ a + rows_offset + row_length * r) where
    positions : At t (k + 4) (two_bytes n ++ two_bytes (length es))
    unfolding row_cells
    positions =
        let all : List ℕ = 31 ∷ u ∷ 0 ∷ 0 ∷ (two_bytes n ++ two_bytes (length es)) in
        at_right (phi_op ∷ u ∷ 0 ∷ 0 ∷ []) (two_bytes n ++ two_bytes (length es)) (at_pad row_length all h)

    pub phi_first_back : n < 65536 → phi_first t a r ≡ n
    phi_first_back b = two_back n (at_left (two_bytes n) (two_bytes (length es)) positions) (omega arith) ∙ mod-eq_of_lt b

    pub phi_count_back : length es < 65536 → phi_count t a r ≡ length es
    phi_count_back b = two_back (length es) (at_right (two_bytes n) (two_bytes (length es)) positions) (omega arith) ∙ mod-eq_of_lt b

  -- each form reads the cells that it writes
  as_back : {k l : ℕ} (n : ℕ) (row : Row) (r : ℕ) → At t k (row_cells n row) → k ≡ a + rows_offset + row_length * r → loaded_number row < 2 ^ 64
      → At t l (entries_of row) → l ≡ a + entries_offset + n → n < 65536 → length (entries_of row) < 65536 → decode_as (form_in row) t a r ≡ row
  unfolding pad row_cells decode_as
  as_back n Row.nop r h e x g d b c = refl
  as_back {k} n (Row.load op u y) r h e x g d b c =
      let o : row_op t a r ≡ op = op_back n (Row.load op u y) r h e in
      let target : row_target t a r ≡ u = row_cell n (Row.load op u y) r h e 1 (lit< tt) (omega arith) in
      let number : load_number t a r ≡ y = eight_back y (at_right (op ∷ u ∷ 0 ∷ 0 ∷ []) (eight_bytes y) h) (omega arith) ∙ mod-eq_of_lt x in
      cc
  as_back {k} n (Row.unary op u s) r h e x g d b c =
      let o : row_op t a r ≡ op = op_back n (Row.unary op u s) r h e in
      let target : row_target t a r ≡ u = row_cell n (Row.unary op u s) r h e 1 (lit< tt) (omega arith) in
      let source : row_left t a r ≡ s = row_cell n (Row.unary op u s) r h e 2 (lit< tt) (omega arith) in
      cc
  as_back {k} n (Row.binary op u s v) r h e x g d b c =
      let o : row_op t a r ≡ op = op_back n (Row.binary op u s v) r h e in
      let target : row_target t a r ≡ u = row_cell n (Row.binary op u s v) r h e 1 (lit< tt) (omega arith) in
      let left : row_left t a r ≡ s = row_cell n (Row.binary op u s v) r h e 2 (lit< tt) (omega arith) in
      let right : row_right t a r ≡ v = row_cell n (Row.binary op u s v) r h e 3 (lit< tt) (omega arith) in
      cc
  as_back {k} n (Row.phi u es) r h e x g d b c =
      let target : row_target t a r ≡ u = row_cell n (Row.phi u es) r h e 1 (lit< tt) (omega arith) in
      let entries : map (phi_entry t a) (from (phi_first t a r) (phi_count t a r)) ≡ es =
      rw (phi_first_back n u es r h e b, phi_count_back n u es r h e c) (entries_back n es g d) in
      cc
  as_back {k} n (Row.jump x) r h e y g d b c =
      let first : jump_first t a r ≡ x = row_cell n (Row.jump x) r h e 4 (lit< tt) (omega arith) in
      cc
  as_back {k} n (Row.branch s x y) r h e z g d b c =
      let source : row_left t a r ≡ s = row_cell n (Row.branch s x y) r h e 2 (lit< tt) (omega arith) in
      let first : jump_first t a r ≡ x = row_cell n (Row.branch s x y) r h e 4 (lit< tt) (omega arith) in
      let second : jump_second t a r ≡ y = row_cell n (Row.branch s x y) r h e 5 (lit< tt) (omega arith) in
      cc
  as_back {k} n (Row.return s) r h e x g d b c =
      let source : row_left t a r ≡ s = row_cell n (Row.return s) r h e 2 (lit< tt) (omega arith) in
      cc
  as_back n Row.leave r h e x g d b c = refl
  as_back {k} n (Row.unknown op) r h e x g d b c = ap Row.unknown (op_back n (Row.unknown op) r h e)

  -- the blocks that a row names, which no other of its numbers tells
  named_as : {k : ℕ} (n : ℕ) (row : Row) (r : ℕ) → At t k (row_cells n row) → k ≡ a + rows_offset + row_length * r
      → named_by (decode_as (form_in row) t a r) ≡ named_by row
  unfolding pad row_cells decode_as
  named_as n Row.nop r h e = refl
  named_as n (Row.load op u y) r h e = refl
  named_as n (Row.unary op u s) r h e = refl
  named_as n (Row.binary op u s v) r h e = refl
  named_as n (Row.phi u es) r h e = refl
  named_as {k} n (Row.jump x) r h e =
      let first : jump_first t a r ≡ x = row_cell n (Row.jump x) r h e 4 (lit< tt) (omega arith) in
      cc
  named_as {k} n (Row.branch s x y) r h e =
      let first : jump_first t a r ≡ x = row_cell n (Row.branch s x y) r h e 4 (lit< tt) (omega arith) in
      let second : jump_second t a r ≡ y = row_cell n (Row.branch s x y) r h e 5 (lit< tt) (omega arith) in
      cc
  named_as n (Row.return s) r h e = refl
  named_as n Row.leave r h e = refl
  named_as n (Row.unknown op) r h e = refl

  pub named_back : {k : ℕ} (n : ℕ) (row : Row) (r : ℕ) → form_of (op_of row) ≡ form_in row → At t k (row_cells n row) → k ≡ a + rows_offset + row_length * r
      → named_by (decode_row t a r) ≡ named_by row
  unfolding decode_row
  named_back n row r f h e =
      ap (λ o. named_by (decode_as (form_of o) t a r)) (op_back n row r h e) ∙ ap (λ o. named_by (decode_as o t a r)) f ∙ named_as n row r h e

  pub row_back : {k l : ℕ} (n : ℕ) (row : Row) (r : ℕ) → RowFits row → At t k (row_cells n row) → k ≡ a + rows_offset + row_length * r
      → At t l (entries_of row) → l ≡ a + entries_offset + n → n < 65536 → length (entries_of row) < 65536 → decode_row t a r ≡ row
  unfolding decode_row
  row_back n row r f h e g d b c =
      ap (λ o. decode_as (form_of o) t a r) (op_back n row r h e) ∙ ap (λ o. decode_as o t a r) f.form ∙ as_back n row r h e f.number g d b c

  pub row_entries_back : {k : ℕ} (n : ℕ) (row : Row) (r : ℕ) → form_of (op_of row) ≡ form_in row → At t k (row_cells n row) → k ≡ a + rows_offset + row_length * r
      → length (entries_of row) < 65536 → row_entries t a r ≡ length (entries_of row)
  row_entries_back {k} n row r f h e c =
      rw (op_back n row r h e, phi_op_law row f)
      (by_phi (λ row. At t k (row_cells n row) → length (entries_of row) < 65536 → cond (is_phi row) (phi_count t a r) 0 ≡ length (entries_of row))
      (λ u es h c. phi_count_back n u es r h e c)
      (λ row p q h c. rw (p, q))
      row h c)

  pub phi_placed_back : {k : ℕ} (n : ℕ) (row : Row) (r : ℕ) → form_of (op_of row) ≡ form_in row → At t k (row_cells n row) → k ≡ a + rows_offset + row_length * r
      → n < 65536 → cond (eqb (row_op t a r) phi_op) (eqb (phi_first t a r) n) true ≡ true
  phi_placed_back {k} n row r f h e c =
      rw (op_back n row r h e, phi_op_law row f)
      (by_phi (λ row. At t k (row_cells n row) → cond (is_phi row) (eqb (phi_first t a r) n) true ≡ true)
      (λ u es h. eq-eqb (phi_first t a r) n (phi_first_back n u es r h e c))
      (λ row p q h. rw p)
      row h)

  -- ---- blocks

  module _ {k : ℕ} (n : ℕ) (b : BlockRecord) (i : ℕ) (h : At t k (block_cells n b)) (e : k ≡ a + blocks_offset + block_length * i) where
    abbrev count : List ℕ
    count = two_bytes (length b.block.rows)

    abbrev behind_rows : List ℕ
    behind_rows = name_cells b.block.name ++ predecessor_cells b.list

    from_count : At t (k + 2) (count ++ behind_rows)
    unfolding block_cells
    from_count = at_right (two_bytes n) (count ++ behind_rows) h

    from_name : At t (k + 2 + 2) behind_rows
    from_name = at_right count behind_rows from_count

    pub block_first_back : n < 65536 → block_first t a i ≡ n
    unfolding block_cells
    block_first_back c = two_back n (at_left (two_bytes n) (count ++ behind_rows) h) (omega arith) ∙ mod-eq_of_lt c

    pub block_rows_back : length b.block.rows < 65536 → block_rows t a i ≡ length b.block.rows
    block_rows_back c = two_back (length b.block.rows) (at_left count behind_rows from_count) (omega arith) ∙ mod-eq_of_lt c

    pub block_name_at : At t (a + block_names_offset + block_length * i) (name_cells b.block.name)
    block_name_at = at_move (omega arith) (at_left (name_cells b.block.name) (predecessor_cells b.list) from_name)

    pub block_list_at : length b.block.name ≤ max_name → At t (a + predecessors_offset + block_length * i) (predecessor_cells b.list)
    block_list_at c =
        at_move (omega (arith, length_name b.block.name c)) (at_right (name_cells b.block.name) (predecessor_cells b.list) from_name)

    pub block_back : n < 65536 → length b.block.rows < 65536
        → ((j : ℕ) → j < length b.block.rows → decode_row t a (n + j) ≡ get_or b.block.rows j Row.nop) → decode_block t a i ≡ b.block
    unfolding decode_block
    block_back c d g =
        let name : block_name t a i ≡ b.block.name = name_back b.block.name block_name_at refl in
        let rows : map (decode_row t a) (from (block_first t a i) (block_rows t a i)) ≡ b.block.rows =
        rw (block_first_back c, block_rows_back d) (map_from (decode_row t a) Row.nop n b.block.rows g) in
        λ j. record { name = name j; rows = rows j }
