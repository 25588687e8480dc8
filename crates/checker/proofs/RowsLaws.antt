-- Blocks and rows tested one after the other: what has been passed, and what the whole is at the first that fails.
-- Assumes nothing.
use mathlib.Core.Bool.{Bool, true, false, cond, and-false}
use mathlib.Core.Path.{◌≡◌, refl, sym, ap, ◌∙◌}
use mathlib.Core.List.{List}
use Prim.Native.Nat.{ℕ, suc, ◌+◌, ◌≤◌, ◌<◌}
use native.Mathlib.Numerals.{add-one}
use native.Mathlib.Omega.{arith}
use lib.Dec.{eqb}
use borrow.Author.Tests.{eq-eqb, ne_eqb, le-leb, lt-leb, eqb-true, eqb-false}
use borrow.Author.Count.{below_none, below_more}
use Rattle.laws.proofs.Ranges.{all_below, all_below_not}
use Rattle.laws.proofs.Sums.{sum_below_le}
use Rattle.laws.proofs.OneMore.{sum_below_suc}
use Rattle.language.specs.Table.{block_count, block_first, block_rows, rows_before, row_count, row_op, phi_first, phi_count, row_entries, entries_before, blocks_placed, phis_placed, decode_row, decode_function}
use Rattle.language.specs.Checking.{in_range}
use Rattle.language.specs.Instructions.{phi_op}
use Rattle.checker.specs.Parts.{blocks_right, placed_rows, entries_after, rows_right}
use Rattle.language.specs.Programs.{max_rows, max_entries}

module _ (t : List ℕ) (a : ℕ) where
  -- ---- blocks

  -- The first b blocks are in sequence and have n rows.
  pub record Blocks (b n : ℕ) : Type 0 where
    pub upto : b ≤ block_count t a
    pub rows : n ≡ rows_before t a b
    pub few : n ≤ max_rows
    pub firsts : (j : ℕ) → j < b → eqb (block_first t a j) (rows_before t a j) ≡ true

  pub no_blocks : Blocks 0 0
  no_blocks = record { upto = omega arith; rows = refl; few = omega arith; firsts = below_none _ }

  module _ {b n : ℕ} (h : Blocks b n) (l : b < block_count t a) where
    pub block_misplaced : (block_first t a b ≡ n → ⊥) → suc max_rows ≡ placed_rows t a
    unfolding placed_rows blocks_right blocks_placed
    block_misplaced w =
        rw
        (all_below_not (λ b. eqb (block_first t a b) (rows_before t a b)) (block_count t a) b l
        (ne_eqb (block_first t a b) (rows_before t a b) (λ e. w (e ∙ sym h.rows))))

    pub rows_too_many : max_rows < n + block_rows t a b → suc max_rows ≡ placed_rows t a
    unfolding placed_rows blocks_right
    rows_too_many w =
        rw (lt-leb (row_count t a) max_rows (omega (arith, h.rows, sum_below_le (block_rows t a) b (block_count t a) l)), and-false)

    pub block_more : block_first t a b ≡ n → n + block_rows t a b ≤ max_rows → Blocks (b + 1) (n + block_rows t a b)
    block_more e w =
        record {
          upto = omega arith;
          rows = ap (λ m. m + block_rows t a b) h.rows ∙ sym (sum_below_suc (block_rows t a) b) ∙ ap (rows_before t a) (sym (add-one b));
          few = w;
          firsts = below_more _ _ h.firsts (eq-eqb (block_first t a b) (rows_before t a b) (e ∙ h.rows));
        }

  pub blocks_placed_law : {b n : ℕ} → Blocks b n → block_count t a ≤ b → n ≡ placed_rows t a
  unfolding placed_rows blocks_right blocks_placed
  blocks_placed_law {b} {n} h l =
      let same : b ≡ block_count t a = omega (arith, h.upto) in
      let count : n ≡ row_count t a = h.rows ∙ ap (rows_before t a) same in
      rw
      (all_below (λ b. eqb (block_first t a b) (rows_before t a b)) (block_count t a) (λ j c. h.firsts j (omega arith)), le-leb (row_count t a) max_rows (omega (arith, h.few)))
      count

  -- ---- phi entries

  module _ (k n : ℕ) {op : ℕ} (o : op ≡ row_op t a k) where
    pub no_phi_law : (op ≡ phi_op → ⊥) → n ≡ entries_after t a k n
    unfolding entries_after
    no_phi_law h = rw (ne_eqb (row_op t a k) phi_op (λ e. h (o ∙ e)))

    module _ (is : op ≡ phi_op) {first : ℕ} (f : first ≡ phi_first t a k) where
      pub phi_misplaced : (first ≡ n → ⊥) → suc max_entries ≡ entries_after t a k n
      unfolding entries_after
      phi_misplaced h = rw (eq-eqb (row_op t a k) phi_op (sym o ∙ is), ne_eqb (phi_first t a k) n (λ e. h (f ∙ e)))

      pub phi_placed_law : first ≡ n → {count : ℕ} → count ≡ phi_count t a k → n + count ≡ entries_after t a k n
      unfolding entries_after
      phi_placed_law h e = rw (eq-eqb (row_op t a k) phi_op (sym o ∙ is), eq-eqb (phi_first t a k) n (sym f ∙ h)) (ap (λ m. n + m) e)

  -- ---- rows

  -- The phi entries of row r begin where the rows before it say.
  abbrev phi_placed : ℕ → Bool
  phi_placed r = cond (eqb (row_op t a r) phi_op) (eqb (phi_first t a r) (entries_before t a r)) true

  -- The first k rows pass, and have n phi entries.
  pub record Rows (k n : ℕ) : Type 0 where
    pub upto : k ≤ row_count t a
    pub entries : n ≡ entries_before t a k
    pub few : n ≤ max_entries
    pub phis : (j : ℕ) → j < k → phi_placed j ≡ true
    pub ranges : (j : ℕ) → j < k → in_range (decode_function t a) (decode_row t a j) ≡ true

  pub no_rows : Rows 0 0
  no_rows = record { upto = omega arith; entries = refl; few = omega arith; phis = below_none _; ranges = below_none _ }

  -- What row k adds to n entries, where that is not too many.
  pub record Entries (k n : ℕ) : Type 0 where
    pub sum : entries_after t a k n ≡ n + row_entries t a k
    pub phi : phi_placed k ≡ true
    pub within : row_op t a k ≡ phi_op → phi_first t a k + phi_count t a k ≤ max_entries

  module _ {k n : ℕ} (h : Rows k n) (l : k < row_count t a) where
    pub entries_right : entries_after t a k n ≤ max_entries → Entries k n
    unfolding entries_after
    entries_right w = by (eqb (row_op t a k) phi_op) (eqb (phi_first t a k) n) refl refl w
      where
        by : (b c : Bool) → eqb (row_op t a k) phi_op ≡ b → eqb (phi_first t a k) n ≡ c → cond b (cond c (n + phi_count t a k) (suc max_entries)) n ≤ max_entries → Entries k n
        by true true p q w =
            let first : phi_first t a k ≡ n = eqb-true (phi_first t a k) n q in
            record {
              sum = rw (p, q);
              phi = rw p (eq-eqb (phi_first t a k) (entries_before t a k) (first ∙ h.entries));
              within = λ o. omega arith;
            }
        by true false p q w = absurd (omega arith)
        by false c p q w = record { sum = rw p (omega arith); phi = rw p; within = λ o. absurd (eqb-false (row_op t a k) phi_op p o) }

    pub entries_wrong : max_entries < entries_after t a k n → false ≡ rows_right t a
    unfolding entries_after rows_right phis_placed
    entries_wrong w = by (eqb (row_op t a k) phi_op) (eqb (phi_first t a k) n) refl refl w
      where
        by : (b c : Bool) → eqb (row_op t a k) phi_op ≡ b → eqb (phi_first t a k) n ≡ c → max_entries < cond b (cond c (n + phi_count t a k) (suc max_entries)) n → false ≡ rows_right t a
        by true true p q w =
            let here : row_entries t a k ≡ phi_count t a k = rw p in
            rw
            (lt-leb (entries_before t a (row_count t a)) max_entries (omega (arith, h.entries, here, sum_below_le (row_entries t a) k (row_count t a) l)), and-false)
        by true false p q w =
            rw
            (all_below_not phi_placed (row_count t a) k l
            (rw p (ne_eqb (phi_first t a k) (entries_before t a k) (λ e. eqb-false (phi_first t a k) n q (e ∙ sym h.entries)))))
        by false c p q w = absurd (omega (arith, h.few))

    pub range_wrong : in_range (decode_function t a) (decode_row t a k) ≡ false → false ≡ rows_right t a
    unfolding rows_right
    range_wrong e =
        rw (all_below_not (λ k. in_range (decode_function t a) (decode_row t a k)) (row_count t a) k l e, and-false, and-false)

    pub row_more : entries_after t a k n ≤ max_entries → in_range (decode_function t a) (decode_row t a k) ≡ true → Rows (k + 1) (entries_after t a k n)
    row_more w e =
        let here = entries_right w in
        record {
          upto = omega arith;
          entries = here.sum ∙ ap (λ m. m + row_entries t a k) h.entries ∙ sym (sum_below_suc (row_entries t a) k) ∙ ap (entries_before t a) (sym (add-one k));
          few = w;
          phis = below_more _ _ h.phis here.phi;
          ranges = below_more _ _ h.ranges e;
        }

  pub rows_passed : {k n : ℕ} → Rows k n → row_count t a ≤ k → true ≡ rows_right t a
  unfolding rows_right phis_placed
  rows_passed {k} {n} h l =
      let same : k ≡ row_count t a = omega (arith, h.upto) in
      let count : n ≡ entries_before t a (row_count t a) = h.entries ∙ ap (entries_before t a) same in
      rw
      (all_below phi_placed (row_count t a) (λ j c. h.phis j (omega arith)), le-leb (entries_before t a (row_count t a)) max_entries (omega (arith, h.few)), all_below (λ k. in_range (decode_function t a) (decode_row t a k)) (row_count t a) (λ j c. h.ranges j (omega arith)))
