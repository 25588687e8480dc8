-- The leading phi of a block: all its phi, in a function that breaks no rule; by the numbers of its rows; and of the blocks one by one.
-- Assumes nothing.
use mathlib.Core.Path.{◌≡◌, refl, sym, ap, ◌∙◌}
use mathlib.Core.Bool.{true, false}
use mathlib.Core.List.{List, map}
use Prim.Native.Nat.{ℕ, ◌+◌, ◌≤◌, ◌<◌}
use native.Mathlib.Nat.{not-suc-le-zero, add-zero}
use native.Mathlib.Decide.{dec_lt}
use native.Mathlib.Omega.{arith}
use lib.Dec.{eqb}
use borrow.Author.Tests.{ne_eqb}
use borrow.Author.Count.{below_more}
use lib.ListN.{length, get_or, set, length-set}
use lib.Seq.{get_or-set_same, get_or-set_other}
use Rattle.laws.specs.Lists.{from, leading}
use Rattle.laws.proofs.Ranges.{length_map_from, get_or_map_from}
use Rattle.language.specs.Instructions.{phi_op}
use Rattle.language.specs.Programs.{Func, Row, rows_at, is_phi, max_blocks}
use Rattle.language.specs.Table.{block_count, block_first, block_rows, row_op, decode_row, decode_block, decode_function}
use Rattle.language.proofs.TableView.{block_is, phi_row}
use Rattle.theorems.specs.Clean.{Clean}
use Rattle.theorems.proofs.SimulationRows.{row_of, phis_at, rows_count, phi_at, phi_is, kept_at_law, kept_is}
use Rattle.flow.specs.Layout.{phis_offset, flow_length}
use Rattle.flow.specs.Leading.{leading_phis, Led}
use Rattle.flow.proofs.Firsts.{leading_to, leading_all}

-- ---- all phi lead

module _ (f : Func) (c : Clean f) (b : ℕ) where
  abbrev n : ℕ
  n = length (phis_at f b)

  leads : (i : ℕ) → i < n → is_phi (row_of f b i) ≡ true
  leads i l = ap is_phi (phi_at f c b i l) ∙ phi_is f c b i l

  past : n < length (rows_at f b) → is_phi (row_of f b n) ≡ false
  past l = ap (λ i. is_phi (row_of f b i)) (sym (add-zero n)) ∙ ap is_phi (kept_at_law f c b 0) ∙ kept_is f c b 0 (omega (arith, rows_count f c b))

  pub leading_phis_law : leading_phis f b ≡ length (phis_at f b)
  unfolding leading_phis
  leading_phis_law =
      elim (dec_lt n (length (rows_at f b))) [
        | yes l ↦ leading_to is_phi (rows_at f b) n Row.nop l leads (past l)
        | no l ↦ (let all : n ≡ length (rows_at f b) = omega (arith, rows_count f c b) in
            leading_all is_phi (rows_at f b) Row.nop (λ i m. leads i (omega arith)) ∙ sym all)
      ]

-- ---- leading phi

module _ (t : List ℕ) (a : ℕ) where
  -- the rows of a block, as the code goes through them
  module _ (first rows : ℕ) where
    abbrev part : List Row
    part = map (decode_row t a) (from first rows)

    phi_in : (i : ℕ) → i < rows → is_phi (get_or part i Row.nop) ≡ eqb (row_op t a (first + i)) phi_op
    phi_in i l = ap is_phi (get_or_map_from (decode_row t a) Row.nop first rows i l) ∙ phi_row t a (first + i)

    pub phis_to :
        (j op : ℕ)
        → j < rows
        → ((i : ℕ) → i < j → eqb (row_op t a (first + i)) phi_op ≡ true)
        → op ≡ row_op t a (first + j)
        → (op ≡ phi_op → ⊥)
        → (j ≡ length (leading is_phi part)) × (j ≤ rows)
    phis_to j op l h p n = (
      sym (leading_to is_phi part j Row.nop (rw (length_map_from (decode_row t a) first rows) l) (λ i q. phi_in i (omega arith) ∙ h i q)
          (phi_in j l ∙ ap (λ o. eqb o phi_op) (sym p) ∙ ne_eqb op phi_op n)),
      omega arith,
    )

    pub phis_all : ((i : ℕ) → i < rows → eqb (row_op t a (first + i)) phi_op ≡ true) → (rows ≡ length (leading is_phi part)) × (rows ≤ rows)
    phis_all h =
        let n : length part ≡ rows = length_map_from (decode_row t a) first rows in
        (sym (leading_all is_phi part Row.nop (λ i q. let q' : i < rows = rw n at q in phi_in i q' ∙ h i q') ∙ n), omega arith)

  pub leading_is : (b : ℕ) → b < block_count t a → length (leading is_phi (part (block_first t a b) (block_rows t a b))) ≡ leading_phis (decode_function t a) b
  unfolding leading_phis decode_block
  leading_is b l = sym (ap (λ x. length (leading is_phi x.rows)) (block_is t a b l))

-- ---- put down block by block

pub lead_is :
    (t : List ℕ) (a b : ℕ) → b < block_count t a → (first rows : ℕ) → first ≡ block_first t a b → rows ≡ block_rows t a b
    → (v : ℕ)
    → v ≡ length (leading is_phi (map (decode_row t a) (from first rows)))
    → v ≡ leading_phis (decode_function t a) b
lead_is t a b l first rows p q v e = e ∙ rw (p, q) (leading_is t a b l)

pub none_led : (f : Func) (m : List ℕ) → Led f m m 0
none_led f m = record { count = refl; phis = λ b q. absurd (not-suc-le-zero q); before = λ i q. refl }

-- one block more
pub led_more :
    (f : Func) (m m' : List ℕ) (b v : ℕ)
    → length m ≡ flow_length
    → b < max_blocks
    → v ≡ leading_phis f b
    → Led f m m' b
    → Led f m (set m' (phis_offset + b) v) (b + 1)
led_more f m m' b v n l e h =
    record {
      count = length-set m' (phis_offset + b) v ∙ h.count;
      phis =
          below_more (λ x. get_or (set m' (phis_offset + b) v) (phis_offset + x) 0 ≡ leading_phis f x) b
          (λ x q. get_or-set_other m' (phis_offset + b) (phis_offset + x) v 0 (λ d. omega arith) ∙ h.phis x q)
          (get_or-set_same m' (phis_offset + b) v 0 (omega (arith, h.count)) ∙ e);
      before = λ i q. get_or-set_other m' (phis_offset + b) i v 0 (λ d. omega arith) ∙ h.before i q;
    }
