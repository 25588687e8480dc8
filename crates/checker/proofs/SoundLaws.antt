-- 9 of a function, part by part: the first that fails is the answer.
-- Assumes nothing.
use mathlib.Core.Bool.{Bool, true, false, cond}
use mathlib.Core.Path.{◌≡◌, refl}
use mathlib.Core.List.{List}
use Prim.Native.Nat.{ℕ, suc, ◌+◌, ◌≤◌, ◌<◌}
use native.Mathlib.Omega.{arith}
use lib.Dec.{T, leb, leb→le}
use lib.Ieee.Bits.{is_true}
use lib.Ieee.Fits.{and_l, and_r}
use Rattle.laws.proofs.Tests.{of_true}
use Rattle.laws.proofs.Sums.{sum_below_le}
use Rattle.language.specs.Table.{register_count, block_count, block_first, block_rows, row_count, blocks_placed, predecessors_kept}
use Rattle.language.proofs.TableView.{sequence_first}
use Rattle.checker.specs.Parts.{head_right, types_right, blocks_right, placed_rows, rows_right, all_names_right, sound_at}
use Rattle.language.specs.Programs.{max_rows, max_blocks, max_registers}

-- the counts that the head allows
pub record Counts (t : List ℕ) (a : ℕ) : Type 0 where
  pub registers : register_count t a ≤ max_registers
  pub blocks : block_count t a ≤ max_blocks

pub head_counts : (t : List ℕ) (a : ℕ) → head_right t a ≡ true → Counts t a
unfolding head_right
head_counts t a e = let h = of_true (head_right t a) e in search (and_l, and_r, leb→le) depth 9

-- the rows that the blocks allow
pub placed_wrong : (t : List ℕ) (a : ℕ) → max_rows < placed_rows t a → blocks_right t a ≡ false
unfolding placed_rows blocks_right
placed_wrong t a h = by (blocks_right t a) (λ w. leb→le (row_count t a) max_rows (and_r (blocks_placed t a) (leb (row_count t a) max_rows) w)) h
  where
    by : (b : Bool) → (T b → row_count t a ≤ max_rows) → max_rows < cond b (row_count t a) (suc max_rows) → b ≡ false
    by true w h = absurd (let l = w tt in omega arith)
    by false w h = refl

pub placed_right : (t : List ℕ) (a : ℕ) → placed_rows t a ≤ max_rows → (blocks_right t a ≡ true) × (placed_rows t a ≡ row_count t a)
unfolding placed_rows
placed_right t a h = by (blocks_right t a) h
  where
    by : (b : Bool) → cond b (row_count t a) (suc max_rows) ≤ max_rows → (b ≡ true) × (cond b (row_count t a) (suc max_rows) ≡ row_count t a)
    by true h = (refl, refl)
    by false h = absurd (omega arith)

-- among which each block's are
pub rows_among : (t : List ℕ) (a : ℕ) → placed_rows t a ≤ max_rows → (b : ℕ) → b < block_count t a → block_first t a b + block_rows t a b ≤ max_rows
unfolding blocks_right
rows_among t a h b l =
    let right : T (blocks_right t a) = of_true (blocks_right t a) (placed_right t a h).0 in
    let placed : blocks_placed t a ≡ true = is_true (blocks_placed t a) (and_l (blocks_placed t a) (leb (row_count t a) max_rows) right) in
    let few : row_count t a ≤ max_rows = leb→le (row_count t a) max_rows (and_r (blocks_placed t a) (leb (row_count t a) max_rows) right) in
    omega (arith, sequence_first t a placed b l, sum_below_le (block_rows t a) b (block_count t a) l)

module _ (t : List ℕ) (i a : ℕ) where
  pub head_fails : head_right t a ≡ false → false ≡ sound_at t i a
  unfolding sound_at
  head_fails e = rw e

  module _ (head : head_right t a ≡ true) where
    pub types_fail : types_right t a ≡ false → false ≡ sound_at t i a
    unfolding sound_at
    types_fail e = rw (head, e)

    module _ (types : types_right t a ≡ true) where
      pub blocks_fail : max_rows < placed_rows t a → false ≡ sound_at t i a
      unfolding sound_at
      blocks_fail h = rw (head, types, placed_wrong t a h)

      module _ (placed : placed_rows t a ≤ max_rows) where
        pub rows_fail : rows_right t a ≡ false → false ≡ sound_at t i a
        unfolding sound_at
        rows_fail e = rw (head, types, (placed_right t a placed).0, e)

        module _ (rows : rows_right t a ≡ true) where
          pub lists_fail : predecessors_kept t a ≡ false → false ≡ sound_at t i a
          unfolding sound_at
          lists_fail e = rw (head, types, (placed_right t a placed).0, rows, e)

          module _ (lists : predecessors_kept t a ≡ true) where
            pub none_fails : all_names_right t i a ≡ sound_at t i a
            unfolding sound_at
            none_fails = rw (head, types, (placed_right t a placed).0, rows, lists)
