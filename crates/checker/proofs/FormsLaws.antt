-- The rows of a block one by one, and what is noted of them.
-- Assumes nothing.
use mathlib.Core.Bool.{Bool, true, false, cond}
use mathlib.Core.Path.{◌≡◌, refl, sym, ap, ◌∙◌}
use mathlib.Core.List.{List, [], ◌∷◌, foldl, foldl-append}
use Prim.Native.Nat.{ℕ, zero, ◌+◌, ◌≤◌, ◌<◌}
use native.Mathlib.Nat.{zero-add}
use native.Mathlib.Numerals.{add-one}
use native.Mathlib.Omega.{arith}
use lib.Dec.{eqb, ltb}
use lib.ListN.{length, get_or, take}
use lib.Seq.{take-suc, take_all}
use Rattle.laws.specs.Lists.{below, empty}
use Rattle.laws.proofs.Ranges.{foldl_below_suc}
use Rattle.language.specs.Programs.{Row, Func, rows_at, first_row, max_rows}
use Rattle.checker.proofs.Notes.{lowest_below}
use Rattle.language.specs.Checking.{Spot, spot_at, breaks10, spots_from, spots_in, row_number}
use Rattle.language.specs.Table.{block_count, block_first, block_rows, row_count, decode_function}
use Rattle.language.proofs.TableView.{first_row_is, block_rows_count}
use Rattle.theorems.proofs.Spots.{length_from_place, spot_from_place}
use Rattle.rules.specs.Tests.{form_fault, later_tests}
use Rattle.flow.specs.Sized.{Sized}
use Rattle.flow.proofs.Standing.{block_within}
use Rattle.checker.specs.Notes.{Lowest}
use Rattle.checker.specs.Notes.{unbroken, noted, noted_row, noted_in, noted_of}

module _ (f : Func) (b : ℕ) (s : Lowest) where
  -- The first j rows of the block.
  pub noted_upto : ℕ → Lowest
  noted_upto j = foldl (noted_row f) s (take j (spots_in f b))

  pub upto_none : s ≡ noted_upto 0
  unfolding noted_upto
  upto_none = refl

  upto_more : (j : ℕ) → j < length (rows_at f b) → noted_upto (j + 1) ≡ noted (noted_upto j) (form_fault f (spot_at f b j)) (first_row f b + j)
  unfolding noted_upto spots_in row_number
  upto_more j h =
      let spots = spots_in f b in
      let d = spot_at f b j in
      let here : get_or spots j d ≡ d = spot_from_place b zero (rows_at f b) j d h ∙ rw zero-add in
      ap (λ n. foldl (noted_row f) s (take n spots)) (add-one j)
      ∙ ap (foldl (noted_row f) s) (take-suc spots j d (omega (arith, length_from_place b zero (rows_at f b))))
      ∙ foldl-append (noted_row f) s (take j spots) (get_or spots j d ∷ [])
      ∙ ap (noted_row f (noted_upto j)) here

  module _ {x : Lowest} {j k : ℕ} (h : j < length (rows_at f b)) (so_far : x ≡ noted_upto j) (fault : k ≡ form_fault f (spot_at f b j)) where
    -- a row that breaks nothing, and one that does
    pub upto_quiet : k ≡ 0 → x ≡ noted_upto (j + 1)
    unfolding noted
    upto_quiet e = so_far ∙ sym (upto_more j h ∙ ap (λ n. noted (noted_upto j) n (first_row f b + j)) (sym fault ∙ e))

    pub upto_noted : {r : ℕ} → r ≡ first_row f b + j → {y : Lowest} → y ≡ noted x k r → y ≡ noted_upto (j + 1)
    upto_noted {r} e {y} q =
        q ∙ ap (λ z. noted z k r) so_far ∙ ap (λ n. noted (noted_upto j) n r) fault
        ∙ ap (noted (noted_upto j) (form_fault f (spot_at f b j))) e
        ∙ sym (upto_more j h)

  -- no rows, and all rows
  pub in_none : length (rows_at f b) ≡ 0 → {r : ℕ} → r ≡ first_row f b → {y : Lowest} → y ≡ noted s 10 r → y ≡ noted_in f s b
  unfolding noted_in
  in_none e {r} q {y} p = by (rows_at f b) e
    where
      by : (rows : List Row) → length rows ≡ 0 → y ≡ cond (empty rows) (noted s 10 (first_row f b)) (foldl (noted_row f) s (spots_in f b))
      by [] e = p ∙ ap (noted s 10) q
      by (x ∷ xs) e = absurd (omega arith)

  pub in_all : {x : Lowest} {j : ℕ} → x ≡ noted_upto j → length (rows_at f b) ≤ j → (length (rows_at f b) ≡ 0 → ⊥) → x ≡ noted_in f s b
  unfolding noted_upto noted_in spots_in
  in_all {x} {j} e l n = by (rows_at f b) e l n
    where
      by :
          (rows : List Row) → x ≡ foldl (noted_row f) s (take j (spots_from b zero rows)) → length rows ≤ j → (length rows ≡ 0 → ⊥)
          → x ≡ cond (empty rows) (noted s 10 (first_row f b)) (foldl (noted_row f) s (spots_from b zero rows))
      by [] e l n = absurd (n refl)
      by (r ∷ rs) e l n =
          e ∙ ap (foldl (noted_row f) s) (take_all j (spots_from b zero (r ∷ rs)) (omega (arith, length_from_place b zero (r ∷ rs))))

module _ (f : Func) where
  -- The first b blocks.
  pub noted_blocks : ℕ → Lowest
  noted_blocks b = foldl (noted_in f) unbroken (below b)

  pub blocks_none : unbroken ≡ noted_blocks 0
  unfolding noted_blocks
  blocks_none = refl

  pub blocks_more : {x y : Lowest} (b : ℕ) → x ≡ noted_blocks b → y ≡ noted_in f x b → y ≡ noted_blocks (b + 1)
  unfolding noted_blocks
  blocks_more b p q = q ∙ ap (λ z. noted_in f z b) p ∙ sym (ap noted_blocks (add-one b) ∙ foldl_below_suc (noted_in f) unbroken b)

  pub blocks_all : {x : Lowest} {b : ℕ} → x ≡ noted_blocks b → b ≡ length f.blocks → x ≡ noted_of f
  unfolding noted_blocks noted_of
  blocks_all p e = p ∙ ap noted_blocks e

-- A row's number is one of 10 to 16.
pub form_fault_below : (f : Func) (s : Spot) → form_fault f s < 17
unfolding form_fault later_tests
form_fault_below f s = lowest_below 10 (breaks10 f s ∷ later_tests f s) (omega arith)

-- What is noted at rows up to n stays there.
pub noted_row_law : (s : Lowest) (k r n : ℕ) → s.row ≤ n → r ≤ n → (noted s k r).row ≤ n
unfolding noted
noted_row_law s k r n p q = by (eqb k 0) (ltb k s.number)
  where
    by : (b c : Bool) → (cond b s (cond c (record { number = k; row = r }) s)).row ≤ n
    by true c = p
    by false true = q
    by false false = p

-- ---- a block in its table

pub record Here (t : List ℕ) (a b first rows : ℕ) : Type 0 where
  pub place : first ≡ first_row (decode_function t a) b
  pub count : rows ≡ length (rows_at (decode_function t a) b)
  pub within : first + rows ≤ row_count t a
  pub few : first + rows ≤ max_rows

pub here : {t : List ℕ} {a b first rows : ℕ} → Sized t a → b < block_count t a → first ≡ block_first t a b → rows ≡ block_rows t a b → Here t a b first rows
here {t} {a} {b} s h p q =
    let end = block_within t a s b h in
    record {
      place = p ∙ sym (first_row_is t a s.placed b h);
      count = q ∙ sym (block_rows_count t a b h);
      within = omega arith;
      few = omega (arith, s.rows);
    }
