-- The rows of a function one after the other: which stands at which place, and that its number is its place.
-- Assumes nothing.
use mathlib.Core.Path.{◌≡◌, refl, sym, ap, ap₂, ◌∙◌}
use mathlib.Core.List.{List, [], ◌∷◌, ◌++◌, map}
use Prim.Native.Nat.{ℕ, zero, suc, ◌+◌, ◌≤◌, ◌<◌}
use native.Mathlib.Nat.{not-suc-le-zero, le_of_suc-le-suc, zero-add, add-zero, add-suc, suc-add}
use native.Mathlib.Omega.{arith}
use lib.ListN.{length, get_or, take, length-map}
use lib.Seq.{take-suc}
use Rattle.laws.specs.Lists.{gather, below, from, sum}
use Rattle.laws.proofs.Indexing.{length_below, get_or_below, take_below, get_d_map}
use Rattle.laws.proofs.Appending.{sum_append}
use Rattle.laws.proofs.Gather.{get_or_gather, length_gather, map_gather, sum_take_le}
use Rattle.laws.proofs.Ranges.{length_map_from, get_or_map_from, gather_from, map_from_take}
use Rattle.laws.proofs.Sums.{map_get_or, sum_same}
use Rattle.language.specs.Programs.{Row, Block, Func, no_block, block_at, rows_at, rows_of, first_row}
use Rattle.language.specs.Checking.{Spot, spot_at, spots_from, spots_in, spots_of, row_number}
use Rattle.theorems.proofs.AcceptanceCheck.{in_blocks}

-- ---- the rows of a function by block

pub first_within : (f : Func) (b : ℕ) → b < length f.blocks → first_row f b + length (rows_at f b) ≤ length (rows_of f)
unfolding rows_of first_row
first_within f b l =
    rw (length_gather (λ x. x.rows) f.blocks) (sum_take_le (λ x. length x.rows) f.blocks b no_block l)

module _ (f : Func) (b j : ℕ) (h : j < length (rows_at f b)) where
  -- the row at place j of block b
  pub row_at : get_or (rows_of f) (first_row f b + j) Row.nop ≡ get_or (rows_at f b) j Row.nop
  unfolding rows_of first_row
  row_at = get_or_gather (λ x. x.rows) f.blocks b j no_block Row.nop (in_blocks f b j h) h

  pub row_below : first_row f b + j < length (rows_of f)
  row_below = omega (arith, first_within f b (in_blocks f b j h))

-- ---- the rows of one block, from place k on

pub length_from_place : (b k : ℕ) (rows : List Row) → length (spots_from b k rows) ≡ length rows
length_from_place b k [] = refl
length_from_place b k (r ∷ rs) = ap suc (length_from_place b (suc k) rs)

pub spot_from_place :
    (b k : ℕ) (rows : List Row) (j : ℕ) (d : Spot)
    → j < length rows
    → get_or (spots_from b k rows) j d ≡ record { block = b; index = k + j; row = get_or rows j Row.nop }
spot_from_place b k [] j d h = absurd (not-suc-le-zero h)
spot_from_place b k (r ∷ rs) zero d h = rw add-zero
spot_from_place b k (r ∷ rs) (suc j) d h = spot_from_place b (suc k) rs j d (le_of_suc-le-suc h) ∙ rw (add-suc, ← suc-add)

module _ (f : Func) where
  numbers_from : (b k : ℕ) (rows : List Row) → map (row_number f) (spots_from b k rows) ≡ map (λ n. n) (from (first_row f b + k) (length rows))
  unfolding row_number
  numbers_from b k [] = refl
  numbers_from b k (r ∷ rs) =
      ap (λ (l : List ℕ). (first_row f b + k) ∷ l)
      (numbers_from b (suc k) rs ∙ ap (λ n. map (λ x. x) (from n (length rs))) (add-suc (first_row f b) k))

-- ---- the rows of all blocks

gather_agree : {A B : Type 0} (g h : A → List B) → ((x : A) → g x ≡ h x) → (xs : List A) → gather g xs ≡ gather h xs
gather_agree g h e [] = refl
gather_agree g h e (x ∷ xs) = ap₂ (λ k l. k ++ l) (e x) (gather_agree g h e xs)

module _ (f : Func) where
  abbrev size : ℕ → ℕ
  size b = length (rows_at f b)

  first_is : (b : ℕ) → b < length f.blocks → first_row f b ≡ sum (map size (below b))
  unfolding first_row
  first_is b h =
      ap sum (sym (map_from_take size (λ x. length x.rows) no_block 0 f.blocks b (omega arith) (λ i l. ap size (zero-add i))))

  -- the row at which the next block begins
  pub first_next : (b : ℕ) → b < length f.blocks → first_row f (suc b) ≡ first_row f b + length (rows_at f b)
  unfolding first_row
  first_next b h =
      ap (λ (bs : List Block). sum (map (λ x. length x.rows) bs)) (take-suc f.blocks b no_block h)
      ∙ sum_append (λ x. length x.rows) (take b f.blocks) (block_at f b ∷ [])
      ∙ ap (λ n. sum (map (λ x. length x.rows) (take b f.blocks)) + n) (add-zero (length (rows_at f b)))

  numbers_are : map (row_number f) (spots_of f) ≡ map (λ n. n) (from 0 (sum (map size (below (length f.blocks)))))
  unfolding spots_of spots_in
  numbers_are =
      map_gather (row_number f) (spots_in f) (below (length f.blocks))
      ∙ gather_agree (λ b. map (row_number f) (spots_in f b)) (λ b. map (λ n. n) (from (first_row f b) (size b)))
      (λ b. numbers_from f b 0 (rows_at f b) ∙ ap (λ n. map (λ x. x) (from n (size b))) (add-zero (first_row f b)))
      (below (length f.blocks))
      ∙ gather_from (λ n. n) (first_row f) size 0 0 (length f.blocks) (λ i h. rw (zero-add i, zero-add (sum (map size (below i)))) (first_is i h))

  -- as many as there are rows
  pub spots_count : length (spots_of f) ≡ length (rows_of f)
  unfolding rows_of
  spots_count =
      sym (length-map (spots_of f) (row_number f)) ∙ ap length numbers_are
      ∙ length_map_from (λ n. n) 0 (sum (map size (below (length f.blocks))))
      ∙ ap sum (map_get_or (λ x. length x.rows) no_block f.blocks)
      ∙ sym (length_gather (λ x. x.rows) f.blocks)

  -- "Rows count from 0 through a function": a row's number is its place
  pub number_of_spot : (r : ℕ) (d : Spot) → r < length (spots_of f) → row_number f (get_or (spots_of f) r d) ≡ r
  number_of_spot r d h =
      let total = sum (map size (below (length f.blocks))) in
      let all : length (spots_of f) ≡ total =
      sym (length-map (spots_of f) (row_number f)) ∙ ap length numbers_are ∙ length_map_from (λ n. n) 0 total in
      sym (get_d_map (row_number f) (spots_of f) r d 0 h) ∙ ap (λ l. get_or l r 0) numbers_are
      ∙ get_or_map_from (λ n. n) 0 0 total r (omega arith)
      ∙ zero-add r

  -- the row at place j of block b
  pub spot_at_law : (b j : ℕ) (d : Spot) → j < length (rows_at f b) → get_or (spots_of f) (first_row f b + j) d ≡ spot_at f b j
  unfolding spots_of spots_in
  spot_at_law b j d h =
      let n = length f.blocks in
      let l = in_blocks f b j h in
      let own : get_or (below n) b 0 ≡ b = get_or_below n b 0 l in
      let count : (x : ℕ) → length (spots_in f x) ≡ size x = λ x. length_from_place x 0 (rows_at f x) in
      let first : first_row f b ≡ sum (map (λ x. length (spots_in f x)) (take b (below n))) =
      first_is b l ∙ sym (sum_same count (below b)) ∙ ap (λ xs. sum (map (λ x. length (spots_in f x)) xs)) (sym (take_below n b (omega arith))) in
      ap (λ k. get_or (gather (spots_in f) (below n)) (k + j) d) first
      ∙ get_or_gather (spots_in f) (below n) b j 0 d (rw length_below l) (rw own (omega (arith, count b)))
      ∙ ap (λ x. get_or (spots_in f x) j d) own
      ∙ spot_from_place b 0 (rows_at f b) j d h
      ∙ ap (λ k. record { block = b; index = k; row = get_or (rows_at f b) j Row.nop }) (zero-add j)
