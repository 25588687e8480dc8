-- A search among the predecessors that a block stores.
-- Assumes nothing.
use mathlib.Core.Path.{◌≡◌, sym, ap, ◌∙◌}
use mathlib.Core.Bool.{true, false}
use mathlib.Core.List.{List}
use Prim.Native.Nat.{ℕ, ◌≤◌, ◌<◌}
use native.Mathlib.Omega.{arith}
use lib.Dec.{eqb}
use lib.ListN.{length}
use Rattle.laws.specs.Lists.{position, below}
use Rattle.laws.proofs.Positions.{position_below, position_of}
use Rattle.laws.proofs.Searching.{kept_ascends}
use Rattle.language.specs.Programs.{Func, max_blocks}
use Rattle.language.specs.Table.{block_count, predecessor_count, predecessor_at, stored_predecessors, decode_function, InTable}
use Rattle.language.specs.Checking.{goes_to, predecessors}
use Rattle.language.proofs.TableView.{predecessor_is, stored_count, stored_is}
use Rattle.predecessors.specs.Ranked.{Ascending}

module _ (t : List ℕ) (a b : ℕ) (within : InTable t a) (l : b < max_blocks) (n : ℕ) (e : n ≡ predecessor_count t a b) (s : n < 256) where
  count_is : length (stored_predecessors t a b) ≡ n
  count_is = stored_count t a within b l (omega arith) ∙ sym e

  -- the place of block x is found by the cells
  pub place_is :
      (x k : ℕ) → k ≤ n → ((i : ℕ) → i < k → eqb (predecessor_at t a b i) x ≡ false) → (k < n → eqb (predecessor_at t a b k) x ≡ true)
      → k ≡ position (λ z. eqb z x) (stored_predecessors t a b)
  place_is x k h p q =
      position_below (λ i. eqb (predecessor_at t a b i) x) n k h p q
      ∙ ap (λ m. position (λ i. eqb (predecessor_at t a b i) x) (below m)) (sym count_is)
      ∙ position_of (λ z. eqb z x) (λ i. eqb (predecessor_at t a b i) x) 0 (stored_predecessors t a b)
      (λ i c. ap (λ z. eqb z x) (sym (predecessor_is t a b i (omega (arith, count_is)))))

  -- where the list ascends, what stands before a number that is no larger than x is smaller
  pub before_middle : Ascending (stored_predecessors t a b) → (x m : ℕ) → m < n → predecessor_at t a b m ≤ x → (i : ℕ) → i < m → predecessor_at t a b i < x
  before_middle h x m k q i r =
      omega (arith, h i m r (omega (arith, count_is)), predecessor_is t a b i (omega arith), predecessor_is t a b m (omega arith))

-- ---- what a checked table keeps ascends

pub predecessors_ascend : (f : Func) (b : ℕ) → Ascending (predecessors f b)
unfolding predecessors
predecessors_ascend f b = kept_ascends (λ x. goes_to f x b) 0 (length f.blocks)

pub stored_ascends : (t : List ℕ) (a : ℕ) → (decode_function t a).placed ≡ true → (b : ℕ) → b < block_count t a → Ascending (stored_predecessors t a b)
stored_ascends t a placed b l = rw (stored_is t a placed b l) (predecessors_ascend (decode_function t a) b)
