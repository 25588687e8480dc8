-- What holds while stored lists are compared with terminators.
-- Assumes nothing.
use Rattle.std.specs.Prelude.{Bool, true, cond, ◌≡◌, List, ℕ, ◌+◌, ◌<◌, eqb, leb, length, get_or, set}
use Rattle.language.specs.Programs.{max_blocks}
use Rattle.language.specs.Table.{block_count, predecessor_at, decode_function}
use Rattle.predecessors.specs.Ranked.{ranked_before}

-- So far block x, what was seen is what stands before it, and the cells of each list agree with that, as many as were seen.
pub record Agreed (t : List ℕ) (a : ℕ) (seen : List ℕ) (x : ℕ) : Type 0 where
  pub size : length seen ≡ max_blocks
  pub count : (b : ℕ) → b < block_count t a → get_or seen b 0 ≡ length (ranked_before (decode_function t a) x b)
  pub cells : (b k : ℕ) → b < block_count t a → k < length (ranked_before (decode_function t a) x b) → predecessor_at t a b k ≡ get_or (ranked_before (decode_function t a) x b) k 0

-- Block x is the next of the predecessors that block y keeps, if y is one of n blocks; then one more is seen.
abbrev pub next_agrees : List ℕ → (a n : ℕ) → List ℕ → (y x : ℕ) → Bool
next_agrees t a n seen y x = cond (leb n y) true (eqb (predecessor_at t a y (get_or seen y 0)) x)

abbrev pub next_seen : (n : ℕ) → List ℕ → (y : ℕ) → List ℕ
next_seen n seen y = cond (leb n y) seen (set seen y (get_or seen y 0 + 1))
