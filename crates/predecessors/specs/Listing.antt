-- A function's lists while they are put down.
-- Assumes nothing.
use Rattle.std.specs.Prelude.{cond, ◌≡◌, List, [], ◌++◌, ℕ, ◌+◌, ◌*◌, leb, length, set}
use Rattle.language.specs.Programs.{Block, Func, max_blocks}
use Rattle.language.specs.Table.{block_cells, cells_listing, predecessor_count, predecessors_offset, block_length}
use Rattle.theorems.specs.TableLaw.{Laid}
use Rattle.predecessors.specs.Ranked.{lists_before}

-- No predecessors for each block: what a table has until the lists are put down.
abbrev pub no_lists : Func → List (List ℕ)
no_lists g = lists_before g 0

-- Function g stands at cell a of t with these lists, `before` and `behind` being what stands around it.
pub record FunctionStands (t : List ℕ) (a : ℕ) (lists : List (List ℕ)) (g : Func) (before behind : List ℕ) : Type 0 where
  pub laid : Laid g
  pub place : length before ≡ a
  pub cells : t ≡ before ++ (cells_listing lists g ++ behind)

-- A block that has no list yet, its first row being n.
abbrev pub bare_cells : ℕ → Block → List ℕ
bare_cells n b = block_cells n (record { block = b; list = [] })

-- Block x is the next predecessor of block y, if y is one of n blocks and its list has room.
unfoldable pub next_listed : List ℕ → (a n y x : ℕ) → List ℕ
next_listed t a n y x =
    let k = a + predecessors_offset + block_length * y in
    let c = predecessor_count t a y in
    cond (leb n y) t (cond (leb max_blocks c) t (set (set t (k + 1 + c) x) k (c + 1)))
