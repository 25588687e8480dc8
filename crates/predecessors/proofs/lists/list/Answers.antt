-- Two stores, if the block is one.
use mathlib.Core.Path.{◌≡◌, ◌∙◌}
use mathlib.Core.List.{List}
use Prim.Native.Nat.{ℕ, ◌+◌, ◌*◌, ◌≤◌, ◌<◌}
use native.Mathlib.Omega.{arith}
use borrow.Author.Tests.{le-leb, lt-leb}
use lib.ListN.{set, length-set}
use Rattle.language.specs.Programs.{max_blocks}
use Rattle.language.specs.Table.{predecessor_count, predecessors_offset, block_length}
use Rattle.predecessors.specs.Listing.{next_listed}
use Rattle.predecessors.proofs.lists.list.Goals as goal

none : (t : List ℕ) (a n y x : ℕ) → n ≤ y → t ≡ next_listed t a n y x
unfolding next_listed
none t a n y x h = rw (le-leb n y h)

full : (t : List ℕ) (a n y x c : ℕ) → y < n → c ≡ predecessor_count t a y → max_blocks ≤ c → t ≡ next_listed t a n y x
unfolding next_listed
full t a n y x c h e q = rw (lt-leb n y h, le-leb max_blocks (predecessor_count t a y) (omega arith))

more : (t : List ℕ) (a n y x c : ℕ) (u : List ℕ) → y < n → c ≡ predecessor_count t a y → c < max_blocks
    → u ≡ set (set t (a + predecessors_offset + block_length * y + 1 + c) x) (a + predecessors_offset + block_length * y) (c + 1) → u ≡ next_listed t a n y x
unfolding next_listed
more t a n y x c u h e l q = q ∙ rw (lt-leb n y h, e, lt-leb max_blocks (predecessor_count t a y) (omega arith))

pub returns-in_default : goal.returns-in_default
returns-in_default c = rw c.in_default.is (none c.args.t.now c.args.a c.args.n 255 c.args.x (omega arith))

pub returns-then-n-y : goal.returns-then-n-y
returns-then-n-y c = rw c.in-Some.is (search none)

pub returns-then-c-ge-MAX_BLOCKS : goal.returns-then-c-ge-MAX_BLOCKS
returns-then-c-ge-MAX_BLOCKS c = rw c.in-Some.is (search full)

pub bounds-t-k-2 : goal.bounds-t-k-2
bounds-t-k-2 c = simp length-set (omega arith)

pub returns : goal.returns
returns c = rw c.in-Some.is (search more)
