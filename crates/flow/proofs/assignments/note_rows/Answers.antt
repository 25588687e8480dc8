use Prim.Native.Nat.{ℕ, ◌+◌, ◌≤◌, ◌<◌}
use mathlib.Core.Path.{◌≡◌}
use mathlib.Core.List.{List}
use native.Mathlib.Nat.{add-zero, add_assoc}
use native.Mathlib.Omega.{arith}
use Rattle.language.specs.Programs.{targets_of, max_rows}
use Rattle.language.specs.Table.{block_count, block_first, block_rows, row_count, decode_row, decode_function}
use Rattle.flow.specs.Sized.{Preparable}
use Rattle.flow.specs.Assignments.{Noted, with_notes}
use Rattle.flow.proofs.Standing.{row_within}
use Rattle.flow.proofs.AssignmentLaws.{row_more}
use Rattle.flow.proofs.assignments.note_rows.Goals as goal

-- row j of the block is one of the 1,024
limit : (t : List ℕ) (a b first rows j : ℕ) → Preparable t a → b < block_count t a → first ≡ block_first t a b → rows ≡ block_rows t a b → j < rows → first + j < max_rows
limit t a b first rows j fit l p q n =
    let m : block_first t a b + j < row_count t a = row_within t a fit.sized b j l (omega arith) in
    let r : row_count t a ≤ max_rows = fit.sized.rows in
    omega arith

more : (t : List ℕ) (a b first rows j : ℕ) (m m' : List ℕ) → Preparable t a → b < block_count t a → first ≡ block_first t a b → rows ≡ block_rows t a b → j < rows
    → Noted (decode_function t a) m (first + j)
    → m' ≡ with_notes m b (first + j) (targets_of (decode_row t a (first + j)))
    → Noted (decode_function t a) m' (first + (j + 1))
more t a b first rows j m m' fit l p q n h e =
    rw (e, p, ← add_assoc (block_first t a b) j 1) (row_more t a fit b j l (omega arith) m (rw p at h))

pub block_first-first-requires : goal.block_first-first-requires
block_first-first-requires c = (c.requires.0.sized.within, omega arith)

pub block_rows-rows-requires : goal.block_rows-rows-requires
block_rows-rows-requires c = (c.requires.0.sized.within, omega arith)

pub loop-j-init : goal.loop-j-init
loop-j-init c = (omega arith, rw (add-zero, c.block_first-first.ensures.0) c.requires.2)

pub overflow_add-first : goal.overflow_add-first
overflow_add-first c =
    omega (arith, limit c.args.t.now c.args.a c.args.b _ _ c.loop-j.j c.requires.0 c.requires.1 c.block_first-first.ensures.0 c.block_rows-rows.ensures.0 c.loop-j-test.true)

pub note_row-requires : goal.note_row-requires
note_row-requires c = (
  c.requires.0.sized.within,
  c.loop-j.invariant.1.count,
  omega arith,
  limit c.args.t.now c.args.a c.args.b _ _ c.loop-j.j c.requires.0 c.requires.1 c.block_first-first.ensures.0 c.block_rows-rows.ensures.0 c.loop-j-test.true,
)

pub loop-j-preserved : goal.loop-j-preserved
loop-j-preserved c = (
  omega arith,
  more c.args.t.now c.args.a c.args.b _ _ c.loop-j.j c.loop-j.m _ c.requires.0 c.requires.1 c.block_first-first.ensures.0 c.block_rows-rows.ensures.0
      c.loop-j-test.true c.loop-j.invariant.1 c.note_row.ensures,
)

pub shape_of-m : goal.shape_of-m
shape_of-m c = omega (arith, c.loop-j.invariant.1.count, c.requires.2.count)

pub returns : goal.returns
returns c =
    let e : c.block_first-first.result + c.loop-j.j ≡ block_first c.args.t.now c.args.a c.args.b + block_rows c.args.t.now c.args.a c.args.b = omega arith in
    rw e at c.loop-j.invariant.1
