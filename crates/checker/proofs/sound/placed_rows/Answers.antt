use Prim.Native.Nat.{◌+◌}
use mathlib.Core.Path.{sym, ◌∙◌, subst}
use native.Mathlib.Omega.{arith}
use Rattle.checker.proofs.RowsLaws.{Blocks, no_blocks, block_misplaced, rows_too_many, block_more, blocks_placed_law}
use Rattle.checker.proofs.sound.placed_rows.Goals as goal

pub loop-b-init : goal.loop-b-init
loop-b-init c = let args = c.args in no_blocks args.t.now args.a

pub block_first-requires : goal.block_first-requires
block_first-requires c = (omega arith, omega arith)

pub returns-then-block_first-n-clause-rows : goal.returns-then-block_first-n-clause-rows
returns-then-block_first-n-clause-rows c =
    let args = c.args in
    block_misplaced args.t.now args.a c.loop-b.invariant (omega arith) (λ e. c.if-block_first-n.true (c.block_first.ensures.0 ∙ e))

pub block_rows-n-requires : goal.block_rows-n-requires
block_rows-n-requires c = (omega arith, omega arith)

pub overflow_add-n : goal.overflow_add-n
overflow_add-n c = omega arith

pub returns-then-n-gt-MAX_ROWS-clause-rows : goal.returns-then-n-gt-MAX_ROWS-clause-rows
returns-then-n-gt-MAX_ROWS-clause-rows c =
    let args = c.args in
    rows_too_many args.t.now args.a c.loop-b.invariant (omega arith) (omega arith)

pub loop-b-preserved : goal.loop-b-preserved
loop-b-preserved c =
    let args = c.args in
    let n = c.loop-b.n in
    let b = c.loop-b.b in
    let rows = c.block_rows-n.ensures.0 in
    subst (λ m. Blocks args.t.now args.a (b + 1) (n + m)) (sym rows)
    (block_more args.t.now args.a c.loop-b.invariant (omega arith) (sym c.block_first.ensures.0 ∙ c.if-block_first-n.false) (omega arith))

pub returns-clause-rows : goal.returns-clause-rows
returns-clause-rows c =
    let args = c.args in
    blocks_placed_law args.t.now args.a c.loop-b.invariant (omega arith)
