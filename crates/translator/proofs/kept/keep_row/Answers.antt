-- The cells go by the shape of the instruction.
use mathlib.Core.Bool.{cond}
use mathlib.Core.Path.{◌≡◌, ◌∙◌}
use Prim.Native.Nat.{◌+◌, ◌*◌, ◌<◌}
use native.Mathlib.Omega.{arith}
use lib.Dec.{ltb}
use borrow.Author.Tests.{lt-ltb, le-ltb}
use Rattle.translator.proofs.Lookups.{row_kept}
use Rattle.language.specs.Table.{function_at, row_length, rows_offset, row_target, row_left, row_right}
use Rattle.translator.proofs.kept.keep_row.Goals as goal
use Rattle.translator.proofs.kept.keep_row.Goals.{then-shape, else-shape, then-sources-gt0, else-sources-gt0, then-two, else-two}

pub operand-last-requires : goal.operand-last-requires
operand-last-requires c =
    record { in_table = c.requires.in_table; naming = rw (c.shape_of-shape.ensures, c.row_op-op.ensures) c.requires.naming }

pub put_row-requires : goal.put_row-requires
put_row-requires c =
    let target : c.if-shape.target < 256 =
    elim c.if-shape.branch [ then-shape w ↦ omega (arith, w.row_target-target.ensures.1) | else-shape w ↦ omega arith ] in
    let left : c.if-sources-gt0.left < 256 =
    elim c.if-sources-gt0.branch [ then-sources-gt0 w ↦ omega (arith, w.row_left-left.ensures.1) | else-sources-gt0 w ↦ omega arith ] in
    let right : c.if-two.right < 256 =
    elim c.if-two.branch [ then-two w ↦ omega (arith, w.row_right-right.ensures.1) | else-two w ↦ omega arith ] in
    record { in_table = (omega (arith, c.requires.out_len.0), c.requires.out_len.1); target_bound = (target, left, right) }

pub returns : goal.returns
returns c =
    let args = c.args in
    let shape = c.shape_of-shape.result in
    let target : c.if-shape.target ≡ cond shape.target (row_target args.t.now args.a args.r) 0 =
    elim c.if-shape.branch [
      | then-shape w ↦ rw w.if-shape.true (w.target-is ∙ w.row_target-target.ensures.0)
      | else-shape w ↦ rw w.if-shape.false w.target-is
    ] in
    let left : c.if-sources-gt0.left ≡ cond (ltb 0 shape.sources) (row_left args.t.now args.a args.r) 0 =
    elim c.if-sources-gt0.branch [
      | then-sources-gt0 w ↦ rw (lt-ltb 0 shape.sources w.if-sources-gt0.true) (w.left-is ∙ w.row_left-left.ensures.0)
      | else-sources-gt0 w ↦ rw (le-ltb 0 shape.sources w.if-sources-gt0.false) w.left-is
    ] in
    let right : c.if-two.right ≡ cond (ltb 1 shape.sources) (row_right args.t.now args.a args.r) 0 =
    elim c.if-two.branch [
      | then-two w ↦ rw (lt-ltb 1 shape.sources (omega (arith, w.if-two.true))) (w.right-is ∙ w.row_right-right.ensures.0)
      | else-two w ↦ rw (le-ltb 1 shape.sources (omega (arith, w.if-two.false))) w.right-is
    ] in
    row_kept args.t.now args.a args.m.now args.plan.now args.x args.r args.out.now c.put_row.new.t (function_at 0 + rows_offset + row_length * args.k)
    c.row_op-op.ensures c.shape_of-shape.ensures target left right c.operand-last.ensures c.put_row.ensures
