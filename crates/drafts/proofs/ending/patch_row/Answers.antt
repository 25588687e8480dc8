-- Each way is a case of `patch_row`.
use native.Mathlib.Omega.{arith}
use lib.ListN.{length-set}
use Rattle.drafts.proofs.EndingLaws.{patch_jump, patch_branch, patch_other}
use Rattle.drafts.proofs.ending.patch_row.Goals as goal

pub returns-then-op-eq-JUMP : goal.returns-then-op-eq-JUMP
returns-then-op-eq-JUMP c =
    let args = c.args in
    patch_jump args.f.now args.found.now args.r c.row_op-op.ensures c.if-op-eq-JUMP.true c.from.ensures

pub bounds-f-k-then-op-eq-JUMP_COND-3 : goal.bounds-f-k-then-op-eq-JUMP_COND-3
bounds-f-k-then-op-eq-JUMP_COND-3 c = simp length-set (omega arith)

pub bounds-f-k-then-op-eq-JUMP_COND-4 : goal.bounds-f-k-then-op-eq-JUMP_COND-4
bounds-f-k-then-op-eq-JUMP_COND-4 c = simp length-set (omega arith)

pub returns-then-op-eq-JUMP_COND : goal.returns-then-op-eq-JUMP_COND
returns-then-op-eq-JUMP_COND c =
    let args = c.args in
    patch_branch args.f.now args.found.now args.r c.row_op-op.ensures c.if-op-eq-JUMP_COND.true c.from-then-op-eq-JUMP_COND.ensures c.from-then-op-eq-JUMP_COND-2.ensures

pub returns-else-op-eq-JUMP_COND : goal.returns-else-op-eq-JUMP_COND
returns-else-op-eq-JUMP_COND c =
    let args = c.args in
    patch_other args.f.now args.found.now args.r c.row_op-op.ensures c.if-op-eq-JUMP.false c.if-op-eq-JUMP_COND.false
