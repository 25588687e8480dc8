-- The definition's two tests.
use native.Mathlib.Omega.{arith}
use Rattle.checker.proofs.RowsLaws.{no_phi_law, phi_misplaced, phi_placed_law}
use Rattle.checker.proofs.sound.entries_after.Goals as goal

pub returns-then-row_op-ne-PHI : goal.returns-then-row_op-ne-PHI
returns-then-row_op-ne-PHI c = let args = c.args in (no_phi_law args.t.now args.a args.k args.n c.row_op.ensures c.if-row_op-ne-PHI.true, omega arith)

pub returns-then-phi_first-n : goal.returns-then-phi_first-n
returns-then-phi_first-n c =
    let args = c.args in
    omega (arith, phi_misplaced args.t.now args.a args.k args.n c.row_op.ensures c.if-row_op-ne-PHI.false c.phi_first.ensures.0 c.if-phi_first-n.true)

pub overflow_add-entries : goal.overflow_add-entries
overflow_add-entries c = omega arith

pub returns-then-entries-gt-MAX_ENTRIES : goal.returns-then-entries-gt-MAX_ENTRIES
returns-then-entries-gt-MAX_ENTRIES c =
    let args = c.args in
    omega (arith, phi_placed_law args.t.now args.a args.k args.n c.row_op.ensures c.if-row_op-ne-PHI.false c.phi_first.ensures.0 c.if-phi_first-n.false c.phi_count.ensures.0)

pub returns : goal.returns
returns c =
    let args = c.args in
    (phi_placed_law args.t.now args.a args.k args.n c.row_op.ensures c.if-row_op-ne-PHI.false c.phi_first.ensures.0 c.if-phi_first-n.false c.phi_count.ensures.0, omega arith)
