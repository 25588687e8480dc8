use mathlib.Core.Path.{sym, ap, ◌∙◌}
use native.Mathlib.Omega.{arith}
use lib.Dec.{eqb}
use borrow.Author.Count.{below_none, below_more}
use borrow.Author.Tests.{eq-eqb}
use Rattle.language.specs.Instructions.{phi_op}
use Rattle.flow.proofs.LeadingLaws.{phis_to, phis_all}
use Rattle.flow.proofs.leading.leading_phis.Goals as goal

pub loop-j-init : goal.loop-j-init
loop-j-init c = (omega arith, below_none _)

pub overflow_add-first : goal.overflow_add-first
overflow_add-first c = omega arith

pub row_op-requires : goal.row_op-requires
row_op-requires c = (omega arith, omega arith)

pub returns-then-row_op-ne-PHI : goal.returns-then-row_op-ne-PHI
returns-then-row_op-ne-PHI c =
    let args = c.args in
    phis_to args.t.now args.a args.first args.rows c.loop-j.j _ (omega arith) c.loop-j.invariant.1 c.row_op.ensures c.if-row_op-ne-PHI.true

pub loop-j-preserved : goal.loop-j-preserved
loop-j-preserved c =
    (omega arith, below_more _ _ c.loop-j.invariant.1 (ap (λ o. eqb o phi_op) (sym c.row_op.ensures) ∙ eq-eqb _ _ c.if-row_op-ne-PHI.false))

pub returns : goal.returns
returns c =
    let args = c.args in
    phis_all args.t.now args.a args.first args.rows (λ i l. c.loop-j.invariant.1 i (omega arith))
