-- Each way is a case of `renamed_as`.
use native.Mathlib.Omega.{arith}
use Rattle.translator.proofs.Lookups.{renamed_not, renamed_so}
use Rattle.translator.proofs.prepared.renamed.Goals as goal

pub returns-then-phis-eq0 : goal.returns-then-phis-eq0
returns-then-phis-eq0 c =
    let args = c.args in
    renamed_not args.t.now args.a args.m.now args.plan.now args.x args.y c.phis.result c.phis.ensures.0 c.if-phis-eq0.true (omega arith)

pub returns : goal.returns
returns c =
    let args = c.args in
    renamed_so args.t.now args.a args.m.now args.plan.now args.x args.y c.phis.result c.phis.ensures.0 c.if-phis-eq0.false
    c.from.result c.rank.result c.from.ensures (rw c.from.ensures (c.type_inv.plan args.y).fits) c.rank.ensures.0 c.rank.ensures.1
