-- Each way is a case of `pairs_in`.
use Rattle.translator.proofs.Lookups.{pairs_none, pairs_some}
use Rattle.translator.proofs.prepared.pairs.Goals as goal

pub returns-then-phis-eq0 : goal.returns-then-phis-eq0
returns-then-phis-eq0 c =
    let args = c.args in
    pairs_none args.t.now args.a args.m.now args.b c.phis.result c.phis.ensures.0 c.if-phis-eq0.true

pub returns : goal.returns
returns c =
    let args = c.args in
    pairs_some args.t.now args.a args.m.now args.b c.phis.result c.phis.ensures.0 c.if-phis-eq0.false c.requires.0 c.requires.2
    c.predecessor_count.ensures.0 c.predecessor_count.ensures.1
