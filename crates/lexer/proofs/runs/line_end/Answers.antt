use native.Mathlib.Omega.{arith}
use lib.ListN.{length, get_or}
use Rattle.lexer.specs.Runs.{in_line}
use Rattle.lexer.proofs.Passing.{run_more, stops_here, stops_at_end, line_yes, line_no}
use Rattle.lexer.proofs.runs.line_end.Goals as goal

pub loop-i-init : goal.loop-i-init
loop-i-init c = c.eights-i.ensures

pub returns-then-text-i-eq10 : goal.returns-then-text-i-eq10
returns-then-text-i-eq10 c =
    let text = c.args.text.now in
    let i = c.loop-i.i in
    stops_here in_line text c.args.from (length text) i c.loop-i.invariant (line_no (get_or text i 0) c.if-text-i-eq10.true)

pub loop-i-preserved : goal.loop-i-preserved
loop-i-preserved c =
    let text = c.args.text.now in
    let i = c.loop-i.i in
    (run_more in_line text c.args.from i c.loop-i.invariant.0 (line_yes (get_or text i 0) c.if-text-i-eq10.false), omega (arith, c.loop-i-test.true))

pub returns : goal.returns
returns c =
    stops_at_end in_line c.args.text.now c.args.from (length c.args.text.now) c.loop-i.i c.loop-i.invariant c.loop-i-test.false
