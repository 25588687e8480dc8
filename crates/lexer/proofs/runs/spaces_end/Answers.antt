use mathlib.Core.Path.{◌∙◌, sym}
use native.Mathlib.Omega.{arith}
use lib.ListN.{length, get_or}
use Rattle.lexer.specs.Runs.{is_space}
use Rattle.lexer.proofs.Passing.{run_none, run_more, stops_here, stops_at_end, space_yes, space_no}
use Rattle.lexer.proofs.runs.spaces_end.Goals as goal

pub loop-i-init : goal.loop-i-init
loop-i-init c = (run_none is_space c.args.text.now c.args.from, c.requires.0)

pub returns-then-class_of-ne-SPACE : goal.returns-then-class_of-ne-SPACE
returns-then-class_of-ne-SPACE c =
    let text = c.args.text.now in
    let i = c.loop-i.i in
    stops_here is_space text c.args.from (length text) i c.loop-i.invariant (space_no (get_or text i 0) (λ e. c.if-class_of-ne-SPACE.true (c.class_of.ensures ∙ e)))

pub loop-i-preserved : goal.loop-i-preserved
loop-i-preserved c =
    let text = c.args.text.now in
    let i = c.loop-i.i in
    (run_more is_space text c.args.from i c.loop-i.invariant.0 (space_yes (get_or text i 0) (sym c.class_of.ensures ∙ c.if-class_of-ne-SPACE.false)), omega arith)

pub returns : goal.returns
returns c = stops_at_end is_space c.args.text.now c.args.from (length c.args.text.now) c.loop-i.i c.loop-i.invariant c.loop-i-test.false
