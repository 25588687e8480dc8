use Prim.Native.Nat.{◌+◌}
use native.Mathlib.Omega.{arith}
use lib.ListN.{length, get_or}
use Rattle.language.specs.Bytes.{name_byte}
use Rattle.lexer.proofs.Passing.{run_none, run_more, stops_here, stops_at_end, name_yes, name_no, limit_within, limit_after}
use Rattle.lexer.proofs.runs.name_end.Goals as goal

pub limit-end-requires : goal.limit-end-requires
limit-end-requires c = omega (arith, c.requires.0)

pub loop-i-init : goal.loop-i-init
loop-i-init c =
    (run_none name_byte c.args.text.now (c.args.start + 1), rw c.limit-end.ensures (limit_after (length c.args.text.now) c.args.start c.requires.0))

pub bounds-text-i : goal.bounds-text-i
bounds-text-i c =
    let w = limit_within (length c.args.text.now) c.args.start (omega (arith, c.requires.0)) in
    omega (arith, c.loop-i-test.true, c.limit-end.ensures, w.0)

pub returns-then-class_of-ge-SPACE : goal.returns-then-class_of-ge-SPACE
returns-then-class_of-ge-SPACE c =
    let text = c.args.text.now in
    let i = c.loop-i.i in
    rw (← c.limit-end.ensures)
    (stops_here name_byte text (c.args.start + 1) c.limit-end.result i c.loop-i.invariant
    (name_no (get_or text i 0) (rw c.class_of.ensures at c.if-class_of-ge-SPACE.true)))

pub loop-i-preserved : goal.loop-i-preserved
loop-i-preserved c =
    let text = c.args.text.now in
    let i = c.loop-i.i in
    (run_more name_byte text (c.args.start + 1) i c.loop-i.invariant.0 (name_yes (get_or text i 0) (rw c.class_of.ensures at c.if-class_of-ge-SPACE.false)), omega arith)

pub returns : goal.returns
returns c =
    rw (← c.limit-end.ensures)
    (stops_at_end name_byte c.args.text.now (c.args.start + 1) c.limit-end.result c.loop-i.i c.loop-i.invariant c.loop-i-test.false)
