-- `lexer::runs::line_ends`: each of the eight bytes is tested.
use mathlib.Core.Path.{subst}
use Prim.Native.Nat.{◌+◌}
use native.Mathlib.Omega.{arith}
use lib.Dec.{T}
use lib.ListN.{get_or}
use Rattle.lexer.specs.Runs.{in_line}
use Rattle.lexer.proofs.Passing.{run_none, run_more, run_to, line_yes}
use Rattle.lexer.proofs.runs.line_ends.Goals as goal

pub loop-j-init : goal.loop-j-init
loop-j-init c = run_none in_line c.args.text.now c.args.i

pub returns-then-text-j-eq10 : goal.returns-then-text-j-eq10
returns-then-text-j-eq10 c e = absurd (subst T e tt)

pub loop-j-preserved : goal.loop-j-preserved
loop-j-preserved c =
    let text = c.args.text.now in
    let j = c.loop-j.j in
    run_more in_line text c.args.i j c.loop-j.invariant (line_yes (get_or text j 0) c.if-text-j-eq10.false)

pub returns : goal.returns
returns c e = run_to in_line c.args.text.now c.args.i c.loop-j.j (c.args.i + 8) (omega (arith, c.loop-j-test.false, c.loop-j.auto.j-end (omega arith))) c.loop-j.invariant
