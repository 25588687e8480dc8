use Prim.Native.Nat.{◌+◌, ◌-◌, ◌*◌, ◌/◌}
use native.Mathlib.Nat.{mul-div-le}
use native.Mathlib.Omega.{arith}
use lib.ListN.{length}
use Rattle.lexer.specs.Runs.{in_line}
use Rattle.lexer.proofs.Passing.{run_none, run_then, run_to}
use Rattle.lexer.proofs.runs.eights.Goals as goal

pub loop-k-init : goal.loop-k-init
loop-k-init c = let a = c.args in run_to in_line a.text.now a.from a.from (a.from + 0) (omega arith) (run_none in_line a.text.now a.from)

pub returns-then-line_ends : goal.returns-then-line_ends
returns-then-line_ends c = (c.loop-k.invariant, omega arith)

pub loop-k-preserved : goal.loop-k-preserved
loop-k-preserved c =
    let text = c.args.text.now in
    let from = c.args.from in
    let i = from + 8 * c.loop-k.k in
    run_to in_line text from (i + 8) (from + 8 * (c.loop-k.k + 1)) (omega arith) (run_then in_line text from i (i + 8) c.loop-k.invariant (c.line_ends.ensures c.if-line_ends.false))

pub returns : goal.returns
returns c =
    let text = c.args.text.now in
    let from = c.args.from in
    let n = (length text - from) / 8 in
    (run_to in_line text from (from + 8 * c.loop-k.k) (from + 8 * n) (omega (arith, c.loop-k-test.false, c.loop-k.auto.k-end)) c.loop-k.invariant, omega (arith, mul-div-le (length text - from) 8))
