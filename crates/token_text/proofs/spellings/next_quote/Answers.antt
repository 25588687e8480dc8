use mathlib.Core.Path.{◌≡◌}
use native.Mathlib.Omega.{arith}
use lib.ListN.{length}
use Rattle.token_text.proofs.Escaping.{bare_none, bare_more}
use Rattle.token_text.proofs.spellings.next_quote.Goals as goal

pub loop-k-init : goal.loop-k-init
loop-k-init c = (omega arith, omega arith, bare_none c.args.name.now c.args.i)

pub bounds-name-k : goal.bounds-name-k
bounds-name-k c = omega arith

pub returns-then-name-k-eq-QUOTE : goal.returns-then-name-k-eq-QUOTE
returns-then-name-k-eq-QUOTE c =
    record { on = c.loop-k.invariant.0; within = c.loop-k.invariant.1; bare = c.loop-k.invariant.2; ends = λ w. c.if-name-k-eq-QUOTE.true }

pub loop-k-preserved : goal.loop-k-preserved
loop-k-preserved c =
    let args = c.args in
    (omega arith, omega arith, bare_more args.name.now args.i c.loop-k.k c.loop-k.invariant.0 c.loop-k-test.true c.loop-k.invariant.2 c.if-name-k-eq-QUOTE.false)

pub returns : goal.returns
returns c =
    let e : c.loop-k.k ≡ length c.args.name.now = omega arith in
    record { on = c.requires; within = omega arith; bare = rw e at c.loop-k.invariant.2; ends = λ w. absurd (omega arith) }
