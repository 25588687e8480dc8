use Prim.Native.Nat.{zero-le}
use native.Mathlib.Omega.{arith}
use borrow.Author.Tests.{not-true, not-false}
use Rattle.laws.proofs.OneMore.{range_more}
use Rattle.stored.specs.Known.{RecordFollows}
use Rattle.stored.proofs.LibLaws.{told, told_not}
use Rattle.stored.proofs.all_follow.Goals as goal

pub loop-i-init : goal.loop-i-init
loop-i-init c = (omega arith, λ k l. absurd (omega arith))

pub returns-then-not-follows : goal.returns-then-not-follows
returns-then-not-follows c = told_not (λ p. c.follows.ensures.no (not-true _ c.if-not-follows.true-raw) (p c.loop-i.i c.loop-i-test.true))

pub loop-i-preserved : goal.loop-i-preserved
loop-i-preserved c =
    let s = c.args.s.now in
    (omega arith, λ k l. range_more (RecordFollows s) 0 c.loop-i.i (λ j z. c.loop-i.invariant.1 j) (c.follows.ensures.yes (not-false _ c.if-not-follows.false-raw)) k zero-le l)

pub returns : goal.returns
returns c = told (λ k l. c.loop-i.invariant.1 k (omega arith))
