use mathlib.Core.Path.{◌≡◌}
use mathlib.Core.Bool.{false}
use Prim.Native.Nat.{zero-le}
use native.Mathlib.Omega.{arith}
use lib.Dec.{eqb}
use lib.ListN.{get_or, length}
use borrow.Author.Tests.{eq-eqb, ne_eqb}
use Rattle.laws.proofs.Agreeing.{position_is}
use Rattle.laws.proofs.OneMore.{range_more}
use Rattle.merge_lines.proofs.told.first.Goals as goal

pub returns-then-x-b : goal.returns-then-x-b
returns-then-x-b c =
    let s = c.args in
    record {
      place = position_is (λ x. eqb x s.b) 0 s.s.now c.loop-i.i (omega arith) c.loop-i.invariant (λ h. eq-eqb _ s.b c.if-x-b.true);
      within = omega arith;
    }

pub loop-i-preserved : goal.loop-i-preserved
loop-i-preserved c =
    let s = c.args in
    λ k h.
    range_more (λ k. eqb (get_or s.s.now k 0) s.b ≡ false) 0 c.loop-i.i (λ k l. c.loop-i.invariant k) (ne_eqb _ s.b c.if-x-b.false) k zero-le h

pub returns : goal.returns
returns c =
    let s = c.args in
    record {
      place = position_is (λ x. eqb x s.b) 0 s.s.now (length s.s.now) (omega arith) (λ k l. c.loop-i.invariant k (omega arith)) (λ h. absurd (omega arith));
      within = tt;
    }
