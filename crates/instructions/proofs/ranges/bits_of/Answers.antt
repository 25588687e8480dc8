-- `instructions::ranges::bits_of`: 2^w - v, which for 0 comes round to 0.
use mathlib.Core.Path.{refl}
use native.Mathlib.Omega.{arith}
use borrow.Author.Tests.{not-true, not-false}
use Rattle.language.specs.Reading.{bits_of}
use Rattle.instructions.proofs.RangesLaws.{range_most, bits_zero, bits_negative}
use Rattle.instructions.proofs.ranges.bits_of.Goals as goal

pub returns-then-not-negative : goal.returns-then-not-negative
unfolding bits_of
returns-then-not-negative c = rw (not-true c.args.negative c.if-not-negative.true-raw) refl

pub returns-then-magnitude-eq0 : goal.returns-then-magnitude-eq0
unfolding bits_of
returns-then-magnitude-eq0 c = rw (not-false c.args.negative c.if-not-negative.false-raw, c.if-magnitude-eq0.true) (bits_zero c.args.kind)

pub overflow_sub-result-2 : goal.overflow_sub-result-2
unfolding bits_of
overflow_sub-result-2 c =
    let a = c.args in
    let n = not-false a.negative c.if-not-negative.false-raw in
    omega (arith, c.largest.ensures, range_most a.kind a.magnitude (rw n at c.requires))

pub returns : goal.returns
unfolding bits_of
returns c =
    let a = c.args in
    let n = not-false a.negative c.if-not-negative.false-raw in
    rw n (bits_negative a.kind a.magnitude c.largest.result c.largest.ensures c.if-magnitude-eq0.false (range_most a.kind a.magnitude (rw n at c.requires)))
