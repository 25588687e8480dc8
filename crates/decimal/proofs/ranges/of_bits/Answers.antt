-- `decimal::ranges::of_bits`: from half of 2^w on a signed type's numbers mean negative ones.
use borrow.Author.Tests.{not-true, not-false}
use mathlib.Core.Path.{sym, ◌∙◌}
use Rattle.decimal.proofs.RangesLaws.{means_unsigned, means_positive, means_negative}
use Rattle.decimal.proofs.ranges.of_bits.Goals as goal

pub returns-then-not-signed : goal.returns-then-not-signed
returns-then-not-signed c =
    let a = c.args in
    means_unsigned a.kind a.x _ c.largest-most.ensures (sym c.signed.ensures ∙ not-true _ c.if-not-signed.true-raw)

pub returns-then-x-most : goal.returns-then-x-most
returns-then-x-most c =
    let a = c.args in
    means_positive a.kind a.x _ c.largest-most.ensures (sym c.signed.ensures ∙ not-false _ c.if-not-signed.false-raw) c.if-x-most.true

pub returns : goal.returns
returns c =
    let a = c.args in
    means_negative a.kind a.x _ c.largest-most.ensures (sym c.signed.ensures ∙ not-false _ c.if-not-signed.false-raw) c.if-x-most.false c.requires
