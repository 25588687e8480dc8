-- `instructions::ranges::number_in_range`: one law for each sign, signed and not.
use mathlib.Core.Path.{sym, ◌∙◌}
use Rattle.instructions.proofs.RangesLaws.{signed_negative, signed_positive, unsigned_negative, unsigned_positive}
use Rattle.instructions.proofs.ranges.number_in_range.Goals as goal

pub returns-then-negative : goal.returns-then-negative
returns-then-negative c =
    let a = c.args in
    rw c.if-negative.true (signed_negative a.kind a.magnitude c.largest-most.result c.largest-most.ensures (sym c.signed.ensures ∙ c.if-signed.true))

pub returns-then-signed : goal.returns-then-signed
returns-then-signed c =
    let a = c.args in
    rw c.if-negative.false (signed_positive a.kind a.magnitude c.largest-most.result c.largest-most.ensures (sym c.signed.ensures ∙ c.if-signed.true))

pub returns-then-negative-2 : goal.returns-then-negative-2
returns-then-negative-2 c =
    let a = c.args in
    rw c.if-negative-2.true (unsigned_negative a.kind a.magnitude c.largest-most.result c.largest-most.ensures (sym c.signed.ensures ∙ c.if-signed.false))

pub returns : goal.returns
returns c =
    let a = c.args in
    rw c.if-negative-2.false (unsigned_positive a.kind a.magnitude c.largest-most.result c.largest-most.ensures (sym c.signed.ensures ∙ c.if-signed.false))
