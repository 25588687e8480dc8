-- `put_value`: the digits, behind a minus where the value is negative.
use mathlib.Core.Path.{refl, ◌∙◌}
use native.Mathlib.Omega.{arith}
use lib.ListN.{length-set}
use borrow.Author.Tests.{not-true, not-false}
use Rattle.language.specs.Bytes.{minus}
use Rattle.decimal.proofs.Writings.{written_then, written_one, written_length}
use Rattle.answer_lines.proofs.LinesLaws.{lowest_below, value_plain, value_negative}
use Rattle.answer_lines.proofs.put_value.Goals as goal

pub of_bits-m-requires : goal.of_bits-m-requires
of_bits-m-requires c =
    lowest_below c.args.kind c.args.v c.lowest.ensures

pub returns-then-not-m : goal.returns-then-not-m
returns-then-not-m c = (
  rw (value_plain c.args.kind c.args.v c.lowest.ensures c.of_bits-m.ensures (not-true _ c.if-not-m.true)) c.put_digits.ensures.0,
  omega (arith, c.put_digits.ensures.1),
)

pub put_digits-requires-2 : goal.put_digits-requires-2
put_digits-requires-2 c = simp length-set (omega arith)

pub shape_of-out : goal.shape_of-out
shape_of-out c = written_length c.put_digits-2.ensures.0 ∙ simp length-set

pub returns : goal.returns
returns c =
    let written = c.put_digits-2.ensures in (
      rw (value_negative c.args.kind c.args.v c.lowest.ensures c.of_bits-m.ensures (not-false _ c.if-not-m.false))
          (written_then (written_one c.args.out.now c.args.at {c = minus} refl) written.0),
      omega (arith, written.1),
    )
