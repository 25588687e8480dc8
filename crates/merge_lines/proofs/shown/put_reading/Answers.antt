-- `put_reading`: the digits, behind a minus where the reading is negative.
use mathlib.Core.Path.{refl, ◌∙◌}
use native.Mathlib.Omega.{arith}
use lib.ListN.{length-set}
use borrow.Author.Tests.{not-true, not-false}
use Rattle.language.specs.Bytes.{minus}
use Rattle.decimal.proofs.Writings.{written_then, written_one, written_length}
use Rattle.merge_lines.proofs.ShownLaws.{reading_fits, reading_plain, reading_negative}
use Rattle.merge_lines.proofs.shown.put_reading.Goals as goal

pub of_bits-m-requires : goal.of_bits-m-requires
of_bits-m-requires c = reading_fits c.args.x (omega arith)

pub returns-then-not-m : goal.returns-then-not-m
returns-then-not-m c =
    let written = c.put_digits.ensures in (
      rw (reading_plain c.args.x c.of_bits-m.ensures (not-true _ c.if-not-m.true)) written.0,
      omega (arith, written.1),
    )

pub put_digits-requires-2 : goal.put_digits-requires-2
put_digits-requires-2 c = simp length-set (omega arith)

pub shape_of-out : goal.shape_of-out
shape_of-out c = written_length c.put_digits-2.ensures.0 ∙ simp length-set

pub returns : goal.returns
returns c =
    let args = c.args in
    let written = c.put_digits-2.ensures in (
      rw (reading_negative args.x c.of_bits-m.ensures (not-false _ c.if-not-m.false))
          (written_then (written_one args.out.now args.at {c = minus} refl) written.0),
      omega (arith, written.1),
    )
