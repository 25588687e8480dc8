-- `put_left`: the word, the steps.
use mathlib.Core.Path.{refl, ap, ◌∙◌}
use native.Mathlib.Omega.{arith}
use lib.ListN.{length, length-set}
use lib.Seq.{length-sets}
use Rattle.language.specs.Bytes.{bytes_of, line_feed}
use Rattle.decimal.proofs.Writings.{written_then, written_one, written_bytes, written_length}
use Rattle.answer_lines.proofs.LinesLaws.{left_parts}
use Rattle.answer_lines.proofs.put_left.Goals as goal

pub shape_of-out : goal.shape_of-out
shape_of-out c =
    simp length-set (written_length c.put_field-e.ensures.0 ∙ ap length c.put_bytes.ensures ∙ simp length-sets)

pub returns : goal.returns
returns c =
    let number = c.put_field-e.ensures in (
      rw (left_parts c.args.steps)
          (written_then (written_then (written_bytes 0 (bytes_of "left") c.put_bytes.ensures) number.0) (written_one _ _ {c = line_feed} refl)),
      omega (arith, number.1),
    )
