-- `put_stopped`: the word, the number, the place, the steps.
use mathlib.Core.Path.{refl, sym, ap, ◌∙◌}
use native.Mathlib.Omega.{arith}
use lib.ListN.{length, length-set}
use lib.Seq.{length-sets}
use Rattle.language.specs.Bytes.{bytes_of, line_feed}
use Rattle.answers.specs.Reasons.{stop_number}
use Rattle.decimal.proofs.Writings.{written_then, written_one, written_bytes, written_length}
use Rattle.answer_lines.proofs.LinesLaws.{stopped_parts}
use Rattle.answer_lines.proofs.put_stopped.Goals as goal

pub shape_of-out : goal.shape_of-out
shape_of-out c =
    simp length-set
    (written_length c.put_field-g.ensures.0
    ∙ written_length c.put_field-f.ensures.0
    ∙ written_length c.put_field-e.ensures.0
    ∙ ap length c.put_bytes.ensures
    ∙ simp length-sets)

pub returns : goal.returns
returns c =
    let a = c.args in (
      rw (stopped_parts (stop_number a.stop) a.place a.steps, sym c.from.ensures, sym c.from-2.ensures)
          (written_then
          (written_then (written_then (written_then (written_bytes 0 (bytes_of "stopped") c.put_bytes.ensures) c.put_field-e.ensures.0) c.put_field-f.ensures.0) c.put_field-g.ensures.0)
          (written_one _ _ {c = line_feed} refl)),
      omega (arith, c.put_field-e.ensures.1, c.put_field-f.ensures.1, c.put_field-g.ensures.1),
    )
