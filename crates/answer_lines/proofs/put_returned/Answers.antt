-- `put_returned`: the word, the value, the steps.
use mathlib.Core.Path.{refl, ap, ◌∙◌}
use mathlib.Core.List.{[], ◌∷◌, ◌++◌}
use native.Mathlib.Omega.{arith}
use lib.ListN.{length, length-set}
use lib.Seq.{length-sets}
use Rattle.language.specs.Bytes.{bytes_of, line_feed}
use Rattle.language.specs.Listing.{tab}
use Rattle.decimal.proofs.Writings.{written_then, written_one, written_bytes, written_length}
use Rattle.answer_lines.proofs.LinesLaws.{returned_parts}
use Rattle.answer_lines.proofs.put_returned.Goals as goal

pub shape_of-out : goal.shape_of-out
shape_of-out c =
    simp length-set
    (written_length c.put_field-f.ensures.0 ∙ written_length c.put_value-e.ensures.0 ∙ ap length c.put_bytes.ensures ∙ simp length-sets)

pub returns : goal.returns
returns c =
    let number = c.put_field-f.ensures in
    let a = c.args in (
      rw (returned_parts a.kind a.v a.steps)
          (written_then (written_then (written_then (written_bytes 0 (bytes_of "returned" ++ (tab ∷ [])) c.put_bytes.ensures) c.put_value-e.ensures.0) number.0)
          (written_one _ _ {c = line_feed} refl)),
      omega (arith, c.put_value-e.ensures.1, number.1),
    )
