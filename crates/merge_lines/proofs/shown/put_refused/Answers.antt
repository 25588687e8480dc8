-- `put_refused`: the word, the number, the place.
use mathlib.Core.Path.{refl, ap, ◌∙◌}
use mathlib.Core.List.{[], ◌∷◌, ◌++◌}
use native.Mathlib.Omega.{arith}
use lib.ListN.{length, length-set}
use lib.Seq.{length-sets}
use Rattle.language.specs.Bytes.{bytes_of, line_feed}
use Rattle.language.specs.Listing.{tab}
use Rattle.decimal.proofs.Writings.{written_then, written_one, written_bytes, written_length}
use Rattle.merge_lines.proofs.ShownLaws.{refused_parts}
use Rattle.merge_lines.proofs.shown.put_refused.Goals as goal

pub shape_of-out : goal.shape_of-out
shape_of-out c =
    simp length-set
    (written_length c.put_digits-f.ensures.0 ∙ written_length c.put_column-e.ensures.0 ∙ ap length c.put_bytes.ensures ∙ simp length-sets)

pub returns : goal.returns
returns c =
    let place = c.put_digits-f.ensures in
    let args = c.args in (
      rw (refused_parts args.number args.place)
          (written_then (written_then (written_then (written_bytes 0 (bytes_of "refused" ++ (tab ∷ [])) c.put_bytes.ensures) c.put_column-e.ensures.0) place.0)
          (written_one _ _ {c = line_feed} refl)),
      omega (arith, c.put_column-e.ensures.1, place.1),
    )
