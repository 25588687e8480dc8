-- `put_merged`: the word, the number.
use mathlib.Core.Path.{refl, ap, ◌∙◌}
use mathlib.Core.List.{[], ◌∷◌, ◌++◌}
use native.Mathlib.Omega.{arith}
use lib.ListN.{length, length-set}
use lib.Seq.{length-sets}
use Rattle.language.specs.Bytes.{bytes_of, line_feed}
use Rattle.language.specs.Listing.{tab}
use Rattle.decimal.proofs.Writings.{written_then, written_one, written_bytes, written_length}
use Rattle.merge_lines.proofs.ShownLaws.{merged_parts}
use Rattle.merge_lines.proofs.shown.put_merged.Goals as goal

pub shape_of-out : goal.shape_of-out
shape_of-out c =
    simp length-set (written_length c.put_digits-e.ensures.0 ∙ ap length c.put_bytes.ensures ∙ simp length-sets)

pub returns : goal.returns
returns c =
    let number = c.put_digits-e.ensures in (
      rw (merged_parts c.args.n)
          (written_then (written_then (written_bytes 0 (bytes_of "merged" ++ (tab ∷ [])) c.put_bytes.ensures) number.0) (written_one _ _ {c = line_feed} refl)),
      omega (arith, number.1),
    )
