-- `listing::put_sizes`: three numbers and the line's end, one after the other.
use mathlib.Core.Path.{refl, sym, ◌∙◌}
use native.Mathlib.Omega.{arith}
use lib.ListN.{length-set}
use Rattle.language.specs.Bytes.{line_feed}
use Rattle.decimal.proofs.Writings.{written_then, written_one, written_length}
use Rattle.language.proofs.TableView.{register_count_law, block_count_law}
use Rattle.listing.specs.Lines.{sizes_written}
use Rattle.listing.proofs.Lines.{number_is}
use Rattle.listing.proofs.put_sizes.Goals as goal

pub shape_of-out : goal.shape_of-out
shape_of-out c =
    simp length-set
    (written_length c.put_field-g.ensures.0 ∙ written_length c.put_field-f.ensures.0 ∙ written_length c.put_field-e.ensures.0)

pub returns : goal.returns
unfolding sizes_written
returns c =
    let t = c.args.t.now in
    let registers = c.register_count.ensures.0 ∙ sym (register_count_law t c.args.a) in
    let blocks = c.block_count.ensures.0 ∙ sym (block_count_law t c.args.a) in
    let rows = c.row_count.ensures.0 in (
      written_then (written_then (written_then (number_is registers c.put_field-e.ensures.0) (number_is blocks c.put_field-f.ensures.0)) (number_is rows c.put_field-g.ensures.0))
          (written_one _ _ {c = line_feed} refl),
      omega (arith, c.put_field-e.ensures.1, c.put_field-f.ensures.1, c.put_field-g.ensures.1),
    )
