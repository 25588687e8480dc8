-- `listing::put_field`: the tab, then the digits.
use mathlib.Core.Path.{refl, ◌∙◌}
use native.Mathlib.Omega.{arith}
use lib.ListN.{length-set}
use Rattle.language.specs.Listing.{tab}
use Rattle.decimal.proofs.Writings.{written_then, written_one, written_length}
use Rattle.listing.proofs.put_field.Goals as goal

pub put_digits-requires : goal.put_digits-requires
put_digits-requires c = simp length-set (omega arith)

pub shape_of-out : goal.shape_of-out
shape_of-out c = written_length c.put_digits.ensures.0 ∙ simp length-set

pub returns : goal.returns
returns c =
    let written = c.put_digits.ensures in
    (written_then (written_one c.args.out.now c.args.at {c = tab} refl) written.0, omega (arith, written.1))
