-- `put_column`: the digits, then the tab.
use mathlib.Core.Path.{refl}
use native.Mathlib.Omega.{arith}
use Rattle.language.specs.Listing.{tab}
use Rattle.decimal.proofs.Writings.{written_then, written_one}
use Rattle.merge_lines.proofs.shown.put_column.Goals as goal

pub returns : goal.returns
returns c =
    let written = c.put_digits-e.ensures in
    (written_then written.0 (written_one _ _ {c = tab} refl), omega (arith, written.1))
