-- The length's cell, and the bytes from the next one on.
use native.Mathlib.Numerals.{add-one}
use mathlib.Core.Path.{ap, ◌∙◌}
use lib.ListN.{length, length-set}
use lib.Seq.{length-sets}
use Rattle.table.proofs.stores.put_name.Goals as goal

pub shape_of-t : goal.shape_of-t
shape_of-t c = ap length c.put_bytes.ensures ∙ simp (length-sets, length-set)

pub returns : goal.returns
returns c = rw (← add-one c.args.k) c.put_bytes.ensures
