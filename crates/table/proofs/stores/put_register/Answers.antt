-- The type's cell, and the name from the next one on.
use Prim.Native.Nat.{◌+◌, ◌*◌}
use native.Mathlib.Numerals.{add-one}
use native.Mathlib.Omega.{arith}
use mathlib.Core.Path.{ap, ◌∙◌}
use lib.ListN.{length, length-set}
use lib.Seq.{length-sets}
use Rattle.language.specs.Table.{register_length, registers_offset}
use Rattle.table.proofs.stores.put_register.Goals as goal

pub put_name-requires : goal.put_name-requires
put_name-requires c = (omega arith, simp length-set (omega arith))

pub shape_of-t : goal.shape_of-t
shape_of-t c = ap length c.put_name.ensures ∙ simp (length-sets, length-set)

pub returns : goal.returns
returns c = let args = c.args in
    rw (← add-one (args.a + registers_offset + register_length * args.r)) c.put_name.ensures
