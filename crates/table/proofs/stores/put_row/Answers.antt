-- Four cells, and the operand's eight behind them.
use Prim.Native.Nat.{◌+◌, ◌*◌}
use native.Mathlib.Numerals.{add-one, add-two, add-three, add-four}
use native.Mathlib.Omega.{arith}
use mathlib.Core.Path.{ap, ◌∙◌}
use lib.ListN.{length, length-set}
use Rattle.language.specs.Table.{row_length, rows_offset}
use Rattle.table.proofs.stores.put_row.Goals as goal

pub bounds-t-k-2 : goal.bounds-t-k-2
bounds-t-k-2 c = simp length-set (omega arith)

pub bounds-t-k-3 : goal.bounds-t-k-3
bounds-t-k-3 c = simp length-set (omega arith)

pub bounds-t-k-4 : goal.bounds-t-k-4
bounds-t-k-4 c = simp length-set (omega arith)

pub put_eight-requires : goal.put_eight-requires
put_eight-requires c = simp length-set (omega arith)

pub shape_of-t : goal.shape_of-t
shape_of-t c = ap length c.put_eight.ensures ∙ simp length-set

pub returns : goal.returns
returns c = let args = c.args in
    let k = args.a + rows_offset + row_length * args.r in
    rw (← add-four k, ← add-three k, ← add-two k, ← add-one k) c.put_eight.ensures
