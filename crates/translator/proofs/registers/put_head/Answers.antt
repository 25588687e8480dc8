-- The stores in a row are the run of the head's cells.
use native.Mathlib.Omega.{arith}
use Prim.Native.Nat.{◌≤◌}
use lib.ListN.{length, length-set}
use mathlib.Core.Path.{◌≡◌, ◌∙◌}
use Rattle.translator.proofs.RegistersLaws.{head_stores}
use Rattle.translator.proofs.registers.put_head.Goals as goal

pub put_two-requires : goal.put_two-requires
put_two-requires c = simp length-set (omega arith)

pub put_two-requires-2 : goal.put_two-requires-2
put_two-requires-2 c = omega (arith, simp length-set at c.put_two.auto.t)

pub bounds-out-7 : goal.bounds-out-7
bounds-out-7 c =
    -- the table keeps its length over the first five stores
    let stored : length c.put_two-2.new.t ≡ length c.args.out.now = c.put_two-2.auto.t ∙ c.put_two.auto.t ∙ simp length-set in
    omega (arith, stored)

pub bounds-out-8 : goal.bounds-out-8
bounds-out-8 c =
    -- the table keeps its length over the first five stores
    let stored : length c.put_two-2.new.t ≡ length c.args.out.now = c.put_two-2.auto.t ∙ c.put_two.auto.t ∙ simp length-set in
    simp length-set (omega (arith, stored))

pub put_name-requires : goal.put_name-requires
put_name-requires c =
    let few = c.requires.1 in
    let short : length c.function_name.result.now ≤ 64 = rw c.function_name.ensures few in
    -- the table keeps its length over the first five stores
    let stored : length c.put_two-2.new.t ≡ length c.args.out.now = c.put_two-2.auto.t ∙ c.put_two.auto.t ∙ simp length-set in
    (omega arith, simp length-set (omega (arith, stored)))

pub shape_of-out : goal.shape_of-out
shape_of-out c =
    -- the table keeps its length over the first five stores
    let stored : length c.put_two-2.new.t ≡ length c.args.out.now = c.put_two-2.auto.t ∙ c.put_two.auto.t ∙ simp length-set in
    c.put_name.auto.t ∙ simp length-set stored

pub returns : goal.returns
returns c =
    let args = c.args in
    head_stores args.t.now args.a args.registers args.blocks c.function_result.result c.function_entry.result args.out.now c.put_two.new.t
    c.put_two-2.new.t c.put_name.new.t c.function_name.result.now c.function_result.ensures c.function_params.result
    c.function_params.ensures.0 c.put_two.ensures c.put_two-2.ensures c.function_entry.ensures.0 c.function_name.ensures c.put_name.ensures
