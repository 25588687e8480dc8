use mathlib.Core.Path.{◌≡◌}
use Prim.Native.Nat.{◌<◌}
use native.Mathlib.Omega.{arith}
use Rattle.language.specs.Table.{block_count}
use Rattle.flow.proofs.Standing.{block_limit}
use Rattle.flow.proofs.LeadingLaws.{none_led, led_more, lead_is}
use Rattle.flow.proofs.leading.prepare_leading.Goals as goal

pub block_count-b-end-requires : goal.block_count-b-end-requires
block_count-b-end-requires c = c.requires.0.sized.within

pub loop-b-init : goal.loop-b-init
loop-b-init c = (omega arith, none_led _ _)

pub block_first-first-requires : goal.block_first-first-requires
block_first-first-requires c = (c.requires.0.sized.within, omega (arith, c.requires.0.sized.blocks, c.block_count-b-end.ensures.0, c.loop-b-test.true))

pub block_rows-rows-requires : goal.block_rows-rows-requires
block_rows-rows-requires c = (c.requires.0.sized.within, omega (arith, c.requires.0.sized.blocks, c.block_count-b-end.ensures.0, c.loop-b-test.true))

pub leading_phis-requires : goal.leading_phis-requires
leading_phis-requires c =
    let l : c.loop-b.b < block_count c.args.t.now c.args.a = omega (arith, c.block_count-b-end.ensures.0, c.loop-b-test.true) in
    (c.requires.0.sized.within, block_limit c.args.t.now c.args.a c.requires.0.sized c.loop-b.b _ _ l c.block_first-first.ensures.0 c.block_rows-rows.ensures.0)

pub overflow_cast-m : goal.overflow_cast-m
overflow_cast-m c =
    let l : c.loop-b.b < block_count c.args.t.now c.args.a = omega (arith, c.block_count-b-end.ensures.0, c.loop-b-test.true) in
    omega (arith, c.leading_phis.ensures.1, block_limit c.args.t.now c.args.a c.requires.0.sized c.loop-b.b _ _ l c.block_first-first.ensures.0 c.block_rows-rows.ensures.0)

pub overflow_add-m : goal.overflow_add-m
overflow_add-m c = omega (arith, c.requires.0.sized.blocks, c.block_count-b-end.ensures.0, c.loop-b-test.true)

pub offset_bounds-m-b : goal.offset_bounds-m-b
offset_bounds-m-b c = omega (arith, c.requires.0.sized.blocks, c.block_count-b-end.ensures.0, c.loop-b-test.true)

pub bounds-m-b : goal.bounds-m-b
bounds-m-b c = omega (arith, c.requires.1, c.requires.0.sized.blocks, c.block_count-b-end.ensures.0, c.loop-b-test.true, c.loop-b.invariant.1.count)

pub loop-b-preserved : goal.loop-b-preserved
loop-b-preserved c =
    let l : c.loop-b.b < block_count c.args.t.now c.args.a = omega (arith, c.block_count-b-end.ensures.0, c.loop-b-test.true) in
    let is = lead_is c.args.t.now c.args.a c.loop-b.b l _ _ c.block_first-first.ensures.0 c.block_rows-rows.ensures.0 c.leading_phis.result c.leading_phis.ensures.0 in
    (omega (arith, c.loop-b-test.true), led_more _ _ _ c.loop-b.b _ c.requires.1 (omega (arith, c.requires.0.sized.blocks, l)) is c.loop-b.invariant.1)

pub shape_of-m : goal.shape_of-m
shape_of-m c = c.loop-b.invariant.1.count

pub returns : goal.returns
returns c =
    let e : c.loop-b.b ≡ block_count c.args.t.now c.args.a = omega (arith, c.block_count-b-end.ensures.0, c.loop-b-test.false, c.loop-b.invariant.0) in
    rw e at c.loop-b.invariant.1
