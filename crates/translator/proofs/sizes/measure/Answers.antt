use native.Mathlib.Omega.{arith}
use Rattle.translator.proofs.SizesLaws.{measured_none, measured_next, measured_all, product_small, fewer_phis}
use Rattle.translator.proofs.sizes.measure.Goals as goal

pub block_count-n-requires : goal.block_count-n-requires
block_count-n-requires c = omega (arith, c.requires.sized.within)

pub loop-b-init : goal.loop-b-init
loop-b-init c = let args = c.args in (c.block_count-n.ensures.0, measured_none args.t.now args.a c.block_count-n.result)

pub phis-p-requires : goal.phis-p-requires
phis-p-requires c = (c.requires.prepared.count, omega (arith, c.requires.sized.blocks, c.loop-b.invariant.0))

pub pairs-e-requires : goal.pairs-e-requires
pairs-e-requires c = (c.requires.sized.within, c.requires.prepared.count, omega (arith, c.requires.sized.blocks, c.loop-b.invariant.0))

pub overflow_add-new : goal.overflow_add-new
overflow_add-new c = omega arith

pub overflow_add-edges : goal.overflow_add-edges
overflow_add-edges c = omega arith

pub block_rows-requires : goal.block_rows-requires
block_rows-requires c = (c.requires.sized.within, omega (arith, c.requires.sized.blocks, c.loop-b.invariant.0))

pub overflow_mul-rows : goal.overflow_mul-rows
overflow_mul-rows c = omega arith

pub overflow_add-rows : goal.overflow_add-rows
overflow_add-rows c = omega arith

pub overflow_mul-rows-in-loop-b : goal.overflow_mul-rows-in-loop-b
overflow_mul-rows-in-loop-b c = omega (arith, product_small c.phis-p.result c.pairs-e.result c.phis-p.ensures.1 c.pairs-e.ensures.1)

pub overflow_add-rows-in-loop-b : goal.overflow_add-rows-in-loop-b
overflow_add-rows-in-loop-b c = omega (arith, product_small c.phis-p.result c.pairs-e.result c.phis-p.ensures.1 c.pairs-e.ensures.1)

pub overflow_add-rows-in-loop-b-2 : goal.overflow_add-rows-in-loop-b-2
overflow_add-rows-in-loop-b-2 c = omega (arith, product_small c.phis-p.result c.pairs-e.result c.phis-p.ensures.1 c.pairs-e.ensures.1)

pub loop-b-preserved : goal.loop-b-preserved
loop-b-preserved c = (
  c.loop-b.invariant.0,
  measured_next c.args.t.now c.args.a c.args.m.now c.requires.sized c.requires.prepared c.requires.clean c.block_count-n.result c.loop-b.new
      c.loop-b.edges c.loop-b.rows c.loop-b.b c.phis-p.result c.pairs-e.result c.block_rows.result c.loop-b.invariant.0 c.loop-b-test.true
      c.loop-b.invariant.1 c.phis-p.ensures.0 c.phis-p.ensures.1 c.pairs-e.ensures.0 c.pairs-e.ensures.1 c.block_rows.ensures.0 c.block_rows.ensures.1,
)

pub register_count-requires : goal.register_count-requires
register_count-requires c = c.requires.sized.within

pub overflow_add-result : goal.overflow_add-result
overflow_add-result c = omega arith

pub overflow_add-result-2 : goal.overflow_add-result-2
overflow_add-result-2 c = omega arith

pub overflow_sub-result : goal.overflow_sub-result
overflow_sub-result c =
    fewer_phis c.args.t.now c.args.a c.block_count-n.result c.loop-b.new c.loop-b.edges c.loop-b.rows c.loop-b.b c.loop-b.invariant.0
    c.loop-b.invariant.1 c.loop-b-test.false

pub returns : goal.returns
returns c =
    measured_all c.args.t.now c.args.a c.block_count-n.result c.loop-b.new c.loop-b.edges c.loop-b.rows c.loop-b.b c.loop-b.invariant.0
    c.loop-b.invariant.1 c.loop-b-test.false c.register_count.result c.register_count.ensures.0
