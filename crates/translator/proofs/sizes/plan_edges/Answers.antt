use Prim.Native.Nat.{◌<◌}
use mathlib.Core.Path.{sym, ◌∙◌}
use native.Mathlib.Omega.{arith}
use Rattle.language.specs.Table.{block_count, decode_function}
use Rattle.language.proofs.TableView.{block_count_law}
use Rattle.translator.proofs.Counting.{pairs_within, blocks_fit}
use Rattle.translator.proofs.SizesLaws.{planning_none, planning_next, planning_all, pairs_here}
use Rattle.translator.proofs.sizes.plan_edges.Goals as goal

pub block_count-n-requires : goal.block_count-n-requires
block_count-n-requires c = c.requires.translatable_at.sized.within

pub loop-y-init : goal.loop-y-init
loop-y-init c =
    let f = decode_function c.args.t.now c.args.a in
    (c.block_count-n.ensures.0, planning_none f c.args.plan.now c.block_count-n.result c.requires.plan_len (c.block_count-n.ensures.0 ∙ sym (block_count_law c.args.t.now c.args.a)))

pub overflow_cast-plan : goal.overflow_cast-plan
overflow_cast-plan c =
    let f = decode_function c.args.t.now c.args.a in
    omega (arith, c.loop-y.invariant.1.edge, block_count_law c.args.t.now c.args.a, pairs_within f c.loop-y.y (omega (arith, c.loop-y.invariant.0, block_count_law c.args.t.now c.args.a)), blocks_fit f c.requires.translatable_at.fits)

pub offset_bounds-plan-y : goal.offset_bounds-plan-y
offset_bounds-plan-y c = omega arith

pub bounds-plan-y : goal.bounds-plan-y
bounds-plan-y c = omega arith

pub pairs-next-requires : goal.pairs-next-requires
pairs-next-requires c = (c.requires.translatable_at.sized.within, c.requires.prepared.count, omega arith)

pub overflow_add-next : goal.overflow_add-next
overflow_add-next c =
    let f = decode_function c.args.t.now c.args.a in
    omega (arith, c.loop-y.invariant.1.edge, block_count_law c.args.t.now c.args.a, pairs_within f c.loop-y.y (omega (arith, c.loop-y.invariant.0, block_count_law c.args.t.now c.args.a)), blocks_fit f c.requires.translatable_at.fits)

pub loop-y-preserved : goal.loop-y-preserved
loop-y-preserved c =
    let t = c.args.t.now in
    let a = c.args.a in
    let known : c.loop-y.y < block_count t a = omega (arith, c.loop-y.invariant.0) in (
      c.loop-y.invariant.0,
      planning_next (decode_function t a) c.loop-y.plan c.loop-y.next c.loop-y.y c.pairs-next.result c.loop-y.invariant.1 (rw (block_count_law t a) known)
          (rw (block_count_law t a) c.requires.translatable_at.sized.blocks) (c.pairs-next.ensures.0 ∙ pairs_here t a c.args.m.now c.requires.prepared c.requires.translatable_at.clean c.requires.translatable_at.sized.placed c.loop-y.y known),
    )

pub shape_of-plan : goal.shape_of-plan
shape_of-plan c = omega (arith, c.loop-y.invariant.1.count, c.requires.plan_len)

pub returns : goal.returns
returns c =
    let f = decode_function c.args.t.now c.args.a in
    planning_all f c.loop-y.plan c.loop-y.next c.loop-y.y c.loop-y.invariant.1 (omega (arith, c.loop-y.invariant.0, block_count_law c.args.t.now c.args.a))
