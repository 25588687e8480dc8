use native.Mathlib.Omega.{arith}
use mathlib.Core.Path.{refl}
use lib.ListN.{length-set}
use Rattle.merge.proofs.Fours.{taken_more, taken_all}
use Rattle.merge.proofs.many.take_readings.Goals as goal

pub loop-j-init : goal.loop-j-init
loop-j-init c = (refl, λ k l. absurd (omega arith))

pub overflow_mul-out : goal.overflow_mul-out
overflow_mul-out c = omega (arith, c.loop-j-test.true, c.loop-j.invariant.0, c.requires, c.well_formed.0.0)

pub overflow_add-out : goal.overflow_add-out
overflow_add-out c = omega (arith, c.loop-j-test.true, c.loop-j.invariant.0, c.requires, c.well_formed.0.0)

pub offset_bounds-tests-j : goal.offset_bounds-tests-j
offset_bounds-tests-j c = omega (arith, c.loop-j-test.true, c.loop-j.invariant.0, c.requires, c.well_formed.0.1)

pub bounds-tests-j : goal.bounds-tests-j
bounds-tests-j c = omega (arith, c.loop-j-test.true, c.loop-j.invariant.0, c.requires)

pub offset_bounds-out-j : goal.offset_bounds-out-j
offset_bounds-out-j c = omega (arith, c.loop-j-test.true, c.loop-j.invariant.0, c.well_formed.1.0.1)

pub bounds-out-j : goal.bounds-out-j
bounds-out-j c = c.loop-j-test.true

pub overflow_add-j : goal.overflow_add-j
overflow_add-j c = omega (arith, c.loop-j-test.true, c.loop-j.invariant.0, c.well_formed.1.0.0)

pub loop-j-smaller : goal.loop-j-smaller
loop-j-smaller c = simp length-set (omega (arith, c.loop-j-test.true))

pub loop-j-preserved : goal.loop-j-preserved
loop-j-preserved c =
    (simp length-set c.loop-j.invariant.0, taken_more c.args.tests.now c.loop-j.out c.loop-j.j c.loop-j-test.true c.loop-j.invariant.1)

pub shape_of-out : goal.shape_of-out
shape_of-out c = c.loop-j.invariant.0

pub returns : goal.returns
returns c =
    taken_all c.args.tests.now c.loop-j.out c.loop-j.j (omega (arith, c.requires, c.loop-j.invariant.0)) (omega (arith, c.loop-j-test.false)) c.loop-j.invariant.1
