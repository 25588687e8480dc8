use native.Mathlib.Omega.{arith}
use Rattle.store.proofs.SearchLaws.{all_of_them, halved, halves_meet}
use Rattle.store.proofs.search.place.Goals as goal

pub loop-left-init : goal.loop-left-init
loop-left-init c = all_of_them _ _ _

pub overflow_sub-left : goal.overflow_sub-left
overflow_sub-left c = omega arith

pub overflow_add-lo : goal.overflow_add-lo
overflow_add-lo c = omega (arith, c.loop-left.invariant.within)

pub past-lo-requires : goal.past-lo-requires
past-lo-requires c = omega (arith, c.loop-left.invariant.within)

pub loop-left-smaller : goal.loop-left-smaller
loop-left-smaller c = omega arith

pub loop-left-preserved : goal.loop-left-preserved
loop-left-preserved c = halved _ _ _ _ _ c.loop-left.invariant c.loop-left-test.true c.past-lo.result c.past-lo.ensures

pub returns : goal.returns
returns c = halves_meet _ _ _ _ _ c.loop-left.invariant c.loop-left-test.false
