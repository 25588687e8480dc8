use mathlib.Core.Path.{refl, ◌∙◌}
use native.Mathlib.Omega.{arith}
use Rattle.answers.specs.Numbers.{numbers_of}
use Rattle.ial.proofs.EachLaws.{each_more, each_all}
use Rattle.ial.proofs.many.same_each.Goals as goal

pub loop-k-init : goal.loop-k-init
loop-k-init c = (omega arith, refl, refl)

pub overflow_mul-k : goal.overflow_mul-k
overflow_mul-k c = omega arith

pub put-requires : goal.put-requires
put-requires c = omega arith

pub loop-k-preserved : goal.loop-k-preserved
loop-k-preserved c = (
  omega arith,
  c.put.auto.out ∙ c.loop-k.invariant.1,
  each_more (λ a. numbers_of c.args.x) c.args.args.now c.loop-k.out (c.loop-k.invariant.1 ∙ c.requires) c.loop-k.k (omega arith) c.loop-k.invariant.2 c.put.ensures,
)

pub shape_of-out : goal.shape_of-out
shape_of-out c = omega arith

pub returns : goal.returns
returns c =
    each_all (λ a. numbers_of c.args.x) c.args.args.now c.loop-k.out (c.loop-k.invariant.1 ∙ c.requires) c.loop-k.k (omega arith) c.loop-k.invariant.2
