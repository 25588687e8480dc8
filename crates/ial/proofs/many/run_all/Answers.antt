use mathlib.Core.Path.{refl, ◌∙◌}
use mathlib.Core.List.{[], ◌∷◌}
use native.Mathlib.Omega.{arith}
use lib.ListN.{length}
use Rattle.language.specs.Table.{decode}
use Rattle.language.specs.Answers.{ran_numbers, run_function}
use Rattle.ial.proofs.EachLaws.{each_more, each_all, run_cells}
use Rattle.ial.proofs.many.run_all.Goals as goal

pub loop-k-init : goal.loop-k-init
loop-k-init c = (omega arith, refl, refl, refl, refl)

pub run_within-r-requires : goal.run_within-r-requires
run_within-r-requires c =
    record { t_value = c.requires.t_value; i_bound = c.requires.i_bound; taken_nonzero = omega (arith, c.loop-k.invariant.1, c.requires.taken_nonzero) }

pub overflow_mul-k : goal.overflow_mul-k
overflow_mul-k c = omega arith

pub put-requires : goal.put-requires
put-requires c =
    omega (arith, c.loop-k.invariant.3, c.requires.out_len)

pub loop-k-preserved : goal.loop-k-preserved
loop-k-preserved c =
    let less = c.loop-k-test.true in (
      omega (arith, less),
      c.run_within-r.auto.taken ∙ c.loop-k.invariant.1,
      c.run_within-r.auto.registers ∙ c.loop-k.invariant.2,
      c.put.auto.out ∙ c.loop-k.invariant.3,
      each_more (λ a. ran_numbers (run_function (decode c.args.t.now) c.args.i (a ∷ []) c.args.budget (length c.args.registers.now)).answer) c.args.args.now c.loop-k.out (c.loop-k.invariant.3 ∙ c.requires.out_len) c.loop-k.k (omega (arith, less)) c.loop-k.invariant.4 (c.put.ensures ∙ run_cells (decode c.args.t.now) c.args.i c.args.budget c.args.args.now c.loop-k.k c.loop-k.out c.from.ensures c.run_within-r.ensures.answer c.loop-k.invariant.2 refl),
    )

pub shape_of-taken : goal.shape_of-taken
shape_of-taken c = omega arith

pub shape_of-registers : goal.shape_of-registers
shape_of-registers c = omega arith

pub shape_of-out : goal.shape_of-out
shape_of-out c = omega arith

pub returns : goal.returns
returns c =
    each_all (λ a. ran_numbers (run_function (decode c.args.t.now) c.args.i (a ∷ []) c.args.budget (length c.args.registers.now)).answer) c.args.args.now c.loop-k.out (c.loop-k.invariant.3 ∙ c.requires.out_len) c.loop-k.k (omega arith) c.loop-k.invariant.4
