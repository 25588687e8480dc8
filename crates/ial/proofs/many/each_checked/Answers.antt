-- `each_checked`: 21 for every argument, or the runs.
use native.Mathlib.Omega.{arith}
use lib.ListN.{length}
use Rattle.flow.proofs.Accepted.{accepted_length}
use Rattle.ial.proofs.EachLaws.{all_missing}
use Rattle.ial.proofs.many.each_checked.Goals as goal

pub function_count-requires : goal.function_count-requires
function_count-requires c =
    omega (arith, accepted_length c.args.t.now c.requires.t_value)

pub returns-then-function_count-function : goal.returns-then-function_count-function
returns-then-function_count-function c =
    all_missing c.args.t.now c.args.function c.args.args.now c.args.budget (length c.args.registers.now) (omega (arith, c.function_count.ensures.0, c.if-function_count-function.true)) c.into.ensures c.same_each.ensures

pub run_all-requires : goal.run_all-requires
run_all-requires c =
    record { t_value = c.requires.t_value; i_bound = omega (arith, c.function_count.ensures.0, c.if-function_count-function.false); taken_nonzero = omega arith; out_len = c.requires.out_len }

pub returns : goal.returns
returns c = c.run_all.ensures
