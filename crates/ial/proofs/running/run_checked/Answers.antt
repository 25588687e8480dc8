-- `run_checked`: a function that is there is run.
use native.Mathlib.Omega.{arith}
use lib.ListN.{length}
use Rattle.language.specs.Table.{decode}
use Rattle.flow.proofs.Accepted.{accepted_length}
use Rattle.ial.proofs.RunLaws.{run_missing, from_zeros}
use Rattle.ial.proofs.running.run_checked.Goals as goal

pub function_count-requires : goal.function_count-requires
function_count-requires c =
    omega (arith, accepted_length c.args.t.now c.requires.t_value)

pub returns-then-function_count-function : goal.returns-then-function_count-function
returns-then-function_count-function c =
    rw c.refuse.ensures (run_missing c.args.t.now c.args.function c.args.args.now c.args.budget (length c.args.registers.now) (omega (arith, c.function_count.ensures.0, c.if-function_count-function.true)) c.requires.registers_value)

pub run_within-requires : goal.run_within-requires
run_within-requires c =
    record { t_value = c.requires.t_value; i_bound = omega (arith, c.function_count.ensures.0, c.if-function_count-function.false); taken_nonzero = omega arith }

pub returns : goal.returns
returns c =
    from_zeros (decode c.args.t.now) c.args.function c.args.args.now c.args.budget c.args.registers.now _ c.run_within.ensures c.requires.registers_value
