-- `each`: the table is checked once; its refusal is every argument's.
use lib.ListN.{length}
use Rattle.ial.proofs.RunLaws.{run_accepted}
use Rattle.ial.proofs.EachLaws.{all_refused, all_accepted}
use Rattle.ial.proofs.many.each.Goals as goal

pub each_checked-requires : goal.each_checked-requires
each_checked-requires c =
    record { t_value = (run_accepted c.args.t.now c.args.function c.args.args.now c.args.budget (length c.args.registers.now) c.check_table.ensures c.in-Ok.is); out_len = c.requires }

pub returns-in-Err : goal.returns-in-Err
returns-in-Err c =
    all_refused c.args.t.now c.args.function c.args.args.now c.args.budget (length c.args.registers.now) c.check_table.ensures c.in-Err.is c.into.ensures c.same_each.ensures

pub returns-in-Ok : goal.returns-in-Ok
returns-in-Ok c =
    all_accepted c.args.t.now c.args.function c.args.args.now c.args.budget (length c.args.registers.now) (run_accepted c.args.t.now c.args.function c.args.args.now c.args.budget (length c.args.registers.now) c.check_table.ensures c.in-Ok.is) c.each_checked.ensures
