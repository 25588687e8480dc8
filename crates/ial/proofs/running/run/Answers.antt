-- `run`: the registers are zeroed, the table is checked whole, then its function is run.
use mathlib.Core.Path.{refl, sym, ap, ◌∙◌}
use lib.ListN.{length}
use Rattle.std.proofs.lemmas.Result.{err_from_is_err_and}
use Rattle.language.specs.Table.{decode}
use Rattle.language.specs.Answers.{zeros, run_function}
use Rattle.ial.proofs.RunLaws.{all_zero, run_refused, run_on}
use Rattle.ial.proofs.running.run.Goals as goal

pub run_checked-requires : goal.run_checked-requires
run_checked-requires c =
    record { t_value = sym c.in_ok-check_table.ensures; registers_value = all_zero _ c.start.ensures ∙ ap zeros (sym c.start.auto.registers) }

pub returns-in_err-check_table : goal.returns-in_err-check_table
returns-in_err-check_table c =
    let p = err_from_is_err_and c.from_residual.result c.from_residual.ensures.1 in
    rw (p.1, p.2)
    (run_refused c.args.t.now c.args.function c.args.args.now c.args.budget (length c.args.registers.now) c.in_err-check_table.ensures refl (all_zero _ c.start.ensures))

pub returns : goal.returns
returns c =
    run_on c.args.t.now c.args.function c.args.args.now c.args.budget (length c.args.registers.now) (sym c.in_ok-check_table.ensures)
    (c.run_checked.ensures ∙ ap (run_function (decode c.args.t.now) c.args.function c.args.args.now c.args.budget) c.start.auto.registers)
