-- `translate`: the output is zeroed, the table is checked whole, then its function is translated.
use mathlib.Core.Path.{refl, sym, ap, ◌∙◌}
use lib.ListN.{length}
use Rattle.std.proofs.lemmas.Result.{err_from_is_err_and}
use Rattle.language.specs.Table.{decode}
use Rattle.language.specs.Answers.{zeros, translate_function}
use Rattle.ial.proofs.TranslateLaws.{translate_refused, translate_on}
use Rattle.ial.proofs.translating.translate.Goals as goal

pub translate_checked-requires : goal.translate_checked-requires
translate_checked-requires c =
    record { t_value = sym c.in_ok-check_table.ensures; out_value = c.zero.ensures ∙ ap zeros (sym c.zero.auto.t) }

pub returns-in_err-check_table : goal.returns-in_err-check_table
returns-in_err-check_table c =
    let p = err_from_is_err_and c.from_residual.result c.from_residual.ensures.1 in
    rw (p.1, p.2)
    (translate_refused c.args.t.now c.args.function (length c.args.out.now) c.in_err-check_table.ensures refl c.zero.ensures)

pub returns : goal.returns
returns c =
    translate_on c.args.t.now c.args.function (length c.args.out.now) (sym c.in_ok-check_table.ensures)
    (c.translate_checked.ensures ∙ ap (translate_function (decode c.args.t.now) c.args.function) c.zero.auto.t)
