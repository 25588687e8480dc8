-- `write`: the table is checked whole; then its text is written.
use mathlib.Core.Path.{sym, ap, ◌∙◌}
use lib.ListN.{length}
use Rattle.answers.specs.Cases.{verdict_of}
use Rattle.ial.proofs.WriteLaws.{write_refused, write_on}
use Rattle.ial.proofs.writing.write.Goals as goal

pub write_checked-requires : goal.write_checked-requires
write_checked-requires c = sym c.check_table.ensures ∙ ap verdict_of c.in_default.is

pub returns-in-Err : goal.returns-in-Err
returns-in-Err c =
    let a = c.args in
    write_refused a.t.now (length a.out.now) c.check_table.ensures c.in-Err.is c.zero.ensures

pub returns : goal.returns
returns c =
    let a = c.args in
    write_on a.t.now (length a.out.now) (sym c.check_table.ensures ∙ ap verdict_of c.in_default.is) c.write_checked.ensures
