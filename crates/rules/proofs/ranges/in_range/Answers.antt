-- Each arm of the `match` by the law of its form.
use borrow.Author.Rules.{rules}
use Rattle.language.specs.Instructions.{Form}
use Rattle.language.proofs.FormLaws.{form_is, phi_number}
use Rattle.rules.proofs.RangeLaws.{row_form, in_form, in_nop, in_leave, in_no_form}
use Rattle.rules.proofs.ranges.in_range.Goals as goal

pub load_in_range-requires : goal.load_in_range-requires
load_in_range-requires c = search (form_is, rules)

pub unary_in_range-requires : goal.unary_in_range-requires
unary_in_range-requires c = search (row_form, rules)

pub binary_in_range-requires : goal.binary_in_range-requires
binary_in_range-requires c = search (row_form, rules)

pub phi_in_range-requires : goal.phi_in_range-requires
phi_in_range-requires c =
    let args = c.args in
    let form = row_form args.t.now args.a args.k _ _ c.row_op-op.ensures c.form_of-form.ensures Form.phi c.in-4.is in
    record { in_table = (c.requires.in_table.0, c.requires.in_table.1, c.requires.in_table.3); k_bound = c.requires.k_bound (phi_number _ form) }

pub returns-in-0 : goal.returns-in-0
returns-in-0 c = search in_nop

pub returns-in-1 : goal.returns-in-1
returns-in-1 c = search in_form

pub returns-in-2 : goal.returns-in-2
returns-in-2 c = search in_form

pub returns-in-3 : goal.returns-in-3
returns-in-3 c = search in_form

pub returns-in-4 : goal.returns-in-4
returns-in-4 c = search in_form

pub returns-in-5 : goal.returns-in-5
returns-in-5 c = search in_form

pub returns-in-6 : goal.returns-in-6
returns-in-6 c = search in_form

pub returns-in-7 : goal.returns-in-7
returns-in-7 c = search in_form

pub returns-in-8 : goal.returns-in-8
returns-in-8 c = search in_leave

pub returns-in_default : goal.returns-in_default
returns-in_default c = search in_no_form
