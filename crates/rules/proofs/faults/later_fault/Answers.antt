-- Each arm of the `match` by the law of its form.
use Rattle.language.specs.Instructions.{Form}
use Rattle.language.proofs.FormLaws.{phi_number}
use Rattle.rules.proofs.RangeLaws.{row_form}
use Rattle.rules.proofs.Standing.{phi_limit}
use Rattle.rules.proofs.RowFaultLaws.{later_nop, later_judged, later_jump, later_branch, later_return, later_leave, later_none}
use Rattle.rules.proofs.faults.later_fault.Goals as goal

pub phi_fault-requires : goal.phi_fault-requires
phi_fault-requires c =
    let args = c.args in
    let form = row_form args.t.now args.a args.k _ _ c.requires.in_table.4 c.form_of-form.ensures Form.phi c.in-4.is in
    record { in_table = (c.requires.in_table.0, c.requires.in_table.1, c.requires.in_table.2, c.requires.in_table.3); k_bound = phi_limit args.t.now args.a args.m.now args.b args.j args.k c.requires.row_stands.0 (phi_number _ form) }

pub returns-in-0 : goal.returns-in-0
returns-in-0 c = search later_nop

pub returns-in-1 : goal.returns-in-1
returns-in-1 c =
    later_judged c.args.t.now c.args.a c.args.m.now c.args.b c.args.j c.args.k _ _ c.requires.row_stands.0 c.requires.row_stands.1 c.requires.in_table.4 c.form_of-form.ensures Form.load _
    c.in-1.is (c.load_fault.ensures c.args.b c.args.j)

pub returns-in-2 : goal.returns-in-2
returns-in-2 c =
    later_judged c.args.t.now c.args.a c.args.m.now c.args.b c.args.j c.args.k _ _ c.requires.row_stands.0 c.requires.row_stands.1 c.requires.in_table.4 c.form_of-form.ensures Form.unary _
    c.in-2.is (c.unary_fault.ensures c.args.b c.args.j)

pub returns-in-3 : goal.returns-in-3
returns-in-3 c =
    later_judged c.args.t.now c.args.a c.args.m.now c.args.b c.args.j c.args.k _ _ c.requires.row_stands.0 c.requires.row_stands.1 c.requires.in_table.4 c.form_of-form.ensures Form.binary _
    c.in-3.is (c.binary_fault.ensures c.args.b c.args.j)

pub returns-in-4 : goal.returns-in-4
returns-in-4 c = search later_judged

pub returns-in-5 : goal.returns-in-5
returns-in-5 c = search later_jump

pub returns-in-6 : goal.returns-in-6
returns-in-6 c = search later_branch

pub returns-in-7 : goal.returns-in-7
returns-in-7 c = search later_return

pub returns-in-8 : goal.returns-in-8
returns-in-8 c = search later_leave

pub returns-in_default : goal.returns-in_default
returns-in_default c = search later_none
