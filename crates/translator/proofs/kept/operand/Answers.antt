-- Each kind is a case of `kept_operand`.
use native.Mathlib.Omega.{arith}
use Rattle.translator.proofs.Lookups.{of_load, of_block, of_blocks, of_none}
use Rattle.translator.proofs.kept.operand.Goals as goal

pub renamed-requires : goal.renamed-requires
renamed-requires c =
    let names = c.requires.naming.first (omega (arith, c.in-3.is)) in
    record { in_table = (c.requires.in_table.0, c.requires.in_table.1, c.requires.in_table.2, omega (arith, names.below, c.jump_first.ensures.0)); ascending = rw c.jump_first.ensures.0 names.ascends }

pub renamed-y-requires : goal.renamed-y-requires
renamed-y-requires c =
    let names = c.requires.naming.first (omega (arith, c.in-4.is)) in
    record { in_table = (c.requires.in_table.0, c.requires.in_table.1, c.requires.in_table.2, omega (arith, names.below, c.jump_first-in-4.ensures.0)); ascending = rw c.jump_first-in-4.ensures.0 names.ascends }

pub renamed-z-requires : goal.renamed-z-requires
renamed-z-requires c =
    let names = c.requires.naming.second (omega (arith, c.in-4.is)) in
    record { in_table = (c.requires.in_table.0, c.requires.in_table.1, c.requires.in_table.2, omega (arith, names.below, c.jump_second.ensures.0)); ascending = rw c.jump_second.ensures.0 names.ascends }

pub returns-in-1 : goal.returns-in-1
returns-in-1 c =
    let args = c.args in
    of_load args.t.now args.a args.m.now args.plan.now args.x args.r args.kind c.in-1.is c.load_number.ensures

pub returns-in-3 : goal.returns-in-3
returns-in-3 c =
    let args = c.args in
    of_block args.t.now args.a args.m.now args.plan.now args.x args.r args.kind c.in-3.is c.jump_first.ensures.0
    c.renamed.ensures.0

pub returns-in-4 : goal.returns-in-4
returns-in-4 c =
    let args = c.args in
    of_blocks args.t.now args.a args.m.now args.plan.now args.x args.r args.kind c.in-4.is c.jump_first-in-4.ensures.0
    c.renamed-y.ensures.0 c.jump_second.ensures.0 c.renamed-z.ensures.0

pub returns-in_default : goal.returns-in_default
returns-in_default c =
    let args = c.args in
    let none = c.in_default.in_default-own.rest in
    of_none args.t.now args.a args.m.now args.plan.now args.x args.r args.kind none.0.0.1 none.0.1 none.1
