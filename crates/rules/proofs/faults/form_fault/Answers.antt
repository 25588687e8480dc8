-- 10 first, then the later ones.
use native.Mathlib.Omega.{arith}
use Rattle.rules.proofs.Standing.{row_limit, place_limit}
use Rattle.rules.proofs.RowFaultLaws.{form_10, form_later}
use Rattle.rules.proofs.faults.form_fault.Goals as goal

pub row_op-op-requires : goal.row_op-op-requires
row_op-op-requires c = (c.requires.0.sized.within, search row_limit)

pub overflow_add-j : goal.overflow_add-j
overflow_add-j c = let args = c.args in omega (arith, place_limit args.t.now args.a args.m.now args.b args.j args.k c.requires.0)

pub returns-then-misended : goal.returns-then-misended
returns-then-misended c = search form_10

pub later_fault-requires : goal.later_fault-requires
later_fault-requires c =
    record { in_table = (c.requires.0.sized.within, c.requires.0.prepared.count, omega arith, search row_limit, c.row_op-op.ensures); row_stands = c.requires }

pub returns : goal.returns
returns c = search form_later
