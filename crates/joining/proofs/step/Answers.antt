-- The three cases of what comes first.
use native.Mathlib.Omega.{arith}
use Rattle.records.specs.Stores.{record_at}
use Rattle.joining.proofs.Steps.{stepped_lt, stepped_eq, stepped_gt}
use Rattle.joining.proofs.step.Goals as goal

pub returns-then-a-b : goal.returns-then-a-b
returns-then-a-b c =
    let args = c.args in
    stepped_lt (record_at args.s.now args.x.i) (record_at args.u.now args.x.j) args.x.i args.x.j args.x.w args.out.now
    c.appliance_at-a.ensures c.appliance_at-b.ensures c.put_record.ensures (omega arith) c.record_at.ensures

pub returns-then-a-b-2 : goal.returns-then-a-b-2
returns-then-a-b-2 c =
    let args = c.args in
    stepped_eq (record_at args.s.now args.x.i) (record_at args.u.now args.x.j) args.x.i args.x.j args.x.w args.out.now
    c.appliance_at-a.ensures c.appliance_at-b.ensures c.put_record-then-a-b-2.ensures (omega arith) c.winner.ensures

pub returns : goal.returns
returns c =
    let args = c.args in
    stepped_gt (record_at args.s.now args.x.i) (record_at args.u.now args.x.j) args.x.i args.x.j args.x.w args.out.now
    c.appliance_at-a.ensures c.appliance_at-b.ensures c.put_record-2.ensures (omega arith) c.record_at-2.ensures
