-- `put_ended`: the line of each end of a run.
use native.Mathlib.Omega.{arith}
use Rattle.answer_lines.proofs.LinesLaws.{ended}
use Rattle.answer_lines.proofs.put_ended.Goals as goal

pub returns-in-Returned : goal.returns-in-Returned
returns-in-Returned c =
    let w = c.put_returned.ensures in
    (ended c.args.kind c.in-Returned.is w.0, omega (arith, w.1))

pub returns-in-Left : goal.returns-in-Left
returns-in-Left c =
    let w = c.put_left.ensures in
    (ended c.args.kind c.in-Left.is w.0, omega (arith, w.1))

pub returns-in-Stopped : goal.returns-in-Stopped
returns-in-Stopped c =
    let w = c.put_stopped.ensures in
    (ended c.args.kind c.in-Stopped.is w.0, omega (arith, w.1))
