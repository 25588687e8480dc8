-- `put_answer`: the line of a run that ended, or of a refusal.
use native.Mathlib.Omega.{arith}
use Rattle.answer_lines.proofs.LinesLaws.{answered}
use Rattle.answer_lines.proofs.put_answer.Goals as goal

pub returns-in-Ok : goal.returns-in-Ok
returns-in-Ok c =
    let w = c.put_ended.ensures in
    (answered c.args.kind c.in-Ok.is w.0, omega (arith, w.1))

pub returns-in-Err : goal.returns-in-Err
returns-in-Err c =
    let w = c.put_refusal.ensures in
    (answered c.args.kind c.in-Err.is w.0, omega (arith, w.1))
