-- `refusal`: the check's answer, or 61.
use mathlib.Core.Path.{sym, ap, ◌∙◌}
use Rattle.answers.specs.Cases.{verdict_of}
use Rattle.merge.specs.Rulings.{refused_by}
use Rattle.merge.proofs.judging.refusal.Goals as goal

pub returns-in-Err : goal.returns-in-Err
returns-in-Err c = ap refused_by (ap verdict_of (sym c.in-Err.is) ∙ c.check.ensures)

pub returns-in-Ok : goal.returns-in-Ok
returns-in-Ok c = ap refused_by (ap verdict_of (sym c.in-Ok.is) ∙ c.check.ensures)
