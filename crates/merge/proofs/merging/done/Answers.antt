-- `done`: 0 0, or 60 at 0.
use mathlib.Core.Bool.{Bool}
use mathlib.Core.Path.{sym, ap}
use mathlib.Core.List.{[]}
use Rattle.records.specs.Answers.{kept_as}
use Rattle.merge.proofs.merging.done.Goals as goal

pub returns : goal.returns
returns c = ap (λ (b : Bool). (kept_as b []).answer) (sym c.if-room.false)
