-- A terminator stands exactly at the end.
use mathlib.Core.Path.{ap}
use mathlib.Core.Bool.{Bool, not, beq}
use Rattle.rules.proofs.faults.misended.Goals as goal

pub returns : goal.returns
returns c = ap (λ (b : Bool). not (beq b c.args.last)) c.is_terminator.ensures
