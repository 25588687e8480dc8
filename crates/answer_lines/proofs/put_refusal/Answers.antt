-- `put_refusal`: the number is the reason's.
use mathlib.Core.Path.{sym}
use Rattle.answer_lines.proofs.put_refusal.Goals as goal

pub returns : goal.returns
returns c = rw (sym c.from.ensures) c.list_refusal.ensures
