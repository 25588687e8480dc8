-- A part from b to b + n has n cells.
use native.Mathlib.Nat.{add-sub_cancel_left}
use Rattle.table.proofs.cells.name_at.Goals as goal

pub returns : goal.returns
returns c = rw (add-sub_cancel_left, c.from-n.ensures)
