-- The test of the cell.
use Rattle.rules.proofs.faults.leave_fault.Goals as goal

pub returns : goal.returns
returns c = rw (← c.function_result.ensures) c.lowest.ensures
