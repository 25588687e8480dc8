-- The tests of the cells, in their order.
use Rattle.rules.proofs.FormFaultLaws.{source_found}
use Rattle.rules.proofs.faults.source_fault.Goals as goal

pub returns : goal.returns
returns c = search source_found
