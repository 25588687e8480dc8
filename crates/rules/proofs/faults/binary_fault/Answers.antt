-- Its tests by cells are those of the language.
use Rattle.rules.proofs.FormFaultLaws.{binary_found}
use Rattle.rules.proofs.faults.binary_fault.Goals as goal

pub returns : goal.returns
returns c = search binary_found
