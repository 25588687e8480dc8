-- Its tests by cells are those of the language.
use Rattle.rules.proofs.FormFaultLaws.{load_found}
use Rattle.rules.proofs.faults.load_fault.Goals as goal

pub returns : goal.returns
returns c = search load_found
