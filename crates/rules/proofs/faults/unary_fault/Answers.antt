-- Its tests by cells are those of the language.
use Rattle.rules.proofs.FormFaultLaws.{unary_found}
use Rattle.rules.proofs.faults.unary_fault.Goals as goal

pub returns : goal.returns
returns c = search unary_found
