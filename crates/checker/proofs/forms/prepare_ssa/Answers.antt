-- Not marked ssa, or prepared.
use Rattle.checker.proofs.Late.{unmarked}
use Rattle.checker.proofs.forms.prepare_ssa.Goals as goal

pub function_ssa-requires : goal.function_ssa-requires
function_ssa-requires c = c.requires.0.sized.within

pub returns-then-function_ssa-ne1 : goal.returns-then-function_ssa-ne1
returns-then-function_ssa-ne1 c =
    record { count = c.requires.1; in_ssa = λ ssa. absurd (unmarked c.args.t.now c.args.a c.function_ssa.ensures c.if-function_ssa-ne1.true ssa) }

pub returns : goal.returns
returns c = let prepared = c.prepare.ensures in record { count = prepared.count; in_ssa = λ _. prepared }
