-- `Kind::with_sign` does what the definition says.
use Rattle.laws.proofs.Branches.{branches}
use Rattle.arithmetic.proofs.kinds.Kind.with_sign.Goals as goal

pub returns-then-minus : goal.returns-then-minus
returns-then-minus c = search (branches, c.neg.ensures)
