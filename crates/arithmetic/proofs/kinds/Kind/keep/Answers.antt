-- `Kind::keep`: the two shifts of `Words.kept`.
use Rattle.arithmetic.proofs.Words.{kept}
use Rattle.arithmetic.proofs.kinds.Kind.keep.Goals as goal

pub returns : goal.returns
returns c = kept c.args.self.room c.args.self.below c.args.x
