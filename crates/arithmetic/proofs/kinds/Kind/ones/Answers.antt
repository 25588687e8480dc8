-- `Kind::ones`: as many ones are shifted out as stand above the width.
use Rattle.arithmetic.proofs.Words.{ones_kept}
use Rattle.arithmetic.proofs.kinds.Kind.ones.Goals as goal

pub returns : goal.returns
returns c = ones_kept c.args.self.room c.args.self.below
