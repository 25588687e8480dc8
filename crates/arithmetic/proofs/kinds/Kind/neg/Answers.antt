-- `Kind::neg`: 0 - a, modulo 2^w.
use Rattle.std.proofs.Common.{arith}
use Rattle.arithmetic.proofs.Words.{taken_away, negated}
use Rattle.arithmetic.proofs.kinds.Kind.neg.Goals as goal

pub returns : goal.returns
returns c =
    negated c.args.self.room c.args.self.below _ c.requires (taken_away 0 c.args.a (omega arith) (omega arith)) c.keep.ensures
