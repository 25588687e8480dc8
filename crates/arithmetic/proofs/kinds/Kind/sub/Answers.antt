-- `Kind::sub`: what b added to gives a is a - b, modulo 2^w too.
use Rattle.std.proofs.Common.{arith}
use Rattle.arithmetic.proofs.Words.{taken_away, subtracted}
use Rattle.arithmetic.proofs.kinds.Kind.sub.Goals as goal

pub returns : goal.returns
returns c =
    subtracted c.args.self.room c.args.self.below _ c.requires (taken_away c.args.a c.args.b (omega arith) (omega arith)) c.keep.ensures
