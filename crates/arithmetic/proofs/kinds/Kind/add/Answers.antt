-- `Kind::add`: what is right modulo 2^64 is right modulo 2^w.
use Rattle.std.proofs.Common.{◌+◌, refl}
use Rattle.arithmetic.proofs.Words.{reduced}
use Rattle.arithmetic.proofs.kinds.Kind.add.Goals as goal

pub returns : goal.returns
returns c = reduced c.args.self.room c.args.self.below (c.args.a + c.args.b) refl c.keep.ensures
