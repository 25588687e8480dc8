-- `Kind::mul`: what is right modulo 2^64 is right modulo 2^w.
use Rattle.std.proofs.Common.{◌*◌}
use Rattle.arithmetic.proofs.Words.{reduced}
use Rattle.arithmetic.proofs.kinds.Kind.mul.Goals as goal

pub returns : goal.returns
returns c = reduced c.args.self.room c.args.self.below (c.args.a * c.args.b) c.product.ensures c.keep.ensures
