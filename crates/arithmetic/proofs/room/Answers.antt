-- `arithmetic::room`: a width is from 8 to 64.
use Rattle.std.proofs.Common.{arith}
use Rattle.language.proofs.Widths.{powers}
use Rattle.arithmetic.proofs.room.Goals as goal

pub overflow_sub-result : goal.overflow_sub-result
overflow_sub-result c = omega (arith, powers c.args.t)

pub returns : goal.returns
returns c = omega (arith, powers c.args.t)
