-- `Kind::overflows` tests what the definition tests, in its order.
use Rattle.std.proofs.Common.{arith}
use Rattle.arithmetic.proofs.Words.{highest_alone}
use Rattle.arithmetic.proofs.Meanings.{overflows_is}
use Rattle.arithmetic.proofs.kinds.Kind.overflows.Goals as goal

pub returns-then-a-self : goal.returns-then-a-self
returns-then-a-self c t k =
    let e = overflows_is k c.args.a c.args.b in
    let h = highest_alone c.args.self.room c.args.self.below c.requires in grind arith

pub returns-else-a-self : goal.returns-else-a-self
returns-else-a-self c t k =
    let e = overflows_is k c.args.a c.args.b in
    let h = highest_alone c.args.self.room c.args.self.below c.requires in grind arith
