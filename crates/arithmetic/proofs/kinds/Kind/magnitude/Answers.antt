-- `Kind::magnitude`: a negative number of w bits is 2^w less than it is written.
use Rattle.std.proofs.Common.{nat_abs, sym, ap, ◌∙◌}
use Rattle.arithmetic.proofs.Meanings.{reading_positive, magnitude_negative}
use Rattle.arithmetic.proofs.kinds.Kind.magnitude.Goals as goal

pub returns-then-negative : goal.returns-then-negative
returns-then-negative c =
    c.neg.ensures ∙ magnitude_negative c.args.self.room c.args.self.sign c.args.x c.args.self.below c.requires (sym c.negative.ensures ∙ c.if-negative.true)

pub returns-else-negative : goal.returns-else-negative
returns-else-negative c =
    sym (ap nat_abs (reading_positive c.args.self.room c.args.self.sign c.args.x (sym c.negative.ensures ∙ c.if-negative.false)))
