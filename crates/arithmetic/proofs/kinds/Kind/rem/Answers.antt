-- `Kind::rem`: the remainder of the magnitudes, with the sign of the dividend.
use Rattle.std.proofs.Common.{arith, eq-eqb}
use native.Mathlib.Nat.{mod-le}
use borrow.Author.Tests.{not-true}
use Rattle.language.specs.Arithmetic.{rem}
use Rattle.arithmetic.proofs.Meanings.{magnitude_below, magnitude_positive, left_over, left_over_unsigned}
use Rattle.arithmetic.proofs.kinds.Kind.rem.Goals as goal

pub returns-then-b-eq0 : goal.returns-then-b-eq0
unfolding rem
returns-then-b-eq0 c t k = rw (eq-eqb c.args.b 0 c.if-b-eq0.true)

pub returns-then-not-self : goal.returns-then-not-self
unfolding rem
returns-then-not-self c t k =
    left_over_unsigned k c.args.a c.args.b c.requires.0 c.requires.1 c.if-b-eq0.false (not-true c.args.self.sign c.if-not-self.true)

pub nonzero_rem-m : goal.nonzero_rem-m
unfolding rem
nonzero_rem-m c = rw c.magnitude-2.ensures (magnitude_positive c.args.self.room c.args.self.sign c.args.b c.if-b-eq0.false)

pub with_sign-requires : goal.with_sign-requires
unfolding rem
with_sign-requires c =
    let h = mod-le c.magnitude.result c.magnitude-2.result in
    omega (arith, c.magnitude.ensures, magnitude_below c.args.self.room c.args.self.sign c.args.a c.args.self.below c.requires.0)

pub returns : goal.returns
unfolding rem
returns c t k =
    left_over k c.args.a c.args.b c.requires.0 c.requires.1 c.if-b-eq0.false c.magnitude.ensures c.magnitude-2.ensures c.negative.ensures c.with_sign.ensures
