-- `Kind::div`: the quotient of the magnitudes, with the sign that the two signs give.
use Rattle.std.proofs.Common.{sym, ◌∙◌, div-le_self, arith, eq-eqb, ne_eqb}
use borrow.Author.Tests.{not-true}
use Rattle.language.specs.Arithmetic.{div}
use Rattle.arithmetic.proofs.Meanings.{magnitude_below, magnitude_positive, divided, divided_unsigned}
use Rattle.arithmetic.proofs.kinds.Kind.div.Goals as goal

pub returns-then-b-eq0 : goal.returns-then-b-eq0
unfolding div
returns-then-b-eq0 c t k = rw (eq-eqb c.args.b 0 c.if-b-eq0.true)

pub returns-then-not-self : goal.returns-then-not-self
unfolding div
returns-then-not-self c t k =
    divided_unsigned k c.args.a c.args.b c.requires.0 c.requires.1 c.if-b-eq0.false (not-true c.args.self.sign c.if-not-self.true)

pub returns-then-overflows : goal.returns-then-overflows
unfolding div
returns-then-overflows c t k = rw (ne_eqb c.args.b 0 c.if-b-eq0.false, sym (c.overflows.ensures t k) ∙ c.if-overflows.true)

pub nonzero_div-q : goal.nonzero_div-q
unfolding div
nonzero_div-q c = rw c.magnitude-2.ensures (magnitude_positive c.args.self.room c.args.self.sign c.args.b c.if-b-eq0.false)

pub with_sign-requires : goal.with_sign-requires
unfolding div
with_sign-requires c =
    let h = div-le_self c.magnitude.result c.magnitude-2.result in
    omega (arith, c.magnitude.ensures, magnitude_below c.args.self.room c.args.self.sign c.args.a c.args.self.below c.requires.0)

pub returns : goal.returns
unfolding div
returns c t k =
    divided k c.args.a c.args.b c.requires.0 c.requires.1 c.if-b-eq0.false (sym (c.overflows.ensures t k) ∙ c.if-overflows.false)
    c.magnitude.ensures c.magnitude-2.ensures c.negative.ensures c.negative-2.ensures c.with_sign.ensures
