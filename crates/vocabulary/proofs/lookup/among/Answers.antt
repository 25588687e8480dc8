use mathlib.Core.Path.{◌≡◌, refl, sym, ap, ◌∙◌}
use native.Mathlib.Omega.{arith}
use Rattle.language.specs.Words.{word_count}
use Rattle.vocabulary.specs.Chains.{from_on, rest_among}
use Rattle.vocabulary.proofs.ChainLaws.{found_here, found_later, next_above, from_none}
use Rattle.vocabulary.proofs.lookup.among.Goals as goal

pub loop-c-init : goal.loop-c-init
loop-c-init c = (c.requires, refl)

pub returns-then-s-rest : goal.returns-then-s-rest
returns-then-s-rest c =
    found_here c.args.rest c.loop-c.c c.loop-c-test.true (sym c.spelling_of-s.ensures.2 ∙ c.if-s-rest.true) ∙ c.loop-c.invariant.1

pub loop-c-smaller : goal.loop-c-smaller
loop-c-smaller c =
    let w = c.loop-c.c in
    let next = next_above w c.loop-c-test.true in
    omega (arith, next.0, next.1)

pub loop-c-preserved : goal.loop-c-preserved
loop-c-preserved c =
    let h = c.loop-c-test.true in
    let later =
    found_later c.args.rest c.loop-c.c h
    (λ e. c.if-s-rest.false (c.spelling_of-s.ensures.2 ∙ e)) in
    let next = next_above c.loop-c.c h in
    let there = later ∙ c.loop-c.invariant.1 in
    (omega (arith, next.1), grind arith)

pub returns : goal.returns
returns c =
    let end : c.loop-c.c ≡ word_count = omega (arith, c.loop-c.invariant.0) in
    ap (rest_among c.args.rest) (sym from_none ∙ ap from_on (sym end)) ∙ c.loop-c.invariant.1
