use mathlib.Core.Path.{refl, sym, ap, ◌∙◌}
use native.Mathlib.Omega.{arith}
use Prim.Native.Nat.{ℕ, ◌+◌, ◌*◌}
use lib.ListN.{take}
use Rattle.std.proofs.lemmas.Grind.{common_steps}
use Rattle.decimal.specs.Numbers.{value_of, amount_kept, decimal_from}
use Rattle.decimal.proofs.WordsLaws.{kept_exact, digit_between, no_digit_below, no_digit_above, value_more, digits_on, digits_off, says_none, says_all}
use Rattle.decimal.proofs.words.read_digits.Goals as goal

pub returns-then-is_empty : goal.returns-then-is_empty
returns-then-is_empty c = let args = c.args in says_none args.negative args.digits.now (grind (arith, common_steps))

pub loop-b-init : goal.loop-b-init
loop-b-init c = (refl, kept_exact 0 (omega arith))

pub returns-in_default : goal.returns-in_default
returns-in_default c =
    let args = c.args in
    digits_off args.digits.now c.loop-b.b-index c.loop-b-test.true c.loop-b.invariant.0 (no_digit_below _ (omega arith)) args.negative refl

pub returns-in_default-2 : goal.returns-in_default-2
returns-in_default-2 c =
    let args = c.args in
    digits_off args.digits.now c.loop-b.b-index c.loop-b-test.true c.loop-b.invariant.0 (no_digit_above _ (omega arith)) args.negative refl

pub loop-b-preserved : goal.loop-b-preserved
loop-b-preserved c =
    let ds = c.args.digits.now in
    let i = c.loop-b.b-index in (
      digits_on ds i c.loop-b-test.true c.loop-b.invariant.0 (digit_between _ (omega arith) (omega arith)) refl,
      c.grown-magnitude.ensures _ c.loop-b.invariant.1
          ∙ ap (λ (d : ℕ). amount_kept (10 * value_of (take i ds) + d)) c.from-digit.ensures
          ∙ ap amount_kept (sym (value_more ds i c.loop-b-test.true)),
    )

pub returns : goal.returns
unfolding decimal_from
returns c =
    let args = c.args in
    says_all args.negative args.digits.now c.loop-b.b-index (grind (arith, common_steps)) (omega arith) c.loop-b.invariant.0
    (rw (c.loop-b.invariant.1))
