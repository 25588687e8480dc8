-- `decimal::words::grown`: ten times the number and the digit, or beyond.
use Rattle.std.proofs.Common.{arith, sym, ap, ◌∙◌, ◌*◌}
use Rattle.decimal.proofs.WordsLaws.{amount_exact, amount_large, kept_large, kept_sum}
use Rattle.decimal.proofs.words.grown.Goals as goal

pub returns-in_err-magnitude : goal.returns-in_err-magnitude
returns-in_err-magnitude c = λ n e. c.from_residual.ensures ∙ kept_large _ (omega (arith, amount_large (sym c.in_err-magnitude.was ∙ e)))

pub returns-in_err-checked_mul : goal.returns-in_err-checked_mul
returns-in_err-checked_mul c =
    λ n e.
    let v = (amount_exact (sym c.in_ok-magnitude.was ∙ e)).0 in
    c.from_residual-in_err-checked_mul.ensures ∙ kept_large _ (omega (arith, v, c.in_err-checked_mul.ensures))

pub returns : goal.returns
returns c =
    λ n e.
    let v = (amount_exact (sym c.in_ok-magnitude.was ∙ e)).0 in
    kept_sum _ _ _ _ (c.in_ok-checked_mul.ensures.1 ∙ ap (λ k. k * 10) v) c.checked_add.ensures
