-- `lexer::values::grown`: the product or the sum is 2^64 or more, or the sum is kept.
use Rattle.lexer.proofs.Amounts.{product_over, sum_kept}
use Rattle.lexer.proofs.values.grown.Goals as goal

pub returns-in_err-checked_mul : goal.returns-in_err-checked_mul
returns-in_err-checked_mul c =
    let a = c.args in
    rw (c.from_residual-in_err-checked_mul.ensures, c.in_ok-value.was) (product_over c.in_ok-value.field-0 a.base a.digit c.in_err-checked_mul.ensures)

pub returns : goal.returns
returns c =
    let a = c.args in
    rw c.in_ok-value.was
    (sum_kept c.in_ok-value.field-0 a.base a.digit c.in_ok-checked_mul.field-0 c.checked_add.result c.in_ok-checked_mul.ensures c.checked_add.ensures)
