-- `lexer::Lexer::counted` tests what its definition tests, and each call gives that case's value.
use Rattle.laws.proofs.Branches.{branches}
use Rattle.lexer.specs.Advancing.{counted_by}
use Rattle.lexer.proofs.Lexer.counted.Goals as goal

pub returns-then-action-eq-PREFIX : goal.returns-then-action-eq-PREFIX
unfolding counted_by
returns-then-action-eq-PREFIX c = search branches

pub returns-then-action-eq-HEXADECIMAL : goal.returns-then-action-eq-HEXADECIMAL
unfolding counted_by
returns-then-action-eq-HEXADECIMAL c =
    rw (
      c.longer_number-then-action-eq-HEXADECIMAL.ensures,
      c.grown.ensures,
      c.from-digit.ensures,
      c.unwrap_or.ensures,
      c.hex_value.ensures.value,
      c.amount.ensures,
    )
    (search branches depth 9)

pub returns : goal.returns
unfolding counted_by
returns c =
    rw (
      c.longer_number-2.ensures,
      c.grown-2.ensures,
      c.digit.ensures,
      c.amount-2.ensures,
    )
    (search branches depth 9)
