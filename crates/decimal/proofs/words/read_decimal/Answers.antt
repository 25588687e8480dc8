-- `decimal::words::read_decimal`: the digits behind a minus, or all of the word.
use native.Mathlib.Omega.{arith}
use Rattle.std.proofs.lemmas.Grind.{common_steps}
use Rattle.decimal.proofs.WordsLaws.{no_word, minus_word, plain_word}
use Rattle.decimal.proofs.words.read_decimal.Goals as goal
use Rattle.decimal.proofs.words.read_decimal.Goals.{else-not-is_empty-via-then-not-is_empty+else-word-eq-MINUS, else-not-is_empty-via-else-not-is_empty}

pub returns-then-word-eq-MINUS : goal.returns-then-word-eq-MINUS
returns-then-word-eq-MINUS c = minus_word c.args.word.now (grind (arith, common_steps)) c.if-word-eq-MINUS.true c.read_digits.ensures

pub returns : goal.returns
returns c =
    elim c.else-not-is_empty.branch [
      | else-not-is_empty-via-then-not-is_empty+else-word-eq-MINUS w ↦ plain_word c.args.word.now w.if-word-eq-MINUS.false c.read_digits-2.ensures
      | else-not-is_empty-via-else-not-is_empty w ↦ no_word c.args.word.now (grind (arith, common_steps)) c.read_digits-2.ensures
    ]
