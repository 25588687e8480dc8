-- The loop's invariant: the bytes passed are digits, and what they say is kept.
use mathlib.Core.Bool.{true}
use mathlib.Core.Path.{◌≡◌}
use lib.ListN.{take}
use Rattle.laws.specs.Lists.{all}
use Rattle.decimal.specs.Numbers.{is_digit, value_of, amount_kept}
use Rattle.decimal.proofs.words.read_digits.Given as goal

abbrev pub invariant-loop-b : goal.invariant-loop-b
invariant-loop-b l = (all is_digit (take l.b-index l.digits) ≡ true) × (l.magnitude ≡ amount_kept (value_of (take l.b-index l.digits)))
