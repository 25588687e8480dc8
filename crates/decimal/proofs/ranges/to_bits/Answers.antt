-- `decimal::ranges::to_bits`: the number modulo 2^w where it is in range.
use mathlib.Core.Path.{sym, ap, ◌∙◌}
use Rattle.std.specs.Prelude.{Some}
use Rattle.laws.proofs.Tests.{of_true}
use Rattle.decimal.specs.Meanings.{bits_in}
use Rattle.decimal.proofs.ranges.to_bits.Goals as goal

pub bits_of-requires : goal.bits_of-requires
bits_of-requires c = of_true _ (sym c.number_in_range.ensures ∙ c.if-number_in_range.true)

pub returns-then-number_in_range : goal.returns-then-number_in_range
unfolding bits_in
returns-then-number_in_range c = rw (sym c.number_in_range.ensures ∙ c.if-number_in_range.true) (ap Some c.bits_of.ensures)

pub returns : goal.returns
unfolding bits_in
returns c = rw (sym c.number_in_range.ensures ∙ c.if-number_in_range.false)
