-- `drafts::state::Draft::set_number`: 4, or the number modulo 2^w.
use mathlib.Core.Path.{sym, ◌∙◌}
use borrow.Author.Tests.{not-true, not-false}
use Rattle.laws.proofs.Tests.{of_true}
use Rattle.drafts.proofs.RowsLaws.{kind_known, number_over, number_refused, number_proceeds}
use Rattle.drafts.proofs.state.Draft.set_number.Goals as goal

pub returns-in_default : goal.returns-in_default
returns-in_default c n a = number_over c.requires _ _ n a c.in_default.not-Some

pub returns-then-not-number_in_range : goal.returns-then-not-number_in_range
returns-then-not-number_in_range c n a =
    number_refused c.requires _ _ n a c.in-Some.is (kind_known c.requires c.low.ensures c.load_type-kind.ensures)
    (sym c.number_in_range.ensures ∙ not-true c.number_in_range.result c.if-not-number_in_range.true-raw)

pub bits_of-bits-requires : goal.bits_of-bits-requires
bits_of-bits-requires c =
    of_true _ (sym c.number_in_range.ensures ∙ not-false c.number_in_range.result c.if-not-number_in_range.false-raw)

pub returns : goal.returns
returns c n a =
    number_proceeds c.requires _ _ n a c.in-Some.is (kind_known c.requires c.low.ensures c.load_type-kind.ensures)
    (sym c.number_in_range.ensures ∙ not-false c.number_in_range.result c.if-not-number_in_range.false-raw) c.bits_of-bits.ensures
