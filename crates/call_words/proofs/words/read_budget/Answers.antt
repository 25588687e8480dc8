-- `read_budget`: the budget of the word's number.
use mathlib.Core.Path.{ap, ◌∙◌}
use Rattle.call_words.specs.Words.{budget_from, budget_of}
use Rattle.call_words.proofs.words.read_budget.Goals as goal

pub returns : goal.returns
unfolding budget_of
returns c = c.budget_from.ensures ∙ ap budget_from c.read_decimal.ensures
