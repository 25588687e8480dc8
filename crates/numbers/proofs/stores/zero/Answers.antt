use Rattle.language.specs.Answers.{zeros}
use Rattle.numbers.proofs.stores.zero.Goals as goal

pub returns : goal.returns
unfolding zeros
returns c = c.fill.ensures.after (λ y h. h)
