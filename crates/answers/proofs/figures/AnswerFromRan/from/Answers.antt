-- Each end of a run has the numbers that the definition gives it.
use Rattle.std.proofs.Common.{ap, sym, ◌∙◌}
use Rattle.std.specs.Prelude.{Ok}
use Rattle.language.specs.Answers.{Answer, ran_numbers}
use Rattle.answers.specs.declared.Ran.{Ran}
use Rattle.answers.specs.Cases.{ran_of}
use Rattle.answers.proofs.figures.AnswerFromRan.from.Goals as goal

abbrev numbers : Ran → Answer
numbers x = ran_numbers (ran_of (Ok x))

pub returns-in-Returned : goal.returns-in-Returned
unfolding ran_numbers
returns-in-Returned c = sym (ap numbers c.in-Returned.is)

pub returns-in-Left : goal.returns-in-Left
unfolding ran_numbers
returns-in-Left c = sym (ap numbers c.in-Left.is)

pub returns-in-Stopped : goal.returns-in-Stopped
unfolding ran_numbers
returns-in-Stopped c = rw (c.from-in-Stopped.ensures ∙ c.from.ensures) (sym (ap numbers c.in-Stopped.is))
