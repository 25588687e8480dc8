-- An end of a run has its numbers, and so has a refusal.
use Rattle.std.proofs.Common.{ap, sym, ◌∙◌}
use Rattle.std.specs.declared.result.Result.{Result}
use Rattle.language.specs.Answers.{Answer, ran_numbers}
use Rattle.answers.specs.declared.reasons.Refusal.{Refusal}
use Rattle.answers.specs.declared.Ran.{Ran}
use Rattle.answers.specs.Cases.{ran_of}
use Rattle.answers.proofs.figures.AnswerFromResultRanRefusal.from.Goals as goal

abbrev numbers : Result Ran Refusal → Answer
numbers r = ran_numbers (ran_of r)

pub returns-in-Ok : goal.returns-in-Ok
returns-in-Ok c = c.into.ensures ∙ sym (ap numbers c.in-Ok.is)

pub returns-in-Err : goal.returns-in-Err
unfolding ran_numbers
returns-in-Err c = c.into-in-Err.ensures ∙ sym (ap numbers c.in-Err.is)
