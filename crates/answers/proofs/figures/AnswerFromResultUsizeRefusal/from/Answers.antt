-- Each case has the numbers that the definition gives it.
use Rattle.std.proofs.Common.{ap, sym, ◌∙◌}
use Rattle.std.specs.Prelude.{ℕ, ⊤}
use Rattle.std.specs.declared.result.Result.{Result}
use Rattle.language.specs.Answers.{wrote_numbers}
use Rattle.answers.specs.declared.reasons.Refusal.{Refusal}
use Rattle.answers.specs.declared.Ran.{Ran}
use Rattle.answers.specs.Cases.{wrote_of}
use Rattle.answers.proofs.figures.AnswerFromResultUsizeRefusal.from.Goals as goal

pub returns-in-Ok : goal.returns-in-Ok
unfolding wrote_numbers
returns-in-Ok c = sym (ap (λ (x : Result ℕ Refusal). wrote_numbers (wrote_of x)) c.in-Ok.is)

pub returns-in-Err : goal.returns-in-Err
unfolding wrote_numbers
returns-in-Err c = c.into.ensures ∙ sym (ap (λ (x : Result ℕ Refusal). wrote_numbers (wrote_of x)) c.in-Err.is)
