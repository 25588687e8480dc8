-- The answers in the papers' words: "The definition gives this paper's number and values for each of the enum's cases." Assumes nothing.
use Rattle.std.specs.Prelude.{ℕ, ⊤, Ok, Err}
use Rattle.std.specs.declared.result.Result.{Result}
use Rattle.language.specs.Checking.{Verdict as Verdictᴸ}
use Rattle.language.specs.Answers.{Ran as Ranᴸ, Wrote as Wroteᴸ}
use Rattle.answers.specs.declared.reasons.Refusal.{Refusal}
use Rattle.answers.specs.declared.Ran.{Ran}
use Rattle.answers.specs.declared.Ran.TheVariants as rans
use Rattle.answers.specs.Reasons.{reason_number, stop_number}

abbrev pub verdict_of : Result ⊤ Refusal → Verdictᴸ
verdict_of (Ok u) = Verdictᴸ.accepted
verdict_of (Err e) = Verdictᴸ.refused (reason_number e.reason) e.place

abbrev pub ran_of : Result Ran Refusal → Ranᴸ
ran_of (Ok (rans.Returned v s)) = Ranᴸ.returned v s
ran_of (Ok (rans.Left s)) = Ranᴸ.left s
ran_of (Ok (rans.Stopped x p s)) = Ranᴸ.stopped (stop_number x) p s
ran_of (Err e) = Ranᴸ.refused (reason_number e.reason) e.place

abbrev pub wrote_of : Result ℕ Refusal → Wroteᴸ
wrote_of (Ok n) = Wroteᴸ.wrote n
wrote_of (Err e) = Wroteᴸ.refused (reason_number e.reason) e.place
