-- A verdict or a refusal of the limit function, as the code has it. Assumes nothing.
use Rattle.std.specs.Prelude.{Bool, cond, List, [], ◌∷◌, ◌≡◌, ℕ, Ok, Err}
use Rattle.std.specs.declared.result.Result.{Result}
use Rattle.language.specs.Programs.{max_registers}
use Rattle.language.specs.Checking.{Verdict}
use Rattle.language.specs.Answers.{run_answer}
use Rattle.answers.specs.declared.reasons.Refusal.{Refusal}
use Rattle.answers.specs.Reasons.{reason_number}
use Rattle.records.specs.Limits.{limit_answer, fail_of}

-- What was ruled on a reading by function i of table t under a budget: whether it fails.
abbrev pub Ruled : (t : List ℕ) (i budget reading : ℕ) → Result Bool Refusal → Type 0
Ruled t i budget reading (Ok f) =
    (limit_answer t i ≡ Verdict.accepted) × (cond f 1 0 ≡ fail_of (run_answer t i (reading ∷ []) budget max_registers).answer)
Ruled t i budget reading (Err e) = limit_answer t i ≡ Verdict.refused (reason_number e.reason) e.place

-- The refusal of a function that is no limit function, by what the check says of its table.
abbrev pub refused_by : Verdict → Verdict
refused_by Verdict.accepted = Verdict.refused 61 0
refused_by (Verdict.refused k p) = Verdict.refused k p
