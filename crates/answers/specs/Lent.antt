-- An answer together with what was lent, as it is afterwards. Assumes nothing.
use Rattle.std.specs.Prelude.{List, ℕ, ⊤}
use Rattle.std.specs.declared.result.Result.{Result}
use Rattle.language.specs.Answers.{Filled, Finished, Listed, Shown}
use Rattle.answers.specs.declared.reasons.Refusal.{Refusal}
use Rattle.answers.specs.declared.Ran.{Ran}
use Rattle.answers.specs.Cases.{verdict_of, ran_of, wrote_of}

-- With the lent table.
abbrev pub filled_of : Result ⊤ Refusal → List ℕ → Filled
filled_of r t = record { answer = verdict_of r; table = t }

-- With the lent numbers of many runs.
abbrev pub listed_of : Result ⊤ Refusal → List ℕ → Listed
listed_of r out = record { answer = verdict_of r; numbers = out }

-- With the lent registers.
abbrev pub finished_of : Result Ran Refusal → List ℕ → Finished
finished_of r g = record { answer = ran_of r; registers = g }

-- With the lent buffer.
abbrev pub shown_of : Result ℕ Refusal → List ℕ → Shown
shown_of r b = record { answer = wrote_of r; buffer = b }
