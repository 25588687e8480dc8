-- What the definition of a call promises for an accepted program. Assumes nothing.
use Rattle.std.specs.Prelude.{◌≡◌, ℕ, ◌<◌, length, get_or}
use Rattle.language.specs.Programs.{Program, no_function}
use Rattle.language.specs.Checking.{Verdict, check}
use Rattle.language.specs.Running.{run_of}
use Rattle.language.specs.Answers.{ran_as}
use Rattle.call_words.specs.Arguments.{Given, first_outside, arguments_of}
use Rattle.calling.specs.Calls.{call_function}

-- Once the count is right and every argument lies in its parameter's range, nothing is left to refuse: the answer is the run's.
abbrev pub CallRuns : Type 0
CallRuns =
    (p : Program) (i : ℕ) (g : Given) (budget : ℕ)
    → check p ≡ Verdict.accepted
    → i < length p
    → (let f = get_or p i no_function in
    g.count ≡ f.params → first_outside f g ≡ g.count → call_function p i g budget ≡ ran_as i f (run_of f (arguments_of f g) budget))
