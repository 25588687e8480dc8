-- The inspector's case: the office runs the limit function as written, the tablet its translation. Verdicts and stores are the same, with budgets
-- that suffice: three times as many steps for the translation (demand 3).
-- Assumes nothing.
use Rattle.std.specs.Prelude.{List, [], ◌∷◌, ◌⊎◌, ◌≡◌, ℕ, ◌*◌, ◌<◌, ◌≤◌, ◌^◌}
use Rattle.language.specs.Table.{table_length}
use Rattle.language.specs.Checking.{Verdict}
use Rattle.language.specs.Running.{Outcome, Ends, NotEnded}
use Rattle.language.specs.Answers.{Ran, run_answer, translate_answer}
use Rattle.language.specs.Programs.{max_registers}
use Rattle.theorems.specs.OverTables.{function_in_table}
use Rattle.records.specs.Limits.{Test, limit_answer, judged_test}
use Rattle.merge.specs.Histories.{History, Leaves, Merges, SizedTests}

-- The run of an allowed limit function on a reading is never refused: it returns or stops.
abbrev pub LimitRuns : Type 0
LimitRuns =
    (t : List ℕ) (i budget reading k p : ℕ)
    → limit_answer t i ≡ Verdict.accepted
    → reading < 2 ^ 64
    → (run_answer t i (reading ∷ []) budget max_registers).answer ≡ Ran.refused k p
    → ⊥

-- The reading's run ends, with a budget b that suffices and b' for the translation.
abbrev pub Suffices : List ℕ → ℕ → (b b' : ℕ) → Test → Type 0
Suffices t i b b' x =
    (n : ℕ) × ((o : Outcome) × (Ends (function_in_table t i) (x.reading ∷ []) n o × ((n ≤ b) × (3 * n ≤ b'))))

-- It ends within neither budget: "any stop .. is fail", in the office and on the tablet.
abbrev pub Unended : List ℕ → ℕ → (b b' : ℕ) → Test → Type 0
Unended t i b b' x =
    NotEnded (function_in_table t i) (x.reading ∷ []) b × NotEnded (function_in_table t i) (x.reading ∷ []) b'

-- Function i of t is translated to the table `out`.
abbrev pub TranslatedTo : List ℕ → ℕ → List ℕ → Type 0
TranslatedTo t i out = translate_answer t i table_length ≡ record { answer = Verdict.accepted; table = out }

-- A translation does what its source does: the translation is a limit function too, and its verdicts are those of the source.
pub record SameVerdicts (t : List ℕ) (i : ℕ) (out : List ℕ) : Type 0 where
  pub allowed : limit_answer out 0 ≡ Verdict.accepted
  pub verdicts : (b b' : ℕ) (x : Test) → x.reading < 2 ^ 64 → Suffices t i b b' x → judged_test t i b x ≡ judged_test out 0 b' x
  pub unended : (b b' : ℕ) (x : Test) → x.reading < 2 ^ 64 → Unended t i b b' x → judged_test t i b x ≡ judged_test out 0 b' x

abbrev pub VerdictsTranslated : Type 0
VerdictsTranslated = (t : List ℕ) (i : ℕ) (out : List ℕ) → limit_answer t i ≡ Verdict.accepted → TranslatedTo t i out → SameVerdicts t i out

-- A store that the tablet left by the translation is one that the office could have left by the function as written; so the two can be joined.
abbrev pub LeavesTranslated : Type 0
LeavesTranslated =
    (t : List ℕ) (i : ℕ) (out : List ℕ) (b b' : ℕ) (h : History) (u : List ℕ)
    → limit_answer t i ≡ Verdict.accepted
    → TranslatedTo t i out
    → SizedTests h
    → ((x : Test) → Merges x h → Suffices t i b b' x ⊎ Unended t i b b' x)
    → Leaves out 0 b' h u
    → Leaves t i b h u

-- The same calls in the office and on the tablet leave the same bytes.
abbrev pub StoresTranslated : Type 0
StoresTranslated =
    (t : List ℕ) (i : ℕ) (out : List ℕ) (b b' : ℕ) (h : History) (s u : List ℕ)
    → limit_answer t i ≡ Verdict.accepted
    → TranslatedTo t i out
    → SizedTests h
    → ((x : Test) → Merges x h → Suffices t i b b' x ⊎ Unended t i b b' x)
    → Leaves t i b h s
    → Leaves out 0 b' h u
    → s ≡ u
