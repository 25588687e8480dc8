-- Demand 3 for what the entry points answer: over tables as they are lent, and over budgets.
-- Assumes nothing.
use Rattle.std.specs.Prelude.{◌≡◌, List, [], ◌∷◌, ◌++◌, ℕ, ◌*◌, ◌≤◌, ◌<◌, T, length}
use Rattle.laws.specs.Lists.{member}
use Rattle.language.specs.Programs.{Func, function_in}
use Rattle.language.specs.Table.{table_length, cells, decode}
use Rattle.language.specs.Checking.{Verdict}
use Rattle.language.specs.Running.{Outcome, Ends, NotEnded, arguments_fit}
use Rattle.language.specs.Answers.{Ran, Filled, verdict_numbers, ran_numbers, check_answer, run_answer, translate_answer}
use Rattle.language.specs.Translating.{translation, step_formula}
use Rattle.theorems.specs.Statements.{ran_with}
use Rattle.theorems.specs.Demand3.{Translatable, Translates}

-- Function i of a table, as its cells give it.
abbrev pub function_in_table : List ℕ → ℕ → Func
function_in_table t i = function_in (decode t) i

-- Function i of a table is one that demand 3 speaks of.
abbrev pub TranslatableIn : List ℕ → ℕ → Type 0
TranslatableIn t i = Translatable (check_answer t) (decode t) i

-- What demand 3 says of the answer and output of translating function i of t: it is not refused, and the output is the cells of the translation,
-- passes its check, and holds that one function.
pub record Translated (t : List ℕ) (i : ℕ) (x : Filled) : Type 0 where
  pub done : x.answer ≡ Verdict.accepted
  pub written : x.table ≡ cells (translation (function_in_table t i) ∷ [])
  pub passes : check_answer x.table ≡ Verdict.accepted
  pub holds : decode x.table ≡ function_in_table x.table 0 ∷ []
  pub translates : Translates (function_in_table t i) (function_in_table x.table 0)

abbrev pub Demand3OverTables : Type 0
Demand3OverTables = (t : List ℕ) (i : ℕ) → TranslatableIn t i → Translated t i (translate_answer t i table_length)

-- Number 0 says that nothing was refused: so a caller learns by its calls that a function is one that demand 3 speaks of.
abbrev pub CheckedIs0 : Type 0
CheckedIs0 = (t : List ℕ) → (verdict_numbers (check_answer t)).number ≡ 0 → check_answer t ≡ Verdict.accepted

abbrev pub TranslatedIs0 : Type 0
TranslatedIs0 = (t : List ℕ) (i n : ℕ) → (verdict_numbers (translate_answer t i n).answer).number ≡ 0 → TranslatableIn t i × (n ≡ table_length)

-- ---- under budgets

-- "Each refusal and each stop is a number in document 01": the stops that end a run.
abbrev pub stop_numbers : List ℕ
stop_numbers = 40 ∷ 41 ∷ 42 ∷ []

abbrev pub StopsWithThese : Type 0
StopsWithThese = (f : Func) (args : List ℕ) (n k : ℕ) → Ends f args n (Outcome.stopped k) → T (member k stop_numbers)

-- "43 | stop: budget used up" is none of them, so that a call which answers 43, whatever it was called with, says that its run has not ended after
-- as many steps as its budget.
abbrev pub NoEndIs43 : Type 0
NoEndIs43 = (f : Func) (args : List ℕ) (n : ℕ) → ¬ Ends f args n (Outcome.stopped 43)

abbrev pub AnsweredIs43 : Type 0
AnsweredIs43 =
    (t : List ℕ) (i : ℕ) (args : List ℕ) (b c : ℕ)
    → (let a = ran_numbers (run_answer t i args b c).answer in a.number ≡ 43 → NotEnded (function_in_table t i) args b × (a.steps ≡ b))

-- What running refuses with: "9 to 17", "then 21; running then 20, 22".
abbrev pub run_refusals : List ℕ
run_refusals = 9 ∷ 10 ∷ 11 ∷ 12 ∷ 13 ∷ 14 ∷ 15 ∷ 16 ∷ 17 ∷ 20 ∷ 21 ∷ 22 ∷ []

-- All numbers that running answers: 0 where it returns, with a value or without one.
abbrev pub run_numbers : List ℕ
run_numbers = 0 ∷ run_refusals ++ stop_numbers ++ 43 ∷ []

abbrev pub RunAnswersThese : Type 0
RunAnswersThese = (t : List ℕ) (i : ℕ) (args : List ℕ) (b c : ℕ) → T (member (ran_numbers (run_answer t i args b c).answer).number run_numbers)

-- Document 02, A10: "27 stays unused in later papers".
abbrev pub Never27 : Type 0
Never27 = (t : List ℕ) (i : ℕ) (args : List ℕ) (b c : ℕ) → ¬ ((ran_numbers (run_answer t i args b c).answer).number ≡ 27)

-- An answer as a caller has it, `told` giving its form: that the run ended with outcome o after n steps; that its budget b was used up.
abbrev pub EndedWith : {A : Type 0} → (Ran → A) → Outcome → ℕ → A → Type 0
EndedWith told o n x = (p : ℕ) × (x ≡ told (ran_with o p n))

abbrev pub UsedUp : {A : Type 0} → (Ran → A) → ℕ → A → Type 0
UsedUp told b x = (p : ℕ) × (x ≡ told (Ran.stopped 43 p b))

-- Source f ends after n steps, and translation g after m, with the same outcome o.
pub record EndBoth (f g : Func) (args : List ℕ) (n m : ℕ) (o : Outcome) : Type 0 where
  pub source_ends : Ends f args n o
  pub translation_ends : Ends g args m o
  pub formula : m ≡ step_formula f args n
  pub at_least : n ≤ m
  pub at_most : m ≤ 3 * n

-- What source f, called with budget b, and its translation g, called with budget b', may answer: x and y.
pub data Compared {A : Type 0} (told : Ran → A) (f g : Func) (args : List ℕ) (b b' : ℕ) (x y : A) : Type 0 where
  -- both end within their budgets
  both : (n m : ℕ) (o : Outcome) → EndBoth f g args n m o → n ≤ b → m ≤ b' → EndedWith told o n x → EndedWith told o m y → Compared told f g args b b' x y
  -- the source ends, and the translation needs more than its budget
  source_alone : (n m : ℕ) (o : Outcome) → EndBoth f g args n m o → n ≤ b → b' < m → EndedWith told o n x → UsedUp told b' y → Compared told f g args b b' x y
  -- the source needs more than its budget, and the translation, whose is larger, ends with the outcome that the source comes to
  translation_alone : (n m : ℕ) (o : Outcome) → EndBoth f g args n m o → b < n → m ≤ b' → UsedUp told b x → EndedWith told o m y → Compared told f g args b b' x y
  -- neither ends within its budget
  unended : NotEnded f args b → NotEnded g args b' → UsedUp told b x → UsedUp told b' y → Compared told f g args b b' x y

pub record RunsAgree {A : Type 0} (told : Ran → A) (f g : Func) (args : List ℕ) (b b' : ℕ) (x y : A) : Type 0 where
  pub compared : Compared told f g args b b' x y
  -- where the source ends after n steps within its budget, a budget of 3n suffices for the translation
  pub suffices :
      (n : ℕ) (o : Outcome)
      → Ends f args n o
      → n ≤ b
      → 3 * n ≤ b'
      → EndedWith told o n x × EndedWith told o (step_formula f args n) y
  -- where the source answered 43, so does the translation under the same budget or a smaller one
  pub neither : (p s : ℕ) → x ≡ told (Ran.stopped 43 p s) → b' ≤ b → UsedUp told b' y

-- Runs of function i of t and of its translation, on arguments that fit, with lent registers that suffice: c and c'.
abbrev pub RunsOverTables : Type 0
RunsOverTables =
    (t : List ℕ) (i : ℕ) (x : Filled) (args : List ℕ) (b b' c c' : ℕ)
    → TranslatableIn t i
    → Translated t i x
    → T (arguments_fit (function_in_table t i) args)
    → length (function_in_table t i).registers ≤ c
    → length (function_in_table x.table 0).registers ≤ c'
    → (let f = function_in_table t i in
    let g = function_in_table x.table 0 in
    RunsAgree (λ r. r) f g args b b' (run_answer t i args b c).answer (run_answer x.table 0 args b' c').answer)
