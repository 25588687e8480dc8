-- Demand 3 for the entry points themselves: a call is known here by what its contract says of it, and by nothing else. Its words are those of
-- `theorems`' Demand3 and OverTables.
-- Assumes nothing.
use Rattle.std.specs.Prelude.{◌≡◌, List, ℕ, ◌≤◌, T, length, ⊤, Ok}
use Rattle.std.specs.declared.result.Result.{Result}
use Rattle.language.specs.Table.{table_length}
use Rattle.language.specs.Checking.{Verdict as Verdictᴸ}
use Rattle.language.specs.Running.{NotEnded, arguments_fit}
use Rattle.language.specs.Answers.{Answer as Answerᴸ, verdict_numbers, ran_numbers, check_answer}
use Rattle.theorems.specs.OverTables.{function_in_table, TranslatableIn, Translated, RunsAgree}
use Rattle.answers.specs.declared.reasons.Refusal.{Refusal}
use Rattle.answers.specs.declared.reasons.Stop.TheVariants as stops
use Rattle.answers.specs.declared.Ran.{Ran}
use Rattle.answers.specs.declared.Ran.TheVariants as rans
use Rattle.answers.specs.declared.figures.Answer.{Answer}
use Rattle.answers.specs.Cases.{ran_of}
use Rattle.answers.specs.Numbers.{numbers_of}
use Rattle.answers.specs.Lent.{filled_of}
use Rattle.ial.specs.Calls.{CheckCalled, RunCalled, TranslateCalled, CheckLinked, RunLinked, TranslateLinked}

-- What holds of a call of `translate` that demand 3 speaks of, and of every call of `check` and `run` on its output: runs on arguments that fit,
-- with c and c' lent registers that suffice, under any budgets b and b'.
pub record Demand3Called (t : List ℕ) (i : ℕ) (r : Result ⊤ Refusal) (out : List ℕ) : Type 0 where
  pub done : r ≡ Ok tt
  pub translated : Translated t i (filled_of r out)
  pub checked : (v : Result ⊤ Refusal) → CheckCalled out v → v ≡ Ok tt
  pub runs :
      (args : List ℕ) (b b' c c' : ℕ) (x y : Result Ran Refusal) (g h : List ℕ)
      → T (arguments_fit (function_in_table t i) args)
      → RunCalled t i args b c x g
      → RunCalled out 0 args b' c' y h
      → length (function_in_table t i).registers ≤ c
      → length (function_in_table out 0).registers ≤ c'
      → RunsAgree (λ a. a) (function_in_table t i) (function_in_table out 0) args b b' (ran_of x) (ran_of y)

abbrev pub Demand3OfCalls : Type 0
Demand3OfCalls =
    (t : List ℕ) (i : ℕ) (r : Result ⊤ Refusal) (out : List ℕ)
    → TranslatableIn t i
    → TranslateCalled t i table_length r out
    → Demand3Called t i r out

-- The same of `ial_translate`, `ial_check` and `ial_run`, by their four numbers; all four are 0 where nothing is refused.
abbrev pub no_refusal : Answerᴸ
no_refusal = verdict_numbers Verdictᴸ.accepted

pub record Demand3Linked (t : List ℕ) (i : ℕ) (r : Answer) (out : List ℕ) : Type 0 where
  pub done : numbers_of r ≡ no_refusal
  pub translated : Translated t i (record { answer = Verdictᴸ.accepted; table = out })
  pub checked : (v : Answer) → CheckLinked out v → numbers_of v ≡ no_refusal
  pub runs :
      (args : List ℕ) (b b' c c' : ℕ) (x y : Answer) (g h : List ℕ)
      → T (arguments_fit (function_in_table t i) args)
      → RunLinked t i args b c x g
      → RunLinked out 0 args b' c' y h
      → length (function_in_table t i).registers ≤ c
      → length (function_in_table out 0).registers ≤ c'
      → RunsAgree ran_numbers (function_in_table t i) (function_in_table out 0) args b b' (numbers_of x) (numbers_of y)

abbrev pub Demand3OfSymbols : Type 0
Demand3OfSymbols =
    (t : List ℕ) (i : ℕ) (r : Answer) (out : List ℕ)
    → TranslatableIn t i
    → TranslateLinked t i table_length r out
    → Demand3Linked t i r out

-- Number 0 says that nothing was refused: so a caller learns by its calls that demand 3 speaks of the function.
abbrev pub SymbolChecked : Type 0
SymbolChecked = (t : List ℕ) (v : Answer) → CheckLinked t v → v.number ≡ 0 → check_answer t ≡ Verdictᴸ.accepted

abbrev pub CallTranslated : Type 0
CallTranslated = (t : List ℕ) (i n : ℕ) (out : List ℕ) → TranslateCalled t i n (Ok tt) out → TranslatableIn t i × (n ≡ table_length)

abbrev pub SymbolTranslated : Type 0
SymbolTranslated =
    (t : List ℕ) (i n : ℕ) (r : Answer) (out : List ℕ) → TranslateLinked t i n r out → r.number ≡ 0 → TranslatableIn t i × (n ≡ table_length)

-- An answer 43 of a call, whatever it was called with, says that its run has not ended: of `run`, and of `ial_run`.
abbrev pub Call43 : Type 0
Call43 =
    (t : List ℕ) (i : ℕ) (args : List ℕ) (b c p s : ℕ) (g : List ℕ)
    → RunCalled t i args b c (Ok (rans.Stopped stops.BudgetUsedUp p s)) g
    → NotEnded (function_in_table t i) args b × (s ≡ b)

abbrev pub Symbol43 : Type 0
Symbol43 =
    (t : List ℕ) (i : ℕ) (args : List ℕ) (b c : ℕ) (x : Answer) (g : List ℕ)
    → RunLinked t i args b c x g
    → x.number ≡ 43
    → NotEnded (function_in_table t i) args b × (x.steps ≡ b)

-- Document 02, A10: "Show that 27 can't be given for any input": of `run`, and of `ial_run`.
abbrev pub CallNever27 : Type 0
CallNever27 =
    (t : List ℕ) (i : ℕ) (args : List ℕ) (b c : ℕ) (x : Result Ran Refusal) (g : List ℕ)
    → RunCalled t i args b c x g
    → ¬ ((ran_numbers (ran_of x)).number ≡ 27)

abbrev pub SymbolNever27 : Type 0
SymbolNever27 =
    (t : List ℕ) (i : ℕ) (args : List ℕ) (b c : ℕ) (x : Answer) (g : List ℕ)
    → RunLinked t i args b c x g
    → ¬ (x.number ≡ 27)
