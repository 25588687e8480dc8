-- Laws of sizes, budgets and tables: the statements, apart from their proofs.
-- Assumes nothing.
use Rattle.std.specs.Prelude.{◌≡◌, List, ℕ, ◌≤◌, length}
use Rattle.language.specs.Programs.{Func, Program, rows_of}
use Rattle.laws.specs.Sections.{Bytes}
use Rattle.language.specs.Reading.{Reading, read}
use Rattle.language.specs.Table.{cells, decode}
use Rattle.language.specs.Checking.{Verdict, check}
use Rattle.language.specs.Running.{Place, Outcome, Run, run_of, Ends, NotEnded}
use Rattle.language.specs.Answers.{Ran, ran_as}
use Rattle.language.specs.Translating.{translation, translated_registers, translated_blocks, translated_rows}

-- "Translated size": the formula counts what the translation has.
abbrev pub SizeLaw : Type 0
SizeLaw =
    (f : Func)
    → (length (translation f).registers ≡ translated_registers f)
    × (length (translation f).blocks ≡ translated_blocks f)
    × (length (rows_of (translation f)) ≡ translated_rows f)

-- ---- budgets

-- A larger budget changes no ended run.
abbrev pub LargerBudget : Type 0
LargerBudget =
    (f : Func) (args : List ℕ) (n m : ℕ) (o : Outcome) (p : Place) (g : List ℕ)
    → n ≤ m → run_of f args n ≡ Run.ended o p g → run_of f args m ≡ Run.ended o p g

-- The answer of a run that ended with this outcome, at this place, after so many steps.
abbrev pub ran_with : Outcome → ℕ → ℕ → Ran
ran_with (Outcome.returned v) p n = Ran.returned v n
ran_with Outcome.left p n = Ran.left n
ran_with (Outcome.stopped k) p n = Ran.stopped k p n

-- A run with a budget agrees with the run without one: "a run that needs exactly its budget ends normally", and one that needs more answers 43
-- after as many steps as the budget has.
pub record BudgetAgrees (i : ℕ) (f : Func) (args : List ℕ) (budget : ℕ) : Type 0 where
  pub ended : (n : ℕ) (o : Outcome) → n ≤ budget → Ends f args n o → (p : ℕ) × (ran_as i f (run_of f args budget) ≡ ran_with o p n)
  pub going : NotEnded f args budget → (p : ℕ) × (ran_as i f (run_of f args budget) ≡ Ran.stopped 43 p budget)

abbrev pub BudgetLaw : Type 0
BudgetLaw = (i : ℕ) (f : Func) (args : List ℕ) (budget : ℕ) → BudgetAgrees i f args budget

-- ---- tables

-- Decoding the cells of an accepted program gives it back. (TableLaw says it of every program that fits the cells.)
abbrev pub AcceptedBack : Type 0
AcceptedBack = (p : Program) → check p ≡ Verdict.accepted → decode (cells p) ≡ p

-- So it does of every program that reading gives: the table of a text of bytes holds what the text means.
abbrev pub ReadBack : Type 0
ReadBack = (text : List ℕ) (p : Program) → Bytes text → read text ≡ Reading.program p → decode (cells p) ≡ p
