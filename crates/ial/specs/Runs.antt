-- Running in registers that may hold anything, and many runs at once. Assumes nothing.
use Rattle.std.specs.Prelude.{◌≡◌, List, ℕ, length}
use Rattle.std.specs.declared.result.Result.{Result}
use Rattle.laws.specs.Lists.{gather}
use Rattle.language.specs.Programs.{Program}
use Rattle.language.specs.Answers.{Answer, Ran as Ranᴸ, zeros, number_cells, run_function}
use Rattle.answers.specs.declared.Ran.{Ran}
use Rattle.answers.specs.declared.reasons.Refusal.{Refusal}
use Rattle.answers.specs.Cases.{ran_of}

-- The place of a stop, 0 for other answers.
abbrev pub stop_place : Ranᴸ → ℕ
stop_place (Ranᴸ.returned v s) = 0
stop_place (Ranᴸ.left s) = 0
stop_place (Ranᴸ.stopped n p s) = p
stop_place (Ranᴸ.refused n p) = 0

-- A run of function i of an accepted program p, in registers that held g and are h afterwards: the answer is the definition's, and so are the
-- registers where they were all zero.
pub record RunsTo (p : Program) (i : ℕ) (args : List ℕ) (budget : ℕ) (g : List ℕ) (x : Result Ran Refusal) (h : List ℕ) : Type 0 where
  pub answer : ran_of x ≡ (run_function p i args budget (length g)).answer
  pub registers : g ≡ zeros (length g) → h ≡ (run_function p i args budget (length g)).registers

-- ---- many runs

-- The four numbers of each argument's answer, one after the other.
abbrev pub cells_from : (ℕ → Answer) → List ℕ → List ℕ
cells_from f args = gather (λ a. number_cells (f a)) args
