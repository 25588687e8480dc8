-- A run of an accepted function on arguments that fit always has an instruction to do: no such run uses the clause by which a step stays where
-- there is none (document 02, A10).
-- Assumes nothing.
use Rattle.std.specs.Prelude.{◌≡◌, false, List, ℕ, ◌<◌, T, length}
use Rattle.language.specs.Programs.{Row, Func, Program, function_in, rows_at}
use Rattle.language.specs.Checking.{Verdict, check, breaks_row}
use Rattle.language.specs.Running.{Place, Run, row_here, run_of, arguments_fit}

-- There is an instruction to do at p.
pub record AtInstruction (f : Func) (p : Place) : Type 0 where
  -- a row stands there,
  pub block : p.block < length f.blocks
  pub row : p.row < length (rows_at f p.block)
  -- which is an instruction
  pub known : (op : ℕ) → ¬ (row_here f p ≡ Row.unknown op)
  -- and breaks none of 9 to 16
  pub passes : breaks_row f (record { block = p.block; index = p.row; row = row_here f p }) ≡ false

-- Where a run stands: at the step that comes next, or at the one that ended it.
abbrev pub StandsAtInstruction : Func → Run → Type 0
StandsAtInstruction f (Run.going p g) = AtInstruction f p
StandsAtInstruction f (Run.ended o p g) = AtInstruction f p

-- After every number of steps, of every run on arguments that fit.
abbrev pub NeverStuck : Type 0
NeverStuck =
    (p : Program) (i : ℕ) (args : List ℕ) (n : ℕ)
    → check p ≡ Verdict.accepted
    → i < length p
    → (let f = function_in p i in T (arguments_fit f args) → StandsAtInstruction f (run_of f args n))

-- It is acceptance that gives it: another function may be stuck where it starts.
abbrev pub OthersStuck : Type 0
OthersStuck = (f : Func) × (args : List ℕ) × T (arguments_fit f args) × ¬ StandsAtInstruction f (run_of f args 0)
