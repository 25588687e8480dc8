-- Demand 3 speaks of something: its premises hold of an accepted program's own table, and so of the paper's `turn`.
-- Assumes nothing.
use mathlib.Core.List.{[], ◌∷◌}
use Prim.Native.Nat.{ℕ}
use native.Mathlib.Omega.{arith}
use lib.Dec.{T}
use lib.ListN.{length}
use borrow.Author.Tests.{eq-eqb}
use Rattle.language.specs.Programs.{Program, is_ssa}
use Rattle.language.specs.Table.{table_length, cells}
use Rattle.language.specs.Checking.{check}
use Rattle.language.specs.Running.{arguments_fit}
use Rattle.language.specs.Answers.{check_answer}
use Rattle.language.specs.Translating.{translation_fits}
use Rattle.language.proofs.Computing.{computing}
use Rattle.language.proofs.ReadingFacts.{turn}
use Rattle.language.proofs.WholeFunction.{turn_accepted}
use Rattle.theorems.specs.Demand3.{Translatable}
use Rattle.theorems.specs.OverTables.{function_in_table, TranslatableIn}
use Rattle.theorems.proofs.TableSound.{accepted_held}

pub translatable_cells : (p : Program) (i : ℕ) → Translatable (check p) p i → TranslatableIn (cells p) i
unfolding check_answer
translatable_cells p i h =
    let k = accepted_held p h.passes in
    record {
      passes = rw (eq-eqb (length (cells p)) table_length k.count, k.back) h.passes;
      there = rw k.back h.there;
      marked = rw k.back h.marked;
      sized = rw k.back h.sized;
    }

turn_marked : T (is_ssa turn)
unfolding turn
turn_marked = _

turn_sized : T (translation_fits turn)
unfolding computing turn
turn_sized = _

turn_fitting : T (arguments_fit turn (7 ∷ 9 ∷ 2 ∷ []))
unfolding computing turn
turn_fitting = _

pub turn_translatable : TranslatableIn (cells (turn ∷ [])) 0
turn_translatable =
    translatable_cells (turn ∷ []) 0 (record { passes = turn_accepted; there = omega arith; marked = turn_marked; sized = turn_sized })

pub turn_fits : T (arguments_fit (function_in_table (cells (turn ∷ [])) 0) (7 ∷ 9 ∷ 2 ∷ []))
turn_fits = rw (accepted_held (turn ∷ []) turn_accepted).back turn_fitting
