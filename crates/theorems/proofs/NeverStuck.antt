-- A run of an accepted function always has an instruction to do. Assumes nothing.
use mathlib.Core.Path.{sym, ap, ◌∙◌, subst}
use mathlib.Core.Bool.{true}
use mathlib.Core.List.{[], ◌∷◌}
use native.Mathlib.Nat.{not-suc-le-zero}
use lib.Dec.{T}
use lib.Ieee.Bits.{is_true}
use Rattle.language.specs.Instructions.{void}
use Rattle.language.specs.Programs.{Row, Func, function_in}
use Rattle.language.specs.Checking.{in_range, breaks_row}
use Rattle.language.specs.Running.{Place, Run, start, start_registers, after, run_of, first_unfit, arguments_fit}
use Rattle.theorems.specs.Clean.{Clean, AtPlace}
use Rattle.theorems.specs.NeverStuck.{AtInstruction, StandsAtInstruction, NeverStuck, OthersStuck}
use Rattle.theorems.proofs.AcceptanceCheck.{clean_of_check}
use Rattle.theorems.proofs.AcceptanceRows.{unknown_out}
use Rattle.theorems.proofs.SimulationRows.{in_range_law, row_here_is}
use Rattle.theorems.proofs.Values.{Stays, run_stays}

module _ (f : Func) (c : Clean f) where
  at_instruction : (p : Place) → AtPlace f p → AtInstruction f p
  at_instruction p v =
      let here = row_here_is f p v.row in
      record {
        block = v.block;
        row = v.row;
        known = λ op e. unknown_out f op (subst (λ (r : Row). T (in_range f r)) (sym here ∙ e) (in_range_law f c p.block p.row v.row));
        passes =
            ap (λ (r : Row). breaks_row f (record { block = p.block; index = p.row; row = r })) here ∙ c.rows p.block p.row v.row;
      }

  stands : (r : Run) → Stays f r → StandsAtInstruction f r
  stands (Run.going p g) s = at_instruction p s.0
  stands (Run.ended o p g) s = at_instruction p s.0

pub never_stuck : NeverStuck
never_stuck p i args n e l a =
    let f = function_in p i in
    let c = clean_of_check p i e l in
    stands f c (run_of f args n) (run_stays f c args n (is_true (arguments_fit f args) a))

-- A function whose one block has no rows.
rowless : Func
rowless = record { name = []; ssa = 0; result = void; params = 0; registers = []; blocks = record { name = []; rows = [] } ∷ []; entry = 0; placed = true }

pub others_stuck : OthersStuck
unfolding rowless arguments_fit first_unfit run_of start start_registers after
others_stuck = (rowless, [], tt, λ h. not-suc-le-zero h.row)
