-- The rows noted and the leading phi of the blocks are all that is to be prepared.
-- Assumes nothing.
use mathlib.Core.Path.{◌∙◌}
use mathlib.Core.List.{List}
use Prim.Native.Nat.{ℕ, ◌+◌}
use native.Mathlib.Omega.{arith}
use lib.ListN.{length}
use Rattle.language.specs.Programs.{Func, rows_of}
use Rattle.flow.specs.Layout.{homes_offset}
use Rattle.flow.specs.Assignments.{Noted}
use Rattle.flow.specs.Leading.{Led}
use Rattle.flow.specs.Prepared.{Prepared}
use Rattle.flow.proofs.AssignmentLaws.{first_noted, home_noted}

pub all_prepared : (f : Func) (m m' : List ℕ) → Noted f m (length (rows_of f)) → Led f m m' (length f.blocks) → Prepared f m'
all_prepared f m m' noted led =
    record {
      count = led.count ∙ noted.count;
      assigned = λ u l. led.before u (omega arith) ∙ first_noted f m u (noted.seen u l);
      home = λ u l q. led.before (homes_offset + u) (omega arith) ∙ home_noted f m u (noted.seen u l) q;
      phis = led.phis;
    }
