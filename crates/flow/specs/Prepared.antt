-- All that is prepared of a function once, so that no test of a row scans it again.
-- Assumes nothing.
use Rattle.std.specs.Prelude.{◌≡◌, List, ℕ, ◌<◌, T, length}
use Rattle.language.specs.Programs.{Func, max_registers, rows_of}
use Rattle.language.specs.Checking.{assigned_in}
use Rattle.flow.specs.Layout.{flow_length, assignment_in, home_in, phis_in}
use Rattle.flow.specs.Assignments.{assigned_at, home_of}
use Rattle.flow.specs.Leading.{leading_phis}

-- For each register its first assigning row and that row's block, for each block its leading phi.
pub record Prepared (f : Func) (m : List ℕ) : Type 0 where
  pub count : length m ≡ flow_length
  pub assigned : (u : ℕ) → u < max_registers → assignment_in m u ≡ assigned_at f u
  pub home : (u : ℕ) → u < max_registers → T (assigned_in (rows_of f) u) → home_in m u ≡ home_of f u
  pub phis : (b : ℕ) → b < length f.blocks → phis_in m b ≡ leading_phis f b
