-- The loop's invariant: every row passed is a phi.
use Prim.Native.Nat.{ℕ, ◌+◌, ◌≤◌, ◌<◌}
use mathlib.Core.Path.{◌≡◌}
use mathlib.Core.Bool.{true}
use lib.Dec.{eqb}
use Rattle.language.specs.Instructions.{phi_op}
use Rattle.language.specs.Table.{row_op}
use Rattle.flow.proofs.leading.leading_phis.Given as goal

abbrev pub invariant-loop-j : goal.invariant-loop-j
invariant-loop-j l = (l.j ≤ l.rows) × ((i : ℕ) → i < l.j → eqb (row_op l.t l.a (l.first + i)) phi_op ≡ true)
