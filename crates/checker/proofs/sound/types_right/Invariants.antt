-- The loop's invariant: every register passed has a type.
use Prim.Native.Nat.{ℕ, ◌≤◌, ◌<◌}
use mathlib.Core.Path.{◌≡◌}
use mathlib.Core.Bool.{true}
use lib.Dec.{ltb}
use Rattle.language.specs.Table.{register_type}
use Rattle.checker.proofs.sound.types_right.Given as goal

abbrev pub invariant-loop-i : goal.invariant-loop-i
invariant-loop-i l = (l.i ≤ l.registers) × ((j : ℕ) → j < l.i → ltb (register_type l.t l.a j) 10 ≡ true)
