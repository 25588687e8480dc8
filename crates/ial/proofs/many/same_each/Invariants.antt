-- The loop's invariant: the numbers of the arguments passed are written.
use mathlib.Core.Path.{◌≡◌}
use Prim.Native.Nat.{◌-◌, ◌*◌, ◌≤◌}
use lib.ListN.{length, take}
use Rattle.answers.specs.Numbers.{numbers_of}
use Rattle.ial.specs.Runs.{cells_from}
use Rattle.ial.proofs.many.same_each.Given as goal

abbrev pub invariant-loop-k : goal.invariant-loop-k
invariant-loop-k l =
    (l.k ≤ length l.args) × (length l.out ≡ length l.initial.out) × (take (4 * l.k) l.out ≡ cells_from (λ a. numbers_of l.x) (take l.k l.args))
