-- The loop's invariant: the numbers of the arguments passed are written; of the registers and the scratch only the count matters.
use mathlib.Core.Path.{◌≡◌}
use mathlib.Core.List.{[], ◌∷◌}
use Prim.Native.Nat.{◌-◌, ◌*◌, ◌≤◌}
use lib.ListN.{length, take}
use Rattle.language.specs.Table.{decode}
use Rattle.language.specs.Answers.{ran_numbers, run_function}
use Rattle.ial.specs.Runs.{cells_from}
use Rattle.ial.proofs.many.run_all.Given as goal

abbrev pub invariant-loop-k : goal.invariant-loop-k
invariant-loop-k l =
    (l.k ≤ length l.args)
    × (length l.taken ≡ length l.initial.taken)
    × (length l.registers ≡ length l.initial.registers)
    × (length l.out ≡ length l.initial.out)
    × (take (4 * l.k) l.out ≡ cells_from (λ a. ran_numbers (run_function (decode l.t) l.i (a ∷ []) l.budget (length l.initial.registers)).answer) (take l.k l.args))
