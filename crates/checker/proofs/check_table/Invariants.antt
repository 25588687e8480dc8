-- The loop's invariant: the functions before number i are accepted, so that the answer is that of those from i on.
use Prim.Native.Nat.{◌≤◌}
use mathlib.Core.Path.{◌≡◌}
use lib.ListN.{length}
use Rattle.language.specs.Answers.{check_answer}
use Rattle.flow.specs.Layout.{flow_length}
use Rattle.checker.proofs.Order.{judged_from}
use Rattle.checker.proofs.check_table.Given as goal

abbrev pub invariant-loop-i : goal.invariant-loop-i
invariant-loop-i l = (l.i ≤ l.n) × (length l.m ≡ flow_length) × (check_answer l.t ≡ judged_from l.t l.i)
