-- `differing_text` looks at each byte once.
use Rattle.std.proofs.Common.{length, ◌≤◌, ◌-◌}
use Rattle.cases.proofs.tables.differing_text.Given as goal

abbrev pub invariant-loop-i : goal.invariant-loop-i
invariant-loop-i l = l.i ≤ length l.page

abbrev pub decreases-loop-i : goal.decreases-loop-i
decreases-loop-i l = length l.page - l.i
