-- `vectors` runs each script once.
use Rattle.std.proofs.Common.{◌≤◌, ◌-◌}
use Rattle.cases.proofs.vectors.Given as goal

abbrev pub invariant-loop-i : goal.invariant-loop-i
invariant-loop-i g l = l.i ≤ 320

abbrev pub decreases-loop-i : goal.decreases-loop-i
decreases-loop-i g l = 320 - l.i
