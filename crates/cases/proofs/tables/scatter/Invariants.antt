-- `scatter`: the sequence's numbers stay below 2^32.
use Rattle.std.proofs.Common.{length, ◌≡◌, ◌<◌, ◌-◌}
use Rattle.cases.proofs.tables.scatter.Given as goal

abbrev pub invariant-loop-k : goal.invariant-loop-k
invariant-loop-k l = (l.x < 4294967296) × (length l.t ≡ length l.initial.t)

abbrev pub decreases-loop-k : goal.decreases-loop-k
decreases-loop-k l = l.e - l.k
