-- `play_all` ends after the last record.
use Rattle.std.proofs.Common.{length, ◌≡◌, ◌≤◌, ◌<◌, ◌-◌}
use Rattle.cases.proofs.scripts.play_all.Given as goal

abbrev pub invariant-loop-i : goal.invariant-loop-i
invariant-loop-i g l = (l.i ≤ l.n) × (l.n < 65536) × (length l.t ≡ length l.initial.t) × (length l.translated ≡ length l.initial.translated)

abbrev pub decreases-loop-i : goal.decreases-loop-i
decreases-loop-i g l = l.n - l.i
