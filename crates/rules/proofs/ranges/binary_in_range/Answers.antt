-- Its target and its two sources.
use Rattle.rules.proofs.RangeLaws.{binary_tested}
use Rattle.rules.proofs.ranges.binary_in_range.Goals as goal

pub returns : goal.returns
returns c = search binary_tested
