-- Its source.
use Rattle.rules.proofs.RangeLaws.{return_tested}
use Rattle.rules.proofs.ranges.return_in_range.Goals as goal

pub returns : goal.returns
returns c = search return_tested
