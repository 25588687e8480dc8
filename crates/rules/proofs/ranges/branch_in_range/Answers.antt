-- Its source and its two blocks.
use Rattle.rules.proofs.RangeLaws.{branch_tested}
use Rattle.rules.proofs.ranges.branch_in_range.Goals as goal

pub returns : goal.returns
returns c = search branch_tested
