-- Its block.
use Rattle.rules.proofs.RangeLaws.{jump_tested}
use Rattle.rules.proofs.ranges.jump_in_range.Goals as goal

pub returns : goal.returns
returns c = search jump_tested
