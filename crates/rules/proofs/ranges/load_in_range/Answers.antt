-- Its target and its number, by the law of a load's range.
use Rattle.rules.proofs.RangeLaws.{load_tested}
use Rattle.rules.proofs.ranges.load_in_range.Goals as goal

pub returns : goal.returns
returns c = search load_tested
