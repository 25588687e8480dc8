-- Its target and its source.
use Rattle.rules.proofs.RangeLaws.{unary_tested}
use Rattle.rules.proofs.ranges.unary_in_range.Goals as goal

pub returns : goal.returns
returns c = search unary_tested
