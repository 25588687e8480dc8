-- Its target and its entries.
use Rattle.std.proofs.Common.{nat_lt, rules}
use Rattle.rules.proofs.RangeLaws.{phi_tested}
use Rattle.rules.proofs.ranges.phi_in_range.Goals as goal

pub returns : goal.returns
returns c = let fits = c.entries_pass.ensures (λ u. nat_lt u c.args.registers) (λ u b l e. search rules) in search phi_tested
