-- `store::past` meets its contract: each return is the case that its test leads to. Assumes nothing.
use mathlib.Core.Path.{refl}
use Rattle.laws.proofs.Branches.{by_lt_of, by_not_lt_of}
use Rattle.store.specs.Places.{past_of}
use Rattle.store.proofs.search.past.Goals as goal

pub returns-then-appliance_at-a : goal.returns-then-appliance_at-a
unfolding past_of
returns-then-appliance_at-a c = by_lt_of _ _ _ _ _ c.appliance_at.result c.appliance_at.ensures c.if-appliance_at-a.true refl

pub returns : goal.returns
unfolding past_of
returns c = by_not_lt_of _ _ _ _ _ c.appliance_at.result c.appliance_at.ensures c.if-appliance_at-a.false refl
