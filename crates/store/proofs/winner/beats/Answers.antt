-- `store::beats` meets its contract: the first numbers that differ decide. Assumes nothing.
use mathlib.Core.Path.{refl}
use Rattle.laws.proofs.Branches.{by_eq, by_ne}
use Rattle.records.specs.Records.{wins, compared, larger, meant}
use Rattle.store.proofs.winner.beats.Goals as goal

pub returns-then-x-y : goal.returns-then-x-y
unfolding wins compared
returns-then-x-y c = by_ne _ _ _ _ _ c.if-x-y.true refl

pub returns-then-x-y-2 : goal.returns-then-x-y-2
unfolding wins compared
returns-then-x-y-2 c = by_eq _ _ _ _ _ c.if-x-y.false (by_ne _ _ _ _ _ c.if-x-y-2.true refl)

pub returns-then-x-y-3 : goal.returns-then-x-y-3
unfolding wins compared
returns-then-x-y-3 c =
    by_eq _ _ _ _ _ c.if-x-y.false (by_eq _ _ _ _ _ c.if-x-y-2.false (by_ne _ _ _ _ _ c.if-x-y-3.true refl))

pub returns : goal.returns
unfolding wins compared larger meant
returns c =
    by_eq _ _ _ _ _ c.if-x-y.false (by_eq _ _ _ _ _ c.if-x-y-2.false (by_eq _ _ _ _ _ c.if-x-y-3.false c.at_least.ensures))
