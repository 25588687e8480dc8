-- `naming::suffixes::digit`: the three cases of its definition.
use mathlib.Core.Path.{refl}
use Rattle.laws.proofs.Branches.{by_lt, by_not_lt}
use Rattle.naming.specs.Numbers.{digit_from}
use Rattle.naming.proofs.suffixes.digit.Goals as goal
use Rattle.naming.proofs.suffixes.digit.Goals.{then-b-least-via-then-b-least, then-b-least-via-else-b-least+then-b-gt57}

pub returns-then-b-least-clause-value : goal.returns-then-b-least-clause-value
unfolding digit_from
returns-then-b-least-clause-value c =
    elim c.then-b-least.branch [
      | then-b-least-via-then-b-least w ↦ by_lt _ _ _ _ _ w.if-b-least.true refl
      | then-b-least-via-else-b-least+then-b-gt57 w ↦ by_not_lt _ _ _ _ _ w.if-b-least.false (by_lt _ _ _ _ _ w.if-b-gt57.true refl)
    ]

pub returns-clause-value : goal.returns-clause-value
unfolding digit_from
returns-clause-value c = by_not_lt _ _ _ _ _ c.if-b-least.false (by_not_lt _ _ _ _ _ c.if-b-gt57.false c.from.ensures)
