-- `drafts::state::Draft::add_mention`: the number of the name is the first, the second, or one more.
use native.Mathlib.Omega.{arith}
use Rattle.drafts.proofs.FirstTwo.{first_pushed, second_pushed, none_pushed}
use Rattle.drafts.proofs.Mentioning.{mention_proceeds}
use Rattle.drafts.proofs.state.Draft.add_mention.Goals as goal

pub returns-then-d-eq0 : goal.returns-then-d-eq0
returns-then-d-eq0 c f n l q =
    let more = c.with_name-d.ensures in
    let b = c.requires.bounded in
    let number = c.name_number-k.ensures in
    mention_proceeds b _ _ number.name_kept f n l q more (first_pushed _ _ _ _ c.if-d-eq0.true) (omega (arith, number.upper_bound, b.names)) (rw more b.other)

pub returns-then-d-eq1 : goal.returns-then-d-eq1
returns-then-d-eq1 c f n l q =
    let more = c.with_name-d.ensures in
    let b = c.requires.bounded in
    let number = c.name_number-k.ensures in
    mention_proceeds b _ _ number.name_kept f n l q more (second_pushed _ _ _ _ c.if-d-eq1.true) (rw more b.one) (omega (arith, number.upper_bound, b.names))

pub returns-else-d-eq1 : goal.returns-else-d-eq1
returns-else-d-eq1 c f n l q =
    let more = c.with_name-d.ensures in
    let b = c.requires.bounded in
    let number = c.name_number-k.ensures in
    mention_proceeds b _ _ number.name_kept f n l q more (none_pushed _ _ _ _ c.if-d-eq0.false c.if-d-eq1.false) (rw more b.one) (rw more b.other)
