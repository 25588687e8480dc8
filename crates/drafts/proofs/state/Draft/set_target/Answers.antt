-- `drafts::state::Draft::set_target`: 5, 7, or new parts with the target.
use native.Mathlib.Nat.{le_refl}
use Rattle.drafts.proofs.RowsLaws.{target_refused, target_unknown, target_proceeds}
use Rattle.drafts.proofs.state.Draft.set_target.Goals as goal

pub returns-then-self-ge-MAX_ROWS : goal.returns-then-self-ge-MAX_ROWS
returns-then-self-ge-MAX_ROWS c =
    target_refused c.requires.bounded _ _ _ _ _ c.if-self-ge-MAX_ROWS.true

pub returns-in_default : goal.returns-in_default
returns-in_default c =
    target_unknown c.requires.bounded _ _ _ _ _ c.in_default.ensures c.if-self-ge-MAX_ROWS.false (le_refl c.args.self.head.registers)

pub returns : goal.returns
returns c n m =
    rw c.new-self.ensures (target_proceeds c.requires.bounded _ _ _ _ _ c.in-Some.ensures.0 c.if-self-ge-MAX_ROWS.false c.in-Some.ensures.1 n m)
