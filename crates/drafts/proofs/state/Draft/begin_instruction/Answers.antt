-- `drafts::state::Draft::begin_instruction`: 5, or new parts.
use Rattle.drafts.proofs.RowsLaws.{begin_refused, begin_proceeds}
use Rattle.drafts.proofs.state.Draft.begin_instruction.Goals as goal

pub returns-then-self-ge-MAX_ROWS : goal.returns-then-self-ge-MAX_ROWS
returns-then-self-ge-MAX_ROWS c = begin_refused c.requires _ _ c.if-self-ge-MAX_ROWS.true

pub returns : goal.returns
returns c x =
    rw (c.new-self.ensures, c.from.ensures) (begin_proceeds c.requires _ _ c.ranges.op.fits c.if-self-ge-MAX_ROWS.false x)
