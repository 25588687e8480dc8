-- `drafts::state::Draft::set_instruction`: new parts with the target that was there.
use Rattle.drafts.proofs.RowsLaws.{instruction_proceeds}
use Rattle.drafts.proofs.state.Draft.set_instruction.Goals as goal

pub returns : goal.returns
returns c x = rw (c.new-self.ensures, c.from.ensures) (instruction_proceeds c.requires _ c.ranges.op.fits x)
