-- `drafts::state::Draft::end_instruction`: one more row, put down at its place.
use Rattle.drafts.proofs.RowsLaws.{row_proceeds}
use Rattle.drafts.proofs.state.Draft.end_instruction.Goals as goal

pub returns : goal.returns
returns c l b n m =
    rw c.new-self.ensures (row_proceeds c.requires.bounded c.requires.rows_lt_max_rows.0 _ l b c.put.ensures n m)
