-- The two counts stand before the name.
use Rattle.drafts.proofs.Declaring.{block_closed}
use Rattle.drafts.proofs.state.Draft.end_block.Goals as goal

pub returns : goal.returns
returns c = search block_closed
