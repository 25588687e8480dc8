-- One number changes.
use Rattle.drafts.proofs.Declaring.{result_set}
use Rattle.drafts.proofs.state.Draft.set_result.Goals as goal

pub returns : goal.returns
returns c = rw c.from-self.ensures (search result_set)
