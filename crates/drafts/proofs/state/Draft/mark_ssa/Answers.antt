-- One number changes.
use Rattle.drafts.proofs.Declaring.{ssa_marked}
use Rattle.drafts.proofs.state.Draft.mark_ssa.Goals as goal

pub returns : goal.returns
returns c = search ssa_marked
