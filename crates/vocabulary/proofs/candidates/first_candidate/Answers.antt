-- `vocabulary::candidates::first_candidate`: that of its length.
use Rattle.vocabulary.proofs.ChainLaws.{first_at}
use Rattle.vocabulary.proofs.candidates.first_candidate.Goals as goal

pub returns : goal.returns
returns c =
    rw c.first_candidates.ensures
    (first_at c.args.count c.args.first c.requires.0 c.requires.1)
