-- `Kind::rank`: to add the highest bit makes the halves change places.
use Rattle.arithmetic.proofs.Words.{ranked}
use Rattle.arithmetic.proofs.kinds.Kind.rank.Goals as goal

pub returns : goal.returns
returns c = ranked c.args.self.room c.args.self.below c.requires
