-- `Reader::new`: between functions, with none closed.
use Rattle.reader.proofs.taking.Reader.new.Goals as goal

pub returns : goal.returns
returns c = rw c.fresh.ensures
