-- `reader::reading::begin`: nothing is open and nothing read.
use Rattle.reader.proofs.reading.begin.Goals as goal

pub returns : goal.returns
returns c = rw (c.new.ensures, c.new-2.ensures)
