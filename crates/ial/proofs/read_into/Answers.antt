-- `read_into`: what the reader says, with the byte of its place.
use Rattle.ial.proofs.ReadLaws.{into_read, into_refused}
use Rattle.ial.proofs.read_into.Goals as goal

pub returns-in-Ok : goal.returns-in-Ok
returns-in-Ok c = into_read c.read_text.ensures c.in-Ok.is

pub returns-in-Err : goal.returns-in-Err
returns-in-Err c = rw c.refuse.ensures (into_refused c.read_text.ensures c.in-Err.is)
