-- `page::put_byte` meets its contract: a store past the end changes nothing.
use lib.Seq.{set_out}
use Rattle.page.proofs.put_byte.Goals as goal

pub returns : goal.returns
returns c = rw (c.after-2.ensures, set_out _ _ _ c.if-at-out.false)
