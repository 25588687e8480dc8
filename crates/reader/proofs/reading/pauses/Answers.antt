-- `reader::reading::pauses`: nothing is left, and more may come.
use mathlib.Core.Path.{refl}
use native.Mathlib.Omega.{arith}
use borrow.Author.Tests.{lt-ltb, le-ltb}
use Rattle.reader.proofs.reading.pauses.Goals as goal

pub returns-then-next-n : goal.returns-then-next-n
returns-then-next-n c = rw (lt-ltb _ _ c.if-next-n.true) refl

pub returns : goal.returns
returns c = rw (le-ltb c.args.next c.args.n (omega arith)) refl
