-- `reader::reading::next`: a scan, or the end.
use mathlib.Core.Path.{refl}
use native.Mathlib.Omega.{arith}
use Rattle.reader.specs.Text.{Nexts}
use Rattle.reader.proofs.reading.next.Goals as goal

pub returns-then-l-text : goal.returns-then-l-text
returns-then-l-text c = Nexts.scanned c.if-l-text.true c.scan.ensures

pub returns : goal.returns
returns c = Nexts.finished (omega arith) c.finish.ensures refl
