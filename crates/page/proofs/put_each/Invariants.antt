-- `page::put_each` meets its contract: the bytes so far are written.
use mathlib.Core.Path.{◌≡◌}
use lib.ListN.{length, take}
use Rattle.page.specs.Page.{page, puts}
use Rattle.page.proofs.put_each.Given as goal

abbrev pub invariant-loop-b : goal.invariant-loop-b
invariant-loop-b l = (length l.out ≡ length l.initial.out) × (page l.out l.p ≡ puts (page l.initial.out l.at) (take l.b-index l.s))
