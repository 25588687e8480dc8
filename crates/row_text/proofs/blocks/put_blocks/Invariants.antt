-- `row_text::blocks::put_blocks`: the blocks so far.
use mathlib.Core.Path.{◌≡◌}
use Prim.Native.Nat.{◌≤◌}
use Rattle.laws.specs.Lists.{below, gather}
use Rattle.page.specs.Page.{page, puts}
use Rattle.row_text.proofs.BlocksLaws.{lines_at}
use Rattle.row_text.proofs.blocks.put_blocks.Given as goal

abbrev pub invariant-loop-b : goal.invariant-loop-b
invariant-loop-b l = (l.b ≤ l.n) × (page l.out l.e ≡ puts (page l.initial.out l.at) (gather (lines_at l.t l.a) (below l.b)))
