-- `table_text::put_table`: the text of the functions so far is put down.
use mathlib.Core.Path.{◌≡◌}
use Prim.Native.Nat.{◌≤◌}
use Rattle.laws.specs.Lists.{gather, below}
use Rattle.page.specs.Page.{page, puts}
use Rattle.table_text.proofs.Parts.{function_text}
use Rattle.table_text.proofs.put_table.Given as goal

abbrev pub invariant-loop-i : goal.invariant-loop-i
invariant-loop-i l = (l.i ≤ l.n) × (page l.out l.p ≡ puts (page l.initial.out l.at) (gather (function_text l.t) (below l.i)))
