-- `row_text::rows::put_rows`: the lines so far.
use mathlib.Core.Path.{◌≡◌}
use Prim.Native.Nat.{◌≤◌}
use Rattle.laws.specs.Lists.{from, gather}
use Rattle.language.specs.Table.{decode_row}
use Rattle.language.specs.Writing.{line_bytes, row_line}
use Rattle.page.specs.Page.{page, puts}
use Rattle.row_text.specs.Ready.{titled}
use Rattle.row_text.proofs.rows.put_rows.Given as goal

abbrev pub invariant-loop-i : goal.invariant-loop-i
invariant-loop-i l =
    (l.i ≤ l.count) × (page l.out l.e ≡ puts (page l.initial.out l.at) (gather (λ r. line_bytes (row_line (titled l.t l.a) (decode_row l.t l.a r))) (from l.first l.i)))
