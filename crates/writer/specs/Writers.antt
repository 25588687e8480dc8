-- A writer as the page that it refers to, and what is asked of a table whose text it takes. Assumes nothing.
use Rattle.std.specs.Prelude.{List, ◌≡◌, ℕ, length}
use denote.Ref.{at_last}
use Rattle.language.specs.Checking.{Verdict, check}
use Rattle.language.specs.Table.{table_length, decode}
use Rattle.page.specs.Page.{Page, page, closed}
use Rattle.writer.specs.declared.Writer.{Writer}

abbrev pub page_of : Writer → Page
page_of w = page w.out.now w.at

-- The same borrow, with this page.
abbrev pub writing : Writer → Page → Writer
writing w p = record { out = at_last w.out p.bytes; at = p.place }

-- A page that is done: zeros from its place on.
abbrev pub finished : Page → Page
finished p = page (closed p.bytes p.place) p.place

-- The table has the one length, and passes its check.
abbrev pub Checked : List ℕ → Type 0
Checked t = (length t ≡ table_length) × (check (decode t) ≡ Verdict.accepted)
