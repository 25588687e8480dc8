-- A text read into a table, and one read for an output of another length than a table's. Assumes nothing.
use Rattle.std.specs.Prelude.{◌≡◌, List, ℕ, ⊤, Ok, Err}
use Rattle.std.specs.declared.result.Result.{Result}
use Rattle.language.specs.Programs.{Program}
use Rattle.language.specs.Table.{table_length, cells}
use Rattle.language.specs.Reading.{Reading}
use Rattle.language.specs.Answers.{filled_from, zeros}
use Rattle.answers.specs.declared.reasons.Refusal.{Refusal}
use Rattle.answers.specs.Reasons.{reason_number}
use Rattle.answers.specs.Lent.{filled_of}

-- A text read into a table: its answer, or the table of its program. A refusal leaves cells to be zeroed.
pub data Into (t : List ℕ) : Reading → Result ⊤ Refusal → Type 0 where
  refused : (e : Refusal) → Into t (Reading.refused (reason_number e.reason) e.place) (Err e)
  program : (p : Program) → t ≡ cells p → Into t (Reading.program p) (Ok tt)

-- The answer for an output of n cells, which is another length than a table's: "reading gives 22 last".
abbrev pub Aside : Reading → Result ⊤ Refusal → Type 0
Aside x r = (n : ℕ) → (n ≡ table_length → ⊥) → filled_of r (zeros n) ≡ filled_from n x
