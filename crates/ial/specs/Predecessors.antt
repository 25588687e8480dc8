-- "Reading, checking and translating must leave it equal to 01's definition at every return that hands out a table", for the entry points
-- themselves: a call is known here by what its contract says of it, and by nothing else.
-- Assumes nothing.
use Rattle.std.specs.Prelude.{◌≡◌, List, ℕ, ⊤, Ok}
use Rattle.std.specs.declared.result.Result.{Result}
use Rattle.laws.specs.Sections.{Bytes}
use Rattle.theorems.specs.Predecessors.{ListsRight}
use Rattle.answers.specs.declared.reasons.Refusal.{Refusal}
use Rattle.answers.specs.declared.figures.Answer.{Answer}
use Rattle.ial.specs.Calls.{ReadCalled, CheckCalled, TranslateCalled, ReadLinked, CheckLinked, TranslateLinked}

-- Whatever was lent to `read` or `translate` has right lists after the call, and so has a table that `check` accepts.
pub record ListsOfCalls : Type 0 where
  pub read : (text : List ℕ) (n : ℕ) (r : Result ⊤ Refusal) (out : List ℕ) → Bytes text → ReadCalled text n r out → ListsRight out
  pub check : (t : List ℕ) → CheckCalled t (Ok tt) → ListsRight t
  pub translate : (t : List ℕ) (i n : ℕ) (r : Result ⊤ Refusal) (out : List ℕ) → TranslateCalled t i n r out → ListsRight out

-- The same of `ial_read`, `ial_check` and `ial_translate`.
pub record ListsOfSymbols : Type 0 where
  pub read : (text : List ℕ) (n : ℕ) (r : Answer) (out : List ℕ) → Bytes text → ReadLinked text n r out → ListsRight out
  pub check : (t : List ℕ) (r : Answer) → CheckLinked t r → r.number ≡ 0 → ListsRight t
  pub translate : (t : List ℕ) (i n : ℕ) (r : Answer) (out : List ℕ) → TranslateLinked t i n r out → ListsRight out
