-- A text that is read and checked. Assumes nothing.
use Rattle.std.specs.Prelude.{List, ◌≡◌, ℕ, ⊤, Ok}
use Rattle.std.specs.declared.result.Result.{Result}
use Rattle.language.specs.Reading.{Reading, read}
use Rattle.language.specs.Checking.{Verdict as Verdictᴸ, check}
use Rattle.language.specs.Table.{decode}
use Rattle.language.specs.Answers.{check_answer}
use Rattle.answers.specs.declared.reasons.Refusal.{Refusal}
use Rattle.answers.specs.Cases.{verdict_of}

-- First it is read (1 to 8), then checked whole (9 to 17).
abbrev pub acceptance : Reading → Verdictᴸ
acceptance (Reading.refused n p) = Verdictᴸ.refused n p
acceptance (Reading.program p) = check p

-- `accept` with a text answered r and left the table as t: it holds the text's program where that is accepted.
pub record Accepts (text : List ℕ) (r : Result ⊤ Refusal) (t : List ℕ) : Type 0 where
  pub answer : verdict_of r ≡ acceptance (read text)
  pub program : r ≡ Ok tt → read text ≡ Reading.program (decode t)
  pub passes : r ≡ Ok tt → check_answer t ≡ Verdictᴸ.accepted
