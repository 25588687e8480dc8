-- The round trip for the entry points themselves (document 02, A1): `write`, then `read`. A call is known here by what its contract says of it, and by
-- nothing else. Its words are those of `theorems`' RoundTrip.
-- Assumes nothing.
use Rattle.std.specs.Prelude.{◌≡◌, List, ℕ, ◌-◌, length, take, drop, ⊤, Ok}
use Rattle.std.specs.declared.result.Result.{Result}
use Rattle.language.specs.Table.{table_length, decode}
use Rattle.language.specs.MadeNames.{named, written}
use Rattle.language.specs.Answers.{zeros, fill, verdict_numbers}
use Rattle.theorems.specs.RoundTrip.{filled_table, TranslatedAsText}
use Rattle.answers.specs.declared.reasons.Refusal.{Refusal}
use Rattle.answers.specs.declared.Ran.{Ran}
use Rattle.answers.specs.declared.figures.Answer.{Answer}
use Rattle.answers.specs.Numbers.{numbers_of}
use Rattle.answers.specs.Lent.{filled_of}
use Rattle.ial.specs.Demand.{no_refusal}
use Rattle.ial.specs.Calls.{ReadCalled, CheckCalled, RunCalled, TranslateCalled, WriteCalled}
use Rattle.ial.specs.Calls.{ReadLinked, CheckLinked, RunLinked, TranslateLinked, WriteLinked}

-- What holds where `write` answered k for table t and left a buffer of n bytes as b: of it, and of every call of `read` on the text and of `check`,
-- `run` and `write` on the table that was read back.
pub record RoundTripCalled (t : List ℕ) (n k : ℕ) (b : List ℕ) : Type 0 where
  pub count : k ≡ length (written (decode t))
  pub text : take k b ≡ written (decode t)
  pub rest : drop k b ≡ zeros (n - k)
  pub reads : (m : ℕ) (r : Result ⊤ Refusal) (out : List ℕ) → ReadCalled (take k b) m r out → filled_of r out ≡ fill m (named (decode t))
  pub gives : (r : Result ⊤ Refusal) (out : List ℕ) → ReadCalled (take k b) table_length r out → (r ≡ Ok tt) × (out ≡ filled_table t)
  pub passes : (v : Result ⊤ Refusal) → CheckCalled (filled_table t) v → v ≡ Ok tt
  pub runs :
      (i : ℕ) (args : List ℕ) (budget c : ℕ) (x : Result Ran Refusal) (g : List ℕ)
      → RunCalled (filled_table t) i args budget c x g
      → RunCalled t i args budget c x g
  pub again : (m : ℕ) (r : Result ℕ Refusal) (b' : List ℕ) → WriteCalled (filled_table t) m r b' → WriteCalled t m r b'

abbrev pub RoundTripOfCalls : Type 0
RoundTripOfCalls = (t : List ℕ) (n k : ℕ) (b : List ℕ) → WriteCalled t n (Ok k) b → RoundTripCalled t n k b

-- Demand 3 of the text that the client sees: `translate`, `write` and `read` one after the other, none of the first two refusing.
abbrev pub Demand3AsTextOfCalls : Type 0
Demand3AsTextOfCalls =
    (t : List ℕ) (i m n k : ℕ) (u b : List ℕ) (r : Result ⊤ Refusal) (v : List ℕ)
    → TranslateCalled t i m (Ok tt) u
    → WriteCalled u n (Ok k) b
    → ReadCalled (take k b) table_length r v
    → (r ≡ Ok tt) × TranslatedAsText t i u v

-- The same of `ial_write`, `ial_read` and the others, by their four numbers: 0 says that nothing was refused, and the text's length is the value.
pub record RoundTripLinked (t : List ℕ) (n k : ℕ) (b : List ℕ) : Type 0 where
  pub count : k ≡ length (written (decode t))
  pub text : take k b ≡ written (decode t)
  pub rest : drop k b ≡ zeros (n - k)
  pub reads :
      (m : ℕ) (r : Answer) (out : List ℕ)
      → ReadLinked (take k b) m r out
      → (let f = fill m (named (decode t)) in (numbers_of r ≡ verdict_numbers f.answer) × (out ≡ f.table))
  pub gives : (r : Answer) (out : List ℕ) → ReadLinked (take k b) table_length r out → (numbers_of r ≡ no_refusal) × (out ≡ filled_table t)
  pub passes : (v : Answer) → CheckLinked (filled_table t) v → numbers_of v ≡ no_refusal
  pub runs :
      (i : ℕ) (args : List ℕ) (budget c : ℕ) (x : Answer) (g : List ℕ)
      → RunLinked (filled_table t) i args budget c x g
      → RunLinked t i args budget c x g
  pub again : (m : ℕ) (r : Answer) (b' : List ℕ) → WriteLinked (filled_table t) m r b' → WriteLinked t m r b'

abbrev pub RoundTripOfSymbols : Type 0
RoundTripOfSymbols =
    (t : List ℕ) (n : ℕ) (r : Answer) (b : List ℕ) → WriteLinked t n r b → r.number ≡ 0 → RoundTripLinked t n r.value b

abbrev pub Demand3AsTextOfSymbols : Type 0
Demand3AsTextOfSymbols =
    (t : List ℕ) (i m n : ℕ) (x y z : Answer) (u b v : List ℕ)
    → TranslateLinked t i m x u
    → x.number ≡ 0
    → WriteLinked u n y b
    → y.number ≡ 0
    → ReadLinked (take y.value b) table_length z v
    → (numbers_of z ≡ no_refusal) × TranslatedAsText t i u v
