-- What the entry points promise of a call: the answer in document 01's numbers, and every cell of what was lent, are those of the definition.
-- Assumes nothing.
use Rattle.std.specs.Prelude.{◌≡◌, Bool, cond, List, ℕ, ⊤}
use Rattle.std.specs.declared.result.Result.{Result}
use Rattle.language.specs.Answers.{zeros, read_answer, check_answer, signature_answer, run_answer, run_each_answer, translate_answer, write_answer, verdict_numbers, ran_numbers, wrote_numbers}
use Rattle.answers.specs.declared.reasons.Refusal.{Refusal}
use Rattle.answers.specs.declared.Ran.{Ran}
use Rattle.answers.specs.declared.figures.Answer.{Answer}
use Rattle.answers.specs.Cases.{verdict_of}
use Rattle.answers.specs.Numbers.{numbers_of}
use Rattle.answers.specs.Lent.{filled_of, finished_of, listed_of, shown_of}

-- `read` with a text and a lent table of n cells answered r and left the table as `out`.
abbrev pub ReadCalled : (text : List ℕ) (n : ℕ) (r : Result ⊤ Refusal) (out : List ℕ) → Type 0
ReadCalled text n r out = filled_of r out ≡ read_answer text n

-- `check` with table t answered r.
abbrev pub CheckCalled : (t : List ℕ) (r : Result ⊤ Refusal) → Type 0
CheckCalled t r = verdict_of r ≡ check_answer t

-- `has_signature` with table t, function i, a result's type and the parameters' types answered r.
abbrev pub SignatureCalled : (t : List ℕ) (i result : ℕ) (types : List ℕ) (r : Bool) → Type 0
SignatureCalled t i result types r = r ≡ signature_answer t i result types

-- `run` with table t, function i, arguments, a budget and n lent registers answered x and left the registers as g.
abbrev pub RunCalled : (t : List ℕ) (i : ℕ) (args : List ℕ) (budget n : ℕ) (x : Result Ran Refusal) (g : List ℕ) → Type 0
RunCalled t i args budget n x g = finished_of x g ≡ run_answer t i args budget n

-- `run_each` with table t, function i, arguments, a budget, n lent registers and m lent numbers answered r and left the numbers as `out` and the
-- registers as g.
abbrev pub RunEachCalled : (t : List ℕ) (i : ℕ) (args : List ℕ) (budget n m : ℕ) (r : Result ⊤ Refusal) (out g : List ℕ) → Type 0
RunEachCalled t i args budget n m r out g = (listed_of r out ≡ run_each_answer t i args budget n m) × (g ≡ zeros n)

-- `translate` with table t, function i and a lent table of n cells answered r and left that table as `out`.
abbrev pub TranslateCalled : (t : List ℕ) (i n : ℕ) (r : Result ⊤ Refusal) (out : List ℕ) → Type 0
TranslateCalled t i n r out = filled_of r out ≡ translate_answer t i n

-- `write` with table t and a lent buffer of n bytes answered r and left the buffer as b.
abbrev pub WriteCalled : (t : List ℕ) (n : ℕ) (r : Result ℕ Refusal) (b : List ℕ) → Type 0
WriteCalled t n r b = shown_of r b ≡ write_answer t n

-- The symbols that C and Rust link, by the four numbers of their answers: the same of `ial_read`, `ial_check`, `ial_run`, `ial_run_each`,
-- `ial_translate` and `ial_write`. `ial_has_signature` answers 1 or 0.
abbrev pub ReadLinked : (text : List ℕ) (n : ℕ) (r : Answer) (out : List ℕ) → Type 0
ReadLinked text n r out = (numbers_of r ≡ verdict_numbers (read_answer text n).answer) × (out ≡ (read_answer text n).table)

abbrev pub CheckLinked : (t : List ℕ) (r : Answer) → Type 0
CheckLinked t r = numbers_of r ≡ verdict_numbers (check_answer t)

abbrev pub SignatureLinked : (t : List ℕ) (i result : ℕ) (types : List ℕ) (r : ℕ) → Type 0
SignatureLinked t i result types r = r ≡ cond (signature_answer t i result types) 1 0

abbrev pub RunLinked : (t : List ℕ) (i : ℕ) (args : List ℕ) (budget n : ℕ) (x : Answer) (g : List ℕ) → Type 0
RunLinked t i args budget n x g =
    (numbers_of x ≡ ran_numbers (run_answer t i args budget n).answer) × (g ≡ (run_answer t i args budget n).registers)

abbrev pub RunEachLinked : (t : List ℕ) (i : ℕ) (args : List ℕ) (budget n m : ℕ) (x : Answer) (out g : List ℕ) → Type 0
RunEachLinked t i args budget n m x out g =
    (numbers_of x ≡ verdict_numbers (run_each_answer t i args budget n m).answer) × (out ≡ (run_each_answer t i args budget n m).numbers) × (g ≡ zeros n)

abbrev pub TranslateLinked : (t : List ℕ) (i n : ℕ) (r : Answer) (out : List ℕ) → Type 0
TranslateLinked t i n r out = (numbers_of r ≡ verdict_numbers (translate_answer t i n).answer) × (out ≡ (translate_answer t i n).table)

abbrev pub WriteLinked : (t : List ℕ) (n : ℕ) (r : Answer) (b : List ℕ) → Type 0
WriteLinked t n r b = (numbers_of r ≡ wrote_numbers (write_answer t n).answer) × (b ≡ (write_answer t n).buffer)
