-- A text that is read and checked, and what is printed of it: the refusal's line, or what is printed of its program. Assumes nothing.
use mathlib.Core.Path.{◌≡◌, refl, sym, ap, ◌∙◌}
use mathlib.Core.List.{List, [], ◌∷◌}
use Prim.Native.Nat.{ℕ, zero, suc, ◌+◌, ◌*◌, ◌≤◌, ◌<◌}
use native.Mathlib.Omega.{arith}
use lib.ListN.{length, get_or}
use borrow.Author.Tests.{eq-eqb}
use Rattle.laws.specs.Sections.{Bytes}
use Rattle.language.specs.Programs.{Program, max_text}
use Rattle.language.specs.Table.{table_length, cells, decode}
use Rattle.language.specs.Reading.{Reading, read}
use Rattle.language.specs.Checking.{Verdict, check}
use Rattle.language.specs.Listing.{listing_of, refused_line, judged, listed, listing}
use Rattle.language.specs.Answers.{Filled, if_accepted, refused_table, fill, filled_from, read_answer, check_answer}
use Rattle.theorems.specs.TableLaw.{Held}
use Rattle.theorems.proofs.AcceptanceCheck.{accepted_program}
use Rattle.theorems.proofs.ReadFits.{read_fits}
use Rattle.theorems.proofs.Table.{table}
use Rattle.std.specs.Prelude.{⊤, Ok, Err}
use Rattle.std.specs.declared.result.Result.{Result}
use Rattle.answers.specs.declared.reasons.Refusal.{Refusal}
use Rattle.answers.specs.Reasons.{reason_number}
use Rattle.answers.specs.Cases.{verdict_of}
use Rattle.answers.specs.Lent.{filled_of}
use Rattle.listing.specs.Lines.{listing_most}
use Rattle.answer_lines.specs.Lines.{ran_most}
use Rattle.calling.specs.Accepting.{acceptance, Accepts}
use Rattle.calling.specs.Calls.{read_line}

-- A refusal's line fits where a text does, a listing, or the line of a run.
pub refusal_fits : {n : ℕ} → n ≡ max_text → 7 + 2 * 21 + 1 ≤ n
refusal_fits e = omega arith

pub refusal_listed : {n : ℕ} → listing_most ≤ n → 7 + 2 * 21 + 1 ≤ n
refusal_listed h = omega arith

pub refusal_ran : {n : ℕ} → ran_most ≤ n → 7 + 2 * 21 + 1 ≤ n
refusal_ran h = omega arith

-- The check of a table of the right length is its program's.
pub table_check : (t : List ℕ) → length t ≡ table_length → check_answer t ≡ check (decode t)
unfolding check_answer
table_check t e = rw (eq-eqb (length t) table_length e) refl

-- A table whose check accepts it.
pub accepted_table : (t : List ℕ) {v : Result ⊤ Refusal} → verdict_of v ≡ check_answer t → v ≡ Ok tt → check_answer t ≡ Verdict.accepted
accepted_table t e r = sym e ∙ ap verdict_of r

-- A list of which every element is a byte.
pub bytes_from : (xs : List ℕ) → ((i : ℕ) → get_or xs i 0 < 256) → Bytes xs
bytes_from [] h = tt
bytes_from (x ∷ xs) h = (h zero, bytes_from xs (λ i. h (suc i)))

-- ---- a text that is read

filled_table : (p : Program) → fill table_length p ≡ record { answer = Verdict.accepted; table = cells p }
unfolding fill
filled_table p = refl

not_accepted : {n p : ℕ} {A : Type 0} → Verdict.refused n p ≡ Verdict.accepted → A
not_accepted e = absurd (let z : ◌≡◌ {A = ℕ} 0 1 = cc in omega arith)

refused_reading : (t : List ℕ) (x : Reading) (f : Refusal) → filled_of (Err f) t ≡ filled_from table_length x → verdict_of (Err f) ≡ acceptance x
unfolding refused_table
refused_reading t (Reading.refused k q) g e = ap (λ (f : Filled). f.answer) e
refused_reading t (Reading.program q) g e = not_accepted (ap (λ (f : Filled). f.answer) (e ∙ filled_table q))

-- A text's program, and the table of its cells.
data ReadInto (t : List ℕ) : Reading → Type 0 where
  program : (p : Program) → t ≡ cells p → ReadInto t (Reading.program p)

read_reading : (t : List ℕ) (x : Reading) → filled_of (Ok tt) t ≡ filled_from table_length x → ReadInto t x
unfolding refused_table
read_reading t (Reading.refused k q) e = not_accepted (sym (ap (λ (f : Filled). f.answer) e))
read_reading t (Reading.program q) e = ReadInto.program q (ap (λ (f : Filled). f.table) (e ∙ filled_table q))

record ReadAs (text t : List ℕ) : Type 0 where
  pub program : read text ≡ Reading.program (decode t)
  pub count : length t ≡ table_length

module _ (text t : List ℕ) {n : ℕ} (count : n ≡ table_length) (v : Result ⊤ Refusal) (e : filled_of v t ≡ read_answer text n) where
  here : filled_of v t ≡ filled_from table_length (read text)
  unfolding read_answer
  here = rw count at e

  pub accepts_unread : {f : Refusal} → v ≡ Err f → Accepts text (Err f) t
  accepts_unread {f} r =
      record {
        answer = refused_reading t (read text) f (ap (λ w. filled_of w t) (sym r) ∙ here);
        program = λ h. not_accepted (ap verdict_of h);
        passes = λ h. not_accepted (ap verdict_of h);
      }

  module _ (b : Bytes text) (r : v ≡ Ok tt) where
    read_as : ReadAs text t
    read_as = by (read text) refl (read_reading t (read text) (ap (λ w. filled_of w t) (sym r) ∙ here))
      where
        by : (x : Reading) → read text ≡ x → ReadInto t x → ReadAs text t
        by (Reading.program p) s (ReadInto.program _ h) =
            let held : Held p = table p (read_fits text b p s) in
            record { program = s ∙ ap Reading.program (sym (ap decode h ∙ held.back)); count = ap length h ∙ held.count }
        by (Reading.refused number place) s x3 = elim x3 [ ]

    pub accepts_read : {w : Result ⊤ Refusal} → verdict_of w ≡ check_answer t → Accepts text w t
    accepts_read c =
        record {
          answer = c ∙ table_check t read_as.count ∙ sym (ap acceptance read_as.program);
          program = λ h. read_as.program;
          passes = accepted_table t c;
        }

-- ---- what is printed of it, for any line that is printed of an accepted program

refused_line_law : (line : Program → List ℕ) (x : Reading) {n p : ℕ} → acceptance x ≡ Verdict.refused n p → read_line line x ≡ refused_line n p
refused_line_law line (Reading.refused k q) e = ap (λ v. if_accepted v refused_line []) e
refused_line_law line (Reading.program q) e = rw e refl

module _ (line : Program → List ℕ) {text t : List ℕ} {v : Result ⊤ Refusal} (a : Accepts text v t) where
  pub printed_refused : {f : Refusal} → v ≡ Err f → read_line line (read text) ≡ refused_line (reason_number f.reason) f.place
  printed_refused r = refused_line_law line (read text) (sym a.answer ∙ ap verdict_of r)

  pub printed_accepted : v ≡ Ok tt → read_line line (read text) ≡ line (decode t)
  printed_accepted r = ap (read_line line) (a.program r) ∙ rw (accepted_program t (a.passes r)) refl

-- The listing is such a line.
judged_line : (p : Program) (v : Verdict) → judged p v ≡ if_accepted v refused_line (listing_of p)
judged_line p Verdict.accepted = refl
judged_line p (Verdict.refused n q) = refl

listed_line : (x : Reading) → listed x ≡ read_line listing_of x
listed_line (Reading.refused n p) = refl
listed_line (Reading.program p) = judged_line p (check p)

pub listing_line : (text : List ℕ) → listing text ≡ read_line listing_of (read text)
unfolding listing
listing_line text = listed_line (read text)
