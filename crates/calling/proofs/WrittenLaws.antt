-- What is printed of a text that was written, from what writing answers. Assumes nothing.
use mathlib.Core.Path.{◌≡◌, refl, sym, ap, ◌∙◌}
use mathlib.Core.List.{List, ◌++◌}
use Prim.Native.Nat.{ℕ, ◌≤◌}
use native.Mathlib.Nat.{zero-add}
use native.Mathlib.Omega.{arith}
use lib.ListN.{length, drop}
use lib.Seq.{sets-eq, take-append_seam}
use Rattle.language.specs.Programs.{max_text}
use Rattle.language.specs.Table.{decode}
use Rattle.language.specs.Checking.{Verdict}
use Rattle.language.specs.Listing.{refused_line}
use Rattle.language.specs.MadeNames.{written}
use Rattle.language.specs.Answers.{Shown, show, write_answer, check_answer}
use Rattle.decimal.specs.Writing.{Written}
use Rattle.std.specs.Prelude.{Ok, Err}
use Rattle.std.specs.declared.result.Result.{Result}
use Rattle.answers.specs.declared.reasons.Refusal.{Refusal}
use Rattle.answers.specs.Reasons.{reason_number}
use Rattle.answers.specs.Cases.{wrote_of}
use Rattle.answers.specs.Lent.{shown_of}
use Rattle.calling.specs.Calls.{shown_line, text_line, Prints}

-- A line at the beginning of a buffer that has room for it.
pub prints_line : {entry xs exit : List ℕ} {r : ℕ} → Written entry 0 xs exit r → r ≤ length entry → Prints exit r xs
prints_line {entry} {xs} {exit} {r} w h =
    let count : r ≡ length xs = w.next ∙ zero-add (length xs) in
    let whole : exit ≡ xs ++ drop (length xs) entry = w.bytes ∙ sets-eq xs entry 0 (omega (arith, count)) ∙ rw zero-add refl in
    rw (count, whole) (take-append_seam xs (drop (length xs) entry))

module _ (t : List ℕ) (e : check_answer t ≡ Verdict.accepted) {n : ℕ} (room : n ≡ max_text) (v : Result ℕ Refusal) {b : List ℕ} (h : shown_of v b ≡ write_answer t n) where
  line_is : text_line (decode t) ≡ shown_line (wrote_of v) b
  unfolding text_line write_answer
  line_is =
      let shows : shown_of v b ≡ show max_text (written (decode t)) = h ∙ rw (room, e) refl in
      ap (λ (s : Shown). shown_line s.answer s.buffer) (sym shows)

  pub text_refused : {f : Refusal} → v ≡ Err f → text_line (decode t) ≡ refused_line (reason_number f.reason) f.place
  text_refused r = line_is ∙ ap (λ (w : Result ℕ Refusal). shown_line (wrote_of w) b) r

  pub text_wrote : {k : ℕ} → v ≡ Ok k → Prints b k (text_line (decode t))
  text_wrote r = sym (line_is ∙ ap (λ (w : Result ℕ Refusal). shown_line (wrote_of w) b) r)
