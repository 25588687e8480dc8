-- What writing answers, case by case. Assumes nothing.
use mathlib.Core.Path.{◌≡◌, refl, sym, ap, ◌∙◌}
use mathlib.Core.List.{List, ◌++◌}
use Prim.Native.Nat.{ℕ, ◌+◌, ◌≤◌, ◌<◌, ◌-◌, min}
use native.Mathlib.Nat.{zero-add}
use native.Mathlib.Omega.{arith}
use lib.ListN.{length}
use borrow.Author.Tests.{lt-ltb, le-ltb}
use Rattle.language.specs.Programs.{max_text}
use Rattle.language.specs.Table.{decode}
use Rattle.language.specs.Checking.{Verdict}
use Rattle.language.specs.MadeNames.{written}
use Rattle.language.specs.Answers.{zeros, Shown, refused_text, show, write_answer, check_answer}
use Rattle.page.specs.Page.{Page, page, puts, closed}
use Rattle.page.proofs.Pages.{puts_place, whole_text}
use Rattle.writer.specs.Writers.{finished}
use Rattle.std.specs.Prelude.{⊤, Ok, Err}
use Rattle.std.specs.declared.result.Result.{Result}
use Rattle.answers.specs.declared.reasons.Refusal.{Refusal}
use Rattle.answers.specs.declared.reasons.Reason.TheVariants as reasons
use Rattle.answers.specs.Cases.{verdict_of}
use Rattle.answers.specs.Lent.{shown_of}

module _ (t : List ℕ) (n : ℕ) where
  pub write_refused : {v : Result ⊤ Refusal} {e : Refusal} {z : List ℕ} → verdict_of v ≡ check_answer t → v ≡ Err e → z ≡ zeros n
      → shown_of (Err e) z ≡ write_answer t n
  unfolding write_answer refused_text
  write_refused e r s = rw (s, sym e, r) refl

  pub write_on : {x : Shown} → check_answer t ≡ Verdict.accepted → x ≡ show n (written (decode t)) → x ≡ write_answer t n
  unfolding write_answer
  write_on e h = rw e h

-- A text that was put down on the page of a buffer l, and left it as z with r as its place.
module _ (l text : List ℕ) {z : List ℕ} {r : ℕ} (e : page z r ≡ finished (puts (page l 0) text)) where
  place : r ≡ min (length text) 65537
  place =
      let p : (puts (page l 0) text).place ≡ min (0 + length text) 65537 = puts_place (page l 0) text (omega arith) in
      ap (λ (q : Page). q.place) e ∙ p ∙ ap (λ (k : ℕ). min k 65537) (zero-add (length text))

  pub show_long : {y : List ℕ} → 65536 < r → y ≡ zeros (length l) → shown_of (Err (record { reason = reasons.WrittenTooLong; place = 0 })) y ≡ show (length l) text
  unfolding show refused_text
  show_long h s = let m : max_text < length text = omega (arith, place) in rw (s, lt-ltb max_text (length text) m) refl

  pub show_larger : {y : List ℕ} → r ≤ 65536 → length l < r → y ≡ zeros (length l) → shown_of (Err (record { reason = reasons.BufferTooShort; place = 0 })) y ≡ show (length l) text
  unfolding show refused_text
  show_larger h m s =
      let a : length text ≤ max_text = omega (arith, place) in
      let b : length l < length text = omega (arith, place) in
      rw (s, le-ltb max_text (length text) a, lt-ltb (length l) (length text) b) refl

  pub show_whole : r ≤ 65536 → r ≤ length l → shown_of (Ok r) z ≡ show (length l) text
  unfolding show zeros
  show_whole h m =
      let same : r ≡ length text = omega (arith, place) in
      let a : length text ≤ max_text = omega (arith, same) in
      let b : length text ≤ length l = omega (arith, same) in
      let left : z ≡ text ++ zeros (length l - length text) =
      ap (λ (q : Page). q.bytes) e ∙ ap (closed (puts (page l 0) text).bytes) (sym (ap (λ (q : Page). q.place) e) ∙ same) ∙ whole_text l text a b in
      rw (same, left, le-ltb max_text (length text) a, le-ltb (length l) (length text) b) refl
