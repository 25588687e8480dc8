-- The line of a translation, from what translating answers. Assumes nothing.
use mathlib.Core.Path.{◌≡◌, refl, sym, ap, ◌∙◌}
use mathlib.Core.Bool.{Bool, true, false, cond}
use mathlib.Core.List.{List, [], ◌∷◌}
use Prim.Native.Nat.{ℕ}
use native.Mathlib.Omega.{arith}
use lib.Dec.{T, ltb, ltb→lt}
use lib.ListN.{length, get_or}
use Rattle.language.specs.Programs.{Func, Program, no_function, is_ssa}
use Rattle.language.specs.Table.{table_length, cells, decode}
use Rattle.language.specs.Checking.{Verdict, check}
use Rattle.language.specs.Translating.{translation, translation_fits}
use Rattle.language.specs.Listing.{refused_line}
use Rattle.language.specs.Answers.{Filled, if_accepted, fill, refused_table, check_answer, translate_function, translate_answer}
use Rattle.theorems.specs.TableLaw.{Held}
use Rattle.theorems.proofs.Acceptance.{accepted_translation}
use Rattle.theorems.proofs.TableSound.{accepted_held}
use Rattle.theorems.proofs.AcceptanceCheck.{accepted_program}
use Rattle.std.specs.Prelude.{⊤, Ok, Err}
use Rattle.std.specs.declared.result.Result.{Result}
use Rattle.answers.specs.declared.reasons.Refusal.{Refusal}
use Rattle.answers.specs.Reasons.{reason_number}
use Rattle.answers.specs.Lent.{filled_of}
use Rattle.calling.proofs.AcceptingLaws.{table_check}
use Rattle.calling.specs.Calls.{text_line, translated_line}

-- The tests of a translation, in their order, for any answer to each.
abbrev tests : {A : Type 0} (there marked fits : Bool) → A → (ℕ → A) → A
tests a b c x refuse = cond a (cond b (cond c x (refuse 31)) (refuse 30)) (refuse 21)

-- What is printed of an answer that holds the program q where it is not refused.
abbrev shown : Program → Filled → List ℕ
shown q x = if_accepted x.answer refused_line (text_line q)

shown_tests :
    (a b c : Bool) (q : Program)
    → tests a b c (text_line q) (λ k. refused_line k 0) ≡ shown q (tests a b c (fill table_length q) (λ k. refused_table table_length k 0))
unfolding fill refused_table
shown_tests false b c q = refl
shown_tests true false c q = refl
shown_tests true true false q = refl
shown_tests true true true q = refl

pub record Passed (a b c : Bool) (q : Program) (x : List ℕ) : Type 0 where
  pub there : T a
  pub marked : T b
  pub fits : T c
  pub written : x ≡ cells q

refused_not : {x z : List ℕ} {k : ℕ} {A : Type 0} → filled_of (Ok tt) x ≡ record { answer = Verdict.refused k 0; table = z } → A
refused_not e =
    let s = ap (λ (f : Filled). f.answer) e in
    absurd (let z : ◌≡◌ {A = ℕ} 0 1 = cc in omega arith)

passed_tests :
    (a b c : Bool) (q : Program) (x : List ℕ)
    → filled_of (Ok tt) x ≡ tests a b c (fill table_length q) (λ k. refused_table table_length k 0)
    → Passed a b c q x
unfolding fill refused_table
passed_tests false b c q x e = refused_not e
passed_tests true false c q x e = refused_not e
passed_tests true true false q x e = refused_not e
passed_tests true true true q x e = record { there = tt; marked = tt; fits = tt; written = ap (λ (f : Filled). f.table) e }

module _ (t : List ℕ) (i : ℕ) (e : check_answer t ≡ Verdict.accepted) where
  abbrev f : Func
  f = get_or (decode t) i no_function

  abbrev alone : Program
  alone = translation (get_or (decode t) i no_function) ∷ []

  answer_is :
      translate_answer t i table_length ≡ tests (ltb i (length (decode t))) (is_ssa f) (translation_fits f) (fill table_length alone) (λ k. refused_table table_length k 0)
  unfolding translate_answer translate_function
  answer_is = rw e refl

  line_is : translated_line (decode t) i ≡ shown alone (translate_answer t i table_length)
  unfolding translated_line
  line_is = shown_tests (ltb i (length (decode t))) (is_ssa f) (translation_fits f) alone ∙ ap (shown alone) (sym answer_is)

  module _ (x : List ℕ) (v : Result ⊤ Refusal) {n : ℕ} (count : n ≡ table_length) (h : filled_of v x ≡ translate_answer t i n) where
    here : filled_of v x ≡ translate_answer t i table_length
    here = rw count at h

    pub line_refused : {f : Refusal} → v ≡ Err f → translated_line (decode t) i ≡ refused_line (reason_number f.reason) f.place
    line_refused r = line_is ∙ ap (shown alone) (sym here) ∙ rw r refl

    module _ (r : v ≡ Ok tt) where
      passed : Passed (ltb i (length (decode t))) (is_ssa f) (translation_fits f) alone x
      passed = passed_tests _ _ _ alone x (ap (λ w. filled_of w x) (sym r) ∙ here ∙ answer_is)

      accepted : check alone ≡ Verdict.accepted
      accepted = accepted_translation (decode t) i (accepted_program t e) (ltb→lt i (length (decode t)) passed.there) passed.marked passed.fits

      held : Held alone
      held = accepted_held alone accepted

      back : decode x ≡ translation (get_or (decode t) i no_function) ∷ []
      back = ap decode passed.written ∙ held.back

      pub translated_accepted : check_answer x ≡ Verdict.accepted
      translated_accepted = table_check x (ap length passed.written ∙ held.count) ∙ rw back accepted

      pub line_translated : translated_line (decode t) i ≡ text_line (decode x)
      line_translated = line_is ∙ ap (shown alone) (sym here) ∙ rw (r, back) refl
