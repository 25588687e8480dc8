-- What reading a text answers, from what the reader answers. Assumes nothing.
use mathlib.Core.Path.{◌≡◌, refl, sym, ap, ◌∙◌}
use mathlib.Core.List.{List}
use Prim.Native.Nat.{ℕ, ◌<◌}
use native.Mathlib.Omega.{arith}
use lib.ListN.{length}
use borrow.Author.Tests.{lt-ltb, eq-eqb, ne_eqb}
use Rattle.language.specs.Programs.{max_text}
use Rattle.language.specs.Table.{table_length}
use Rattle.language.specs.Reading.{Reading, read}
use Rattle.language.specs.Answers.{zeros, refused_table, fill, filled_from, read_answer}
use Rattle.std.specs.Prelude.{⊤, Ok, Err}
use Rattle.std.specs.declared.result.Result.{Result}
use Rattle.answers.specs.declared.reasons.Refusal.{Refusal}
use Rattle.answers.specs.declared.reasons.Reason.TheVariants as reasons
use Rattle.answers.specs.Reasons.{reason_number}
use Rattle.answers.specs.Lent.{filled_of}
use Rattle.reader.specs.Text.{ToldOf, JudgedAs}
use Rattle.drafts.specs.declared.state.Fault.{Fault}
use Rattle.ial.specs.Verdicts.{Into, Aside}

-- ---- what the reader answers

-- a fault as a refusal at its byte
abbrev refusal_of : Fault → Refusal
refusal_of e = record { reason = e.reason; place = e.at.byte }

pub into_read : {t : List ℕ} {x : Reading} {r : Result ⊤ Fault} → ToldOf t x r → r ≡ Ok tt → Into t x (Ok tt)
into_read (ToldOf.refused f) e = absurd (let z : ◌≡◌ {A = ℕ} 0 1 = cc in omega arith)
into_read (ToldOf.program p h) e = Into.program p h

pub into_refused : {t : List ℕ} {x : Reading} {r : Result ⊤ Fault} {f : Fault} → ToldOf t x r → r ≡ Err f → Into t x (Err (record { reason = f.reason; place = f.at.byte }))
into_refused {f = f} (ToldOf.refused g) e = let s : g ≡ f = cc in rw (← s) (Into.refused (refusal_of g))
into_refused (ToldOf.program p h) e = absurd (let z : ◌≡◌ {A = ℕ} 0 1 = cc in omega arith)

pub aside_read : {x : Reading} {r : Result ⊤ Fault} → JudgedAs x r → r ≡ Ok tt → Aside x (Err (record { reason = reasons.LengthWrong; place = 0 }))
unfolding fill refused_table
aside_read (JudgedAs.refused f) e n other = absurd (let z : ◌≡◌ {A = ℕ} 0 1 = cc in omega arith)
aside_read (JudgedAs.program p) e n other = rw (ne_eqb n table_length other) refl

pub aside_refused : {x : Reading} {r : Result ⊤ Fault} {f : Fault} → JudgedAs x r → r ≡ Err f → Aside x (Err (record { reason = f.reason; place = f.at.byte }))
unfolding fill refused_table
aside_refused {f = f} (JudgedAs.refused g) e n other = let s : g ≡ f = cc in rw (← s) refl
aside_refused (JudgedAs.program p) e n other = absurd (let z : ◌≡◌ {A = ℕ} 0 1 = cc in omega arith)

not_both : {f : Refusal} {A : Type 0} → ◌≡◌ {A = Result ⊤ Refusal} (Ok tt) (Err f) → A
not_both e = absurd (let z : ◌≡◌ {A = ℕ} 0 1 = cc in omega arith)

-- ---- the entry point

module _ (text : List ℕ) (n : ℕ) where
  pub read_long : {z : List ℕ} → max_text < length text → z ≡ zeros n → filled_of (Err (record { reason = reasons.TextTooLong; place = 0 })) z ≡ read_answer text n
  unfolding read_answer read refused_table
  read_long h e = rw (e, lt-ltb max_text (length text) h)

  pub read_other : (r : Result ⊤ Refusal) {z : List ℕ} → Aside (read text) r → (n ≡ table_length → ⊥) → z ≡ zeros n → filled_of r z ≡ read_answer text n
  unfolding read_answer
  read_other r h other e = rw e (h n other)

  module _ {t : List ℕ} where
    filled : {x : Reading} {r : Result ⊤ Refusal} {z : List ℕ} → Into t x r → (r ≡ Ok tt → n ≡ table_length) → (r ≡ Ok tt → z ≡ t) → ((f : Refusal) → r ≡ Err f → z ≡ zeros n) → filled_of r z ≡ filled_from n x
    unfolding fill refused_table
    filled (Into.refused f) s done not = rw (not f refl)
    filled (Into.program q h) s done not = rw (done refl, h, eq-eqb n table_length (s refl))

    pub read_program : {r : Result ⊤ Refusal} → Into t (read text) r → r ≡ Ok tt → n ≡ table_length → filled_of (Ok tt) t ≡ read_answer text n
    unfolding read_answer
    read_program {r} h e s = ap (λ (v : Result ⊤ Refusal). filled_of v t) (sym e) ∙ filled h (λ k. s) (λ d. refl) (λ f d. not_both (sym e ∙ d))

    pub read_refused : {r : Result ⊤ Refusal} {f : Refusal} {z : List ℕ} → Into t (read text) r → r ≡ Err f → z ≡ zeros n
        → filled_of (Err f) z ≡ read_answer text n
    unfolding read_answer
    read_refused {r} {f} {z} h e d = ap (λ (v : Result ⊤ Refusal). filled_of v z) (sym e) ∙ filled h (λ k. not_both (sym k ∙ e)) (λ k. not_both (sym k ∙ e)) (λ g k. d)
