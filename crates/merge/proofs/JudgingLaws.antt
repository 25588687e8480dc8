-- What a run's answer says of its table's check, and so of the limit function. Assumes nothing.
use mathlib.Core.Bool.{Bool, not, true, false, cond}
use mathlib.Core.List.{List, [], ◌∷◌}
use mathlib.Core.Path.{◌≡◌, refl, sym, ◌∙◌, ap, subst, subst⁻¹}
use Prim.Native.Nat.{ℕ, ◌^◌, ◌<◌, ◌≤◌}
use native.Mathlib.Omega.{arith}
use Rattle.language.specs.Instructions.{int64, uint}
use Rattle.language.specs.Programs.{max_registers}
use Rattle.language.specs.Checking.{Verdict}
use Rattle.language.specs.Answers.{Ran, Finished, refused_run, check_answer, run_answer, signature_answer}
use mir.Val.{bool_byte}
use borrow.Author.Tests.{not-true, not-false}
use Rattle.theorems.proofs.NoRefusal.{refused_numbers}
use Rattle.theorems.proofs.Accepted.{signature_accepted}
use Rattle.std.specs.Prelude.{Ok, Err}
use Rattle.std.specs.declared.result.Result.{Result}
use Rattle.answers.specs.declared.reasons.Refusal.{Refusal}
use Rattle.answers.specs.Reasons.{reason_number}
use Rattle.records.specs.Limits.{limit_answer, fail_of}
use Rattle.merge.proofs.Translated.{limit_runs}
use Rattle.merge.specs.Rulings.{Ruled, refused_by}

-- An answer that the check alone does not give.
abbrev pub Later : Ran → Type 0
Later (Ran.returned v s) = Unit {0}
Later (Ran.left s) = Unit {0}
Later (Ran.stopped n p s) = Unit {0}
Later (Ran.refused n p) = 18 ≤ n

refused_same : {k p n q : ℕ} → Ran.refused k p ≡ Ran.refused n q → (k ≡ n) × (p ≡ q)
refused_same e = (cc, cc)

module _ (t : List ℕ) (i : ℕ) (args : List ℕ) (budget n : ℕ) where
  -- a refusal of the check is the run's answer
  pub run_of_check : {k p : ℕ} → check_answer t ≡ Verdict.refused k p → (run_answer t i args budget n).answer ≡ Ran.refused k p
  unfolding run_answer refused_run
  run_of_check e = rw e refl

  -- any other answer says that it accepted the table
  pub answered_later : {a : Ran} → (run_answer t i args budget n).answer ≡ a → Later a → check_answer t ≡ Verdict.accepted
  answered_later {a} e l = by (check_answer t) refl
    where
      by : (v : Verdict) → check_answer t ≡ v → check_answer t ≡ Verdict.accepted
      by Verdict.accepted d = d
      by (Verdict.refused k p) d =
          let late : Later (Ran.refused k p) = subst Later (sym e ∙ run_of_check d) l in
          let below = refused_numbers t k p d in
          absurd (omega (arith, below.1))

-- ---- a returned value

pub failed_value : (b : Bool) → ◌≡◌ {A = ℕ} (cond (not b) 1 0) (cond b 0 1)
failed_value true = refl
failed_value false = refl

pub flag : (b : Bool) → bool_byte b ≡ cond b 1 0
flag true = refl
flag false = refl

-- ---- the limit function

module _ (t : List ℕ) (i : ℕ) where
  pub limit_refused : {k p : ℕ} → check_answer t ≡ Verdict.refused k p → limit_answer t i ≡ Verdict.refused k p
  unfolding limit_answer
  limit_refused e = rw e refl

  pub limit_by : (b : Bool) → check_answer t ≡ Verdict.accepted → signature_answer t i uint (int64 ∷ []) ≡ b → limit_answer t i ≡ cond b Verdict.accepted (Verdict.refused 61 0)
  unfolding limit_answer
  limit_by b e d =
      let s = sym (signature_accepted t i uint (int64 ∷ []) e) ∙ d in
      rw e (ap (λ (b : Bool). cond b Verdict.accepted (Verdict.refused 61 0)) s)

-- ---- rulings

module _ (t : List ℕ) (i budget reading : ℕ) (b : Bool) (signed : b ≡ signature_answer t i uint (int64 ∷ [])) where
  -- no limit function: the check's refusal, or 61
  pub ruled_other : not b ≡ true → (e : Refusal) → Verdict.refused (reason_number e.reason) e.place ≡ refused_by (check_answer t) → Ruled t i budget reading (Err e)
  ruled_other n f e = by (check_answer t) refl ∙ sym e
    where
      by : (v : Verdict) → check_answer t ≡ v → limit_answer t i ≡ refused_by (check_answer t)
      by Verdict.accepted c = limit_by t i false c (sym signed ∙ not-true b n) ∙ sym (ap refused_by c)
      by (Verdict.refused k p) c = limit_refused t i c ∙ sym (ap refused_by c)

  module _ (n : not b ≡ false) (fits : reading < 2 ^ 64) {g : Finished} (called : g ≡ run_answer t i (reading ∷ []) budget max_registers) where
    limit_if : check_answer t ≡ Verdict.accepted → limit_answer t i ≡ Verdict.accepted
    limit_if c = limit_by t i true c (sym signed ∙ not-false b n)

    -- the run's answer, where it is not refused
    pub ruled_ran : {a : Ran} (f : Bool) → g.answer ≡ a → Later a → cond f 1 0 ≡ fail_of a → Ruled t i budget reading (Ok f)
    ruled_ran {a} f e l d =
        let is : (run_answer t i (reading ∷ []) budget max_registers).answer ≡ a = sym (ap (λ (g : Finished). g.answer) called) ∙ e in
        (limit_if (answered_later t i (reading ∷ []) budget max_registers is l), d ∙ sym (ap fail_of is))

    -- a limit function's run is refused by the check alone
    pub ruled_refused : {k p : ℕ} → g.answer ≡ Ran.refused k p → limit_answer t i ≡ Verdict.refused k p
    ruled_refused {k} {p} e = by (check_answer t) refl
      where
        is : (run_answer t i (reading ∷ []) budget max_registers).answer ≡ Ran.refused k p
        is = sym (ap (λ (g : Finished). g.answer) called) ∙ e

        by : (v : Verdict) → check_answer t ≡ v → limit_answer t i ≡ Verdict.refused k p
        by Verdict.accepted c = absurd (limit_runs t i budget reading k p (limit_if c) fits is)
        by (Verdict.refused m q) c =
            let s = refused_same (sym (run_of_check t i (reading ∷ []) budget max_registers c) ∙ is) in
            limit_refused t i c ∙ ap (λ (k : ℕ). Verdict.refused k q) s.0 ∙ ap (Verdict.refused k) s.1
