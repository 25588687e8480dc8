-- What a call did, from what it answers in numbers. Assumes nothing.
use mathlib.Core.Bool.{Bool, true, false, cond, not, ◌&&◌}
use mathlib.Core.List.{List, [], ◌∷◌}
use mathlib.Core.Logic.{◌⊎◌, inl, inr}
use mathlib.Core.Path.{◌≡◌, refl, sym, ◌∙◌, ap, subst, subst⁻¹}
use Prim.Native.Nat.{ℕ, ◌<◌, ◌≤◌}
use native.Mathlib.Omega.{arith}
use mir.Val.{bool_byte}
use lib.Dec.{eqb, ltb}
use Rattle.std.specs.Prelude.{Ok}
use lib.ListN.{length}
use borrow.Author.Tests.{eq-eqb, ne_eqb, not-true, not-false}
use Rattle.language.specs.Instructions.{int64, uint}
use Rattle.language.specs.Programs.{function_in, has_signature}
use Rattle.language.specs.Table.{decode}
use Rattle.language.specs.Checking.{Verdict}
use Rattle.language.specs.Answers.{Answer as Answerᴸ, zeros, verdict_numbers, if_accepted, check_answer, signature_answer}
use Rattle.theorems.proofs.NoRefusal.{refused_numbers}
use Rattle.records.specs.declared.Record.{Record}
use Rattle.records.specs.Stores.{insert, capacity, store_length, store_cells, records_of, joined}
use Rattle.records.specs.Limits.{limit_answer, judged_test}
use Rattle.records.specs.Answers.{MergedStore, unchanged, kept, kept_as, Kept, emptied, IfLent, Allowed, RecordMerged, StoreJoined}
use Rattle.records.proofs.Merging.{joined_is}
use Rattle.records.proofs.Cells.{empty_zeros, held_records}
use Rattle.answers.specs.declared.figures.Answer.{Answer}
use Rattle.answers.specs.Numbers.{numbers_of}
use Rattle.ial.specs.Calls.{CheckLinked}
use Rattle.ial.proofs.Demand.{symbol_checked}
use Rattle.merge.specs.declared.figures.Merged.{Merged}
use Rattle.merge.specs.Rulings.{Ruled}
use Rattle.merge.specs.Calls.{test, merged_verdict, merged_of}
use Rattle.merge.proofs.Refusing.{not_both, kept_either}
use Rattle.merge.proofs.JudgingLaws.{limit_refused, limit_by, flag}

-- ---- lent bytes, by a length or two

module _ (s : List ℕ) (P : MergedStore → Type 0) (m : MergedStore) where
  pub lent_right : length s ≡ store_length → P m → IfLent (eqb (length s) store_length) s P m
  lent_right e h = subst⁻¹ (λ (b : Bool). IfLent b s P m) (eq-eqb (length s) store_length e) h

  pub lent_wrong : (length s ≡ store_length → ⊥) → m ≡ unchanged s 22 0 → IfLent (eqb (length s) store_length) s P m
  lent_wrong n h = subst⁻¹ (λ (b : Bool). IfLent b s P m) (ne_eqb (length s) store_length n) h

  module _ (b : Bool) where
    pub both_right : length s ≡ store_length → b ≡ true → P m → IfLent (eqb (length s) store_length && b) s P m
    both_right e d h = rw (eq-eqb (length s) store_length e, d) h

    pub first_wrong : (length s ≡ store_length → ⊥) → m ≡ unchanged s 22 0 → IfLent (eqb (length s) store_length && b) s P m
    first_wrong n h = rw (ne_eqb (length s) store_length n) h

    pub second_wrong : length s ≡ store_length → b ≡ false → m ≡ unchanged s 22 0 → IfLent (eqb (length s) store_length && b) s P m
    second_wrong e d h = rw (eq-eqb (length s) store_length e, d) h

-- ---- answers

pub told_kept : (b : Bool) (r : Merged) (s : List ℕ) → merged_verdict r ≡ (kept_as b []).answer → merged_of r s ≡ kept_as b s
told_kept true r s e = ap (λ (v : Verdict). record { answer = v; store = s }) e
told_kept false r s e = ap (λ (v : Verdict). record { answer = v; store = s }) e

pub told_empty : (s s' : List ℕ) → length s ≡ store_length → s' ≡ zeros (length s) → record { answer = Verdict.accepted; store = s' } ≡ emptied s
unfolding emptied
told_empty s s' e z =
    ap (λ (s : List ℕ). record { answer = Verdict.accepted; store = s }) (z ∙ ap zeros e ∙ empty_zeros)
    ∙ sym (ap (λ (b : Bool). cond b (record { answer = Verdict.accepted; store = store_cells [] }) (unchanged s 22 0)) (eq-eqb (length s) store_length e))

pub told_other : (s : List ℕ) → (length s ≡ store_length → ⊥) → unchanged s 22 0 ≡ emptied s
unfolding emptied
told_other s n = sym (ap (λ (b : Bool). cond b (record { answer = Verdict.accepted; store = store_cells [] }) (unchanged s 22 0)) (ne_eqb (length s) store_length n))

-- ---- two stores joined

pub joined_kept :
    (s u : List ℕ) (b : Bool) (s' : List ℕ) → length s' ≡ length s → kept_as b s' ≡ kept s (joined (records_of s) (records_of u)) → StoreJoined u s (kept_as b s')
joined_kept s u b s' l e =
    record {
      exact = e;
      held =
          λ es fs h g.
          e ∙ ap (λ (es : List Record). kept s (joined es (records_of u))) (held_records h) ∙ ap (λ (fs : List Record). kept s (joined es fs)) (held_records g)
          ∙ ap (kept s) (joined_is es fs h.rising g.rising);
      harmless = record { size = size b; either = either b e (kept_either s (joined (records_of s) (records_of u))) };
    }
  where
    size : (b : Bool) → length (kept_as b s').store ≡ length s
    size true = l
    size false = l

    either :
        (b : Bool) → kept_as b s' ≡ kept s (joined (records_of s) (records_of u))
        → ((length (joined (records_of s) (records_of u)) ≤ capacity)
        × (kept s (joined (records_of s) (records_of u)) ≡ record { answer = Verdict.accepted; store = store_cells (joined (records_of s) (records_of u)) }))
        ⊎ ((capacity < length (joined (records_of s) (records_of u))) × (kept s (joined (records_of s) (records_of u)) ≡ unchanged s 60 0))
        → ((kept_as b s').answer ≡ Verdict.accepted) ⊎ (kept_as b s' ≡ unchanged s 60 0)
    either true e k = inl refl
    either false e (inl k) = absurd (not_both (sym (ap (λ (m : MergedStore). m.answer) (e ∙ k.1))))
    either false e (inr k) = inr (e ∙ k.1)

-- ---- refusals in numbers

pub refused_numbered : (n p : ℕ) (s : List ℕ) → 0 < n → merged_of (record { number = n; place = p }) s ≡ unchanged s n p
refused_numbered n p s l =
    let e : eqb n 0 ≡ false = ne_eqb n 0 (λ d. absurd (omega arith)) in
    ap (λ (b : Bool). record { answer = cond (b && eqb p 0) Verdict.accepted (Verdict.refused n p); store = s }) e

-- the number of a limit function's refusal is not 0
pub limit_number : (t : List ℕ) (i n p : ℕ) → limit_answer t i ≡ Verdict.refused n p → 0 < n
unfolding limit_answer
limit_number t i n p e = by (check_answer t) refl e
  where
    by : (v : Verdict) → check_answer t ≡ v
        → if_accepted v Verdict.refused (cond (ltb i (length (decode t)) && has_signature (function_in (decode t) i) uint (int64 ∷ [])) Verdict.accepted (Verdict.refused 61 0)) ≡ Verdict.refused n p
        → 0 < n
    by Verdict.accepted c e = signed (ltb i (length (decode t)) && has_signature (function_in (decode t) i) uint (int64 ∷ [])) e
      where
        signed : (b : Bool) → cond b Verdict.accepted (Verdict.refused 61 0) ≡ Verdict.refused n p → 0 < n
        signed true e = absurd (not_both e)
        signed false e = let d : 61 ≡ n = cc in omega arith
    by (Verdict.refused k q) c e =
        let d : k ≡ n = cc in
        let m = refused_numbers t k q c in
        omega (arith, m.0, d)

-- ---- a record, as it was ruled

pub record_ruled :
    (t : List ℕ) (i budget a b c d n : ℕ) (f : Bool) (s : List ℕ) (m : MergedStore) → Ruled t i budget d (Ok f) → n ≡ bool_byte f
    → IfLent (eqb (length s) store_length) s (Kept s (insert (record { appliance = a; time = b; fail = n; tablet = c; reading = d }))) m
    → RecordMerged t i budget (test a b c d) s m
unfolding judged_test
record_ruled t i budget a b c d n f s m r g h =
    let same : record { appliance = a; time = b; fail = n; tablet = c; reading = d } ≡ judged_test t i budget (test a b c d) =
    ap (λ (f : ℕ). record { appliance = a; time = b; fail = f; tablet = c; reading = d }) (g ∙ flag f ∙ r.1) in
    subst⁻¹ (λ (v : Verdict). Allowed v s (IfLent (eqb (length s) store_length) s (Kept s (insert (judged_test t i budget (test a b c d))))) m) r.0
    (subst (λ (e : Record). IfLent (eqb (length s) store_length) s (Kept s (insert e)) m) same h)

pub limit_told : (t : List ℕ) (i n p : ℕ) (s : List ℕ) (P : MergedStore → Type 0) → limit_answer t i ≡ Verdict.refused n p
    → Allowed (limit_answer t i) s P (merged_of (record { number = n; place = p }) s)
limit_told t i n p s P e =
    subst⁻¹ (λ (v : Verdict). Allowed v s P (merged_of (record { number = n; place = p }) s)) e (refused_numbered n p s (limit_number t i n p e))

-- ---- many at once: the check and the signature before all else

pub checked_refused : (t : List ℕ) (r : Answer) → CheckLinked t r → (r.number ≡ 0 → ⊥) → check_answer t ≡ Verdict.refused r.number r.place
unfolding verdict_numbers
checked_refused t r e n = by (check_answer t) refl e
  where
    by : (v : Verdict) → check_answer t ≡ v → numbers_of r ≡ verdict_numbers v → check_answer t ≡ Verdict.refused r.number r.place
    by Verdict.accepted c e = absurd (n (ap (λ (a : Answerᴸ). a.number) e))
    by (Verdict.refused k p) c e =
        c ∙ ap (λ (k : ℕ). Verdict.refused k p) (sym (ap (λ (a : Answerᴸ). a.number) e)) ∙ ap (Verdict.refused r.number) (sym (ap (λ (a : Answerᴸ). a.place) e))

module _ (t : List ℕ) (i : ℕ) (r : Answer) (checked : CheckLinked t r) (s : List ℕ) (P : MergedStore → Type 0) where
  pub many_refused : (r.number ≡ 0 → ⊥) → Allowed (limit_answer t i) s P (merged_of (record { number = r.number; place = r.place }) s)
  many_refused n = limit_told t i r.number r.place s P (limit_refused t i (checked_refused t r checked n))

  module _ (none : r.number ≡ 0) (b : Bool) (signed : b ≡ signature_answer t i uint (int64 ∷ [])) where
    pub many_other : not b ≡ true → Allowed (limit_answer t i) s P (merged_of (record { number = 61; place = 0 }) s)
    many_other n = limit_told t i 61 0 s P (limit_by t i false (symbol_checked t r checked none) (sym signed ∙ not-true b n))

    pub many_allowed : (m : MergedStore) → not b ≡ false → P m → Allowed (limit_answer t i) s P m
    many_allowed m n h = subst⁻¹ (λ (v : Verdict). Allowed v s P m) (limit_by t i true (symbol_checked t r checked none) (sym signed ∙ not-false b n)) h
