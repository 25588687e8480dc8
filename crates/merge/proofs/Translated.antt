-- The limit function as written and translated: the same verdicts, and so the same stores. Assumes nothing.
use mathlib.Core.Bool.{Bool, true, cond, not, ◌&&◌}
use mathlib.Core.List.{List, [], ◌∷◌, map}
use mathlib.Core.Logic.{◌⊎◌, inl, inr}
use mathlib.Core.Path.{◌≡◌, refl, sym, ◌∙◌, ap, subst, subst⁻¹}
use Prim.Native.Nat.{ℕ, ◌%◌, ◌^◌, ◌<◌, ◌≤◌}
use native.Mathlib.Omega.{arith}
use lib.Dec.{T, eqb, ltb, eqb→eq, ltb→lt}
use lib.Ieee.Bits.{is_true}
use lib.Ieee.Fits.{and_l, and_r}
use lib.ListN.{length, take}
use lib.Seq.{take-append-le}
use borrow.Author.Tests.{lt-ltb}
use Rattle.laws.specs.Lists.{position, together, same}
use Rattle.language.specs.Instructions.{int64, uint, width}
use Rattle.language.specs.Programs.{Register, Func, Program, max_registers, has_signature}
use Rattle.language.specs.Table.{table_length, decode}
use Rattle.language.specs.Checking.{Verdict}
use Rattle.language.specs.Running.{Outcome, Run, NotEnded, first_unfit, arguments_fit, run_of}
use Rattle.language.specs.Answers.{Ran, Filled, if_accepted, verdict_numbers, check_answer, run_answer, ran_as}
use Rattle.language.specs.Translating.{translation, step_formula}
use Rattle.theorems.specs.Statements.{ran_with}
use Rattle.theorems.specs.OverTables.{function_in_table, TranslatableIn, Translated}
use Rattle.theorems.proofs.AcceptanceCheck.{Sound, sound_parts, tested, clean_of_check, accepted_program}
use Rattle.theorems.proofs.Budgets.{budget_agrees}
use Rattle.theorems.proofs.NoRefusal.{translated_is_0}
use Rattle.theorems.proofs.OverTables.{demand3_over_tables, run_answer_law, runs_over_tables}
use Rattle.records.specs.declared.Record.{Record}
use Rattle.records.specs.Stores.{insert, inserts, store_length}
use Rattle.records.specs.Limits.{Test, limit_answer, fail_of, judged_test}
use Rattle.records.specs.Answers.{Kept, IfLent, Allowed, tests_of}
use Rattle.merge.specs.declared.figures.Merged.{Merged}
use Rattle.merge.specs.Calls.{merged_of, RecordCalled, RecordsCalled}
use Rattle.merge.specs.Histories.{History, Leaves, OneOf, Merges}
use Rattle.merge.specs.Translated.{LimitRuns, Suffices, Unended, TranslatedTo, SameVerdicts, VerdictsTranslated, LeavesTranslated, StoresTranslated}
use Rattle.merge.proofs.Refusing.{not_both}
use Rattle.merge.proofs.OfCalls.{any_order_of_calls}

-- ---- what is known of a limit function that is allowed

-- It stands in a table that passes its check, and takes one int64 and gives an uint.
pub record Limit (t : List ℕ) (i : ℕ) : Type 0 where
  pub passes : check_answer t ≡ Verdict.accepted
  pub there : i < length (decode t)
  pub signature : T (has_signature (function_in_table t i) uint (int64 ∷ []))

module _ (t : List ℕ) (i : ℕ) where
  abbrev found : Bool
  found = ltb i (length (decode t))

  abbrev fits : Bool
  fits = has_signature (function_in_table t i) uint (int64 ∷ [])

  pub allowed_limit : limit_answer t i ≡ Verdict.accepted → Limit t i
  unfolding limit_answer
  allowed_limit = by (check_answer t) refl
    where
      by :
          (v : Verdict)
          → check_answer t ≡ v
          → if_accepted v Verdict.refused (cond (found && fits) Verdict.accepted (Verdict.refused 61 0)) ≡ Verdict.accepted
          → Limit t i
      by Verdict.accepted p e =
          let q = (tested (found && fits) Verdict.accepted 61 0 e).0 in
          record { passes = p; there = ltb→lt i (length (decode t)) (and_l found fits q); signature = and_r found fits q }
      by (Verdict.refused k p) q e = absurd (not_both (sym e))

  pub limit_allowed : Limit t i → limit_answer t i ≡ Verdict.accepted
  unfolding limit_answer
  limit_allowed h = rw (h.passes, lt-ltb i (length (decode t)) h.there, is_true fits h.signature) refl

  limit_sound : Limit t i → Sound (function_in_table t i)
  limit_sound h = sound_parts [] (function_in_table t i) (clean_of_check (decode t) i (accepted_program t h.passes) h.there).head

  pub limit_room : Limit t i → length (function_in_table t i).registers ≤ max_registers
  limit_room h = (limit_sound h).registers

-- ---- a reading fits it

-- An int64 takes any number of 64 bits.
int64_fits : (r : Register) (v : ℕ) → T (eqb r.type int64 && true) → v < 2 ^ 64 → ltb v (2 ^ width r.type) ≡ true
unfolding width
int64_fits r v s l = rw (eqb→eq r.type int64 (and_l (eqb r.type int64) true s)) (lt-ltb v (2 ^ 64) l)

first_fits :
    (rs : List Register) (v : ℕ) → T (same (map (λ r. r.type) (take 1 rs)) (int64 ∷ [])) → v < 2 ^ 64
    → position (λ b. not b) (together (λ r v. ltb v (2 ^ width r.type)) rs (v ∷ [])) ≡ 1
first_fits [] v s l = absurd s
first_fits (r ∷ []) v s l = rw (int64_fits r v s l)
first_fits (r ∷ (q ∷ rs)) v s l = rw (int64_fits r v s l)

module _ (f : Func) (h : T (has_signature f uint (int64 ∷ []))) where
  abbrev one : Bool
  one = eqb f.params 1

  abbrev typed : Bool
  typed = same (map (λ r. r.type) (take f.params f.registers)) (int64 ∷ [])

  parameter : T (one && typed)
  unfolding has_signature
  parameter = and_r (eqb f.result uint) (one && typed) h

  is_one : f.params ≡ 1
  is_one = eqb→eq f.params 1 (and_l one typed parameter)

  is_int64 : T (same (map (λ r. r.type) (take 1 f.registers)) (int64 ∷ []))
  is_int64 = subst (λ (n : ℕ). T (same (map (λ r. r.type) (take n f.registers)) (int64 ∷ []))) is_one (and_r one typed parameter)

  pub reading_fits : (v : ℕ) → v < 2 ^ 64 → T (arguments_fit f (v ∷ []))
  unfolding arguments_fit first_unfit
  reading_fits v l = rw (is_one, first_fits f.registers v is_int64 l) tt

  -- the translation has the same result and parameters
  translation_signed : f.params ≤ length f.registers → T (has_signature (translation f) uint (int64 ∷ []))
  unfolding has_signature translation
  translation_signed l = rw take-append-le h

-- ---- an allowed limit function runs

not_refused : (i : ℕ) (f : Func) (r : Run) (k p : ℕ) → ran_as i f r ≡ Ran.refused k p → ⊥
not_refused i f (Run.going q g) k p e = let z : ◌≡◌ {A = ℕ} 0 1 = cc in omega arith
not_refused i f (Run.ended (Outcome.returned v) q g) k p e = let z : ◌≡◌ {A = ℕ} 0 1 = cc in omega arith
not_refused i f (Run.ended Outcome.left q g) k p e = let z : ◌≡◌ {A = ℕ} 0 1 = cc in omega arith
not_refused i f (Run.ended (Outcome.stopped n) q g) k p e = let z : ◌≡◌ {A = ℕ} 0 1 = cc in omega arith

pub limit_runs : LimitRuns
limit_runs t i budget reading k p a l e =
    let h = allowed_limit t i a in
    let f = function_in_table t i in
    let runs = run_answer_law t i (reading ∷ []) budget max_registers h.passes h.there (reading_fits f h.signature reading l) (limit_room t i h) in
    not_refused i f (run_of f (reading ∷ []) budget) k p (sym runs ∙ e)

-- ---- verdicts

-- A verdict is by how the run ended.
same_end : (o : Outcome) (n m p q : ℕ) → fail_of (ran_with o p n) ≡ fail_of (ran_with o q m)
same_end (Outcome.returned v) n m p q = refl
same_end Outcome.left n m p q = refl
same_end (Outcome.stopped k) n m p q = refl

-- A run that uses up its budget is a fail.
unended_fails :
    (t : List ℕ) (i b : ℕ) → Limit t i → (v : ℕ) → v < 2 ^ 64 → NotEnded (function_in_table t i) (v ∷ []) b
    → fail_of (run_answer t i (v ∷ []) b max_registers).answer ≡ 1
unended_fails t i b h v l n =
    let f = function_in_table t i in
    let ran = run_answer_law t i (v ∷ []) b max_registers h.passes h.there (reading_fits f h.signature v l) (limit_room t i h) in
    ap fail_of (ran ∙ ((budget_agrees i f (v ∷ []) b).going n).1)

module _ (t : List ℕ) (i : ℕ) (out : List ℕ) (a : limit_answer t i ≡ Verdict.accepted) (d : TranslatedTo t i out) where
  source : Limit t i
  source = allowed_limit t i a

  translatable : TranslatableIn t i
  unfolding verdict_numbers
  translatable = (translated_is_0 t i table_length (ap (λ (x : Filled). (verdict_numbers x.answer).number) d)).0

  translated : Translated t i (record { answer = Verdict.accepted; table = out })
  translated = subst (Translated t i) d (demand3_over_tables t i translatable)

  turned : Limit out 0
  turned =
      record {
        passes = translated.passes;
        there = subst⁻¹ (λ (p : Program). 0 < length p) translated.holds (omega arith);
        signature =
            subst⁻¹ (λ (g : Func). T (has_signature g uint (int64 ∷ []))) translated.translates.defined
            (translation_signed (function_in_table t i) source.signature (limit_sound t i source).params);
      }

  same_fail :
      (b b' : ℕ) (x : Test) → x.reading < 2 ^ 64 → Suffices t i b b' x
      → fail_of (run_answer t i (x.reading ∷ []) b max_registers).answer ≡ fail_of (run_answer out 0 (x.reading ∷ []) b' max_registers).answer
  same_fail b b' x l s =
      let n = s.0 in
      let o = s.1.0 in
      let fit = reading_fits (function_in_table t i) source.signature x.reading l in
      let agree = runs_over_tables t i (record { answer = Verdict.accepted; table = out }) (x.reading ∷ []) b b' max_registers max_registers translatable translated fit (limit_room t i source) (limit_room out 0 turned) in
      let k = agree.suffices n o s.1.1.0 s.1.1.1.0 s.1.1.1.1 in
      ap fail_of k.0.1 ∙ same_end o n (step_formula (function_in_table t i) (x.reading ∷ []) n) k.0.0 k.1.0 ∙ sym (ap fail_of k.1.1)

  -- neither ends, and both are fails
  same_stop :
      (b b' : ℕ) (x : Test) → x.reading < 2 ^ 64 → Unended t i b b' x
      → fail_of (run_answer t i (x.reading ∷ []) b max_registers).answer ≡ fail_of (run_answer out 0 (x.reading ∷ []) b' max_registers).answer
  same_stop b b' x l s =
      let fit = reading_fits (function_in_table t i) source.signature x.reading l in
      let runs = translated.translates.runs (x.reading ∷ []) fit in
      unended_fails t i b source x.reading l s.0 ∙ sym (unended_fails out 0 b' turned x.reading l (runs.not_ended b' s.1))

  -- a record is known by its test and its verdict
  judged_alike :
      (b b' : ℕ) (x : Test)
      → fail_of (run_answer t i (x.reading ∷ []) b max_registers).answer ≡ fail_of (run_answer out 0 (x.reading ∷ []) b' max_registers).answer
      → judged_test t i b x ≡ judged_test out 0 b' x
  unfolding judged_test
  judged_alike b b' x =
      ap (λ (v : ℕ). record { appliance = x.appliance; time = x.time; fail = v; tablet = x.tablet; reading = x.reading })

  same_verdicts : SameVerdicts t i out
  same_verdicts =
      record {
        allowed = limit_allowed out 0 turned;
        verdicts = λ b b' x l s. judged_alike b b' x (same_fail b b' x l s);
        unended = λ b b' x l s. judged_alike b b' x (same_stop b b' x l s);
      }

pub verdicts_translated : VerdictsTranslated
verdicts_translated = same_verdicts

-- ---- stores

module _ (t : List ℕ) (i : ℕ) (out : List ℕ) (b b' : ℕ) (a : limit_answer t i ≡ limit_answer out 0) where
  abbrev Alike : Test → Type 0
  Alike x = judged_test t i b x ≡ judged_test out 0 b' x

  same_judged : (xs : List Test) → ((x : Test) → OneOf x xs → Alike x) → map (judged_test t i b) xs ≡ map (judged_test out 0 b') xs
  same_judged [] f = refl
  same_judged (x ∷ xs) f = λ j. f x (inl refl) j ∷ same_judged xs (λ y o. f y (inr o)) j

  -- a call is known by its limit function's answer and by what is judged
  record_alike : (x : Test) (s : List ℕ) (r : Merged) (s' : List ℕ) → Alike x → RecordCalled out 0 b' x s r s' → RecordCalled t i b x s r s'
  record_alike x s r s' e c =
      subst⁻¹ (λ (v : Verdict). Allowed v s (IfLent (eqb (length s) store_length) s (Kept s (insert (judged_test t i b x)))) (merged_of r s')) a
      (subst⁻¹ (λ (y : Record). Allowed (limit_answer out 0) s (IfLent (eqb (length s) store_length) s (Kept s (insert y))) (merged_of r s')) e c)

  records_alike :
      (ns s : List ℕ) (r : Merged) (s' : List ℕ) → map (judged_test t i b) (tests_of ns) ≡ map (judged_test out 0 b') (tests_of ns)
      → RecordsCalled out 0 b' ns s r s' → RecordsCalled t i b ns s r s'
  records_alike ns s r s' e c =
      let l = eqb (length s) store_length && eqb (length ns % 4) 0 in
      subst⁻¹ (λ (v : Verdict). Allowed v s (IfLent l s (Kept s (inserts (map (judged_test t i b) (tests_of ns))))) (merged_of r s')) a
      (subst⁻¹ (λ (rs : List Record). Allowed (limit_answer out 0) s (IfLent l s (Kept s (inserts rs))) (merged_of r s')) e c)

  leaves_alike : (h : History) (u : List ℕ) → ((x : Test) → Merges x h → Alike x) → Leaves out 0 b' h u → Leaves t i b h u
  leaves_alike History.empty u f l = l
  leaves_alike (History.add x h) u f l = (
    l.0,
    (l.1.0, (leaves_alike h l.0 (λ y m. f y (inr m)) l.1.1.0, (record_alike x l.0 l.1.0 u (f x (inl refl)) l.1.1.1.0, l.1.1.1.1))),
  )
  leaves_alike (History.many ns h) u f l = (
    l.0,
    (
      l.1.0,
      (
        leaves_alike h l.0 (λ y m. f y (inr m)) l.1.1.0,
        (records_alike ns l.0 l.1.0 u (same_judged (tests_of ns) (λ y o. f y (inl o))) l.1.1.1.0, l.1.1.1.1),
      ),
    ),
  )
  leaves_alike (History.join h k) u f l = (
    l.0,
    (
      l.1.0,
      (
        l.1.1.0,
        (
          leaves_alike h l.0 (λ y m. f y (inl m)) l.1.1.1.0,
          (leaves_alike k l.1.0 (λ y m. f y (inr m)) l.1.1.1.1.0, l.1.1.1.1.1),
        ),
      ),
    ),
  )
  leaves_alike (History.refused h) u f l = (l.0, (leaves_alike h l.0 f l.1.0, l.1.1))

pub leaves_translated : LeavesTranslated
leaves_translated t i out b b' h u a d z f = leaves_alike t i out b b' (a ∙ sym v.allowed) h u (λ x m. by x (z x m).reading (f x m))
  where
    v : SameVerdicts t i out
    v = verdicts_translated t i out a d

    by : (x : Test) → x.reading < 2 ^ 64 → Suffices t i b b' x ⊎ Unended t i b b' x → judged_test t i b x ≡ judged_test out 0 b' x
    by x l (inl s) = v.verdicts b b' x l s
    by x l (inr s) = v.unended b b' x l s

-- the same tests, in the same order
pub stores_translated : StoresTranslated
stores_translated t i out b b' h s u a d z f l k =
    any_order_of_calls t i b h h s u z (λ x. (λ m. m, λ m. m)) l (leaves_translated t i out b b' h u a d z f k)
