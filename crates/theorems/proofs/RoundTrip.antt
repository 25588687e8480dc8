-- The round trip over tables and lent buffers: when writing is refused, and what the text gives when it is read back.
-- Assumes nothing.
use mathlib.Core.Bool.{Bool, true, false, cond}
use mathlib.Core.List.{List, ◌++◌, map}
use mathlib.Core.Path.{◌≡◌, refl, sym, ◌∙◌, ap, subst}
use Prim.Native.Nat.{ℕ, ◌+◌, ◌-◌, ◌≤◌, ◌<◌}
use native.Mathlib.Omega.{arith}
use borrow.Author.Tests.{ltb-true, ltb-false, lt-ltb, le-ltb, eq-eqb}
use lib.Dec.{eqb, ltb}
use lib.ListN.{length, take, drop, length-map}
use lib.Seq.{take-append_seam, drop-append_seam}
use Rattle.laws.proofs.Indexing.{get_d_map}
use Rattle.language.specs.Programs.{Func, Program, no_function, function_in, max_text, row_place}
use Rattle.language.specs.Reading.{read}
use Rattle.language.specs.Checking.{Verdict, check}
use Rattle.language.specs.Table.{table_length, decode}
use Rattle.language.specs.Running.{Place, Outcome, Run, run_of, first_unfit}
use Rattle.language.specs.MadeNames.{named_function, named, written}
use Rattle.language.specs.Answers.{Ran, Finished, Wrote, Shown, zeros, wrote_numbers, fill, filled_from, read_answer, check_answer, place_of, ran_as, left_in, refused_run, run_function, run_answer, if_accepted, refused_text, show, write_answer}
use Rattle.theorems.specs.TableLaw.{Held}
use Rattle.theorems.specs.RoundTrip.{AlikeButNames, Writes, WrittenExactly, NotWritten, NotWrittenExactly, LongIs33, FullIs32, WrittenIs0, RefusedZeroes, filled_table, RoundTripLaw}
use Rattle.theorems.proofs.NoRefusal.{refused_numbers}
use Rattle.theorems.proofs.AcceptanceCheck.{accepted_program}
use Rattle.theorems.proofs.Table.{unneeded_zero}
use Rattle.theorems.proofs.TableSound.{accepted_fits, accepted_held}
use Rattle.theorems.proofs.WritingAlike.{registers_alike, first_alike, unfit_alike, names_do_not_matter}
use Rattle.theorems.proofs.WritingNamed.{only_names_filled, still_accepted}
use Rattle.theorems.proofs.WritingAccepted.{reads_back}
use Rattle.theorems.proofs.WritingAgain.{written_again}

-- ---- when writing is refused

-- What writing comes to, by the check's verdict, the text and the buffer's length.
data Comes (t : List ℕ) (n : ℕ) : Shown → Type 0 where
  refused : (k p : ℕ) → NotWritten t n k p → Comes t n (refused_text n k p)
  wrote :
      (k : ℕ) → Writes t n k → Comes t n (record { answer = Wrote.wrote k; buffer = written (decode t) ++ zeros (n - k) })

comes : (t : List ℕ) (n : ℕ) → Comes t n (write_answer t n)
unfolding write_answer show
comes t n = by (check_answer t) refl
  where
    text : List ℕ
    text = written (decode t)

    sized :
        check_answer t ≡ Verdict.accepted
        → (a b : Bool)
        → ltb max_text (length text) ≡ a
        → ltb n (length text) ≡ b
        → Comes t n
        (cond a (refused_text n 33 0) (cond b (refused_text n 32 0) (record { answer = Wrote.wrote (length text); buffer = text ++ zeros (n - length text) })))
    sized e true b p q = Comes.refused 33 0 (NotWritten.long e (ltb-true max_text (length text) p))
    sized e false true p q = Comes.refused 32 0 (NotWritten.full e (ltb-false max_text (length text) p) (ltb-true n (length text) q))
    sized e false false p q =
        Comes.wrote (length text) (record { passes = e; count = refl; within = ltb-false max_text (length text) p; room = ltb-false n (length text) q })

    by : (v : Verdict) → check_answer t ≡ v → Comes t n (if_accepted v (refused_text n) (show n text))
    by Verdict.accepted e = sized e (ltb max_text (length text)) (ltb n (length text)) refl refl
    by (Verdict.refused k p) e = Comes.refused k p (NotWritten.unsound k p e)

wrote_not : {A : Type 0} {k p n : ℕ} → Wrote.refused k p ≡ Wrote.wrote n → A
wrote_not e = absurd (let z : ◌≡◌ {A = ℕ} 0 1 = cc in omega arith)

module _ (t : List ℕ) (n : ℕ) where
  -- The answer to a text that is written.
  written_as : (k : ℕ) → Writes t n k → write_answer t n ≡ record { answer = Wrote.wrote k; buffer = written (decode t) ++ zeros (n - k) }
  unfolding write_answer show
  written_as k w =
      let count : length (written (decode t)) ≡ k = sym w.count in
      rw (w.passes, count, le-ltb max_text k w.within, le-ltb n k w.room) refl

  refused_as : {k p : ℕ} → NotWritten t n k p → (write_answer t n).answer ≡ Wrote.refused k p
  unfolding write_answer show refused_text
  refused_as (NotWritten.unsound k p e) = rw e refl
  refused_as (NotWritten.long e h) = rw (e, lt-ltb max_text (length (written (decode t))) h) refl
  refused_as (NotWritten.full e h l) = rw (e, le-ltb max_text (length (written (decode t))) h, lt-ltb n (length (written (decode t))) l) refl

  writes : (k : ℕ) {x : Shown} → Comes t n x → x.answer ≡ Wrote.wrote k → Writes t n k
  unfolding refused_text
  writes k (Comes.refused i p h) e = wrote_not e
  writes k (Comes.wrote i w) e = subst (Writes t n) (let z : i ≡ k = cc in z) w

  not_written : (k p : ℕ) {x : Shown} → Comes t n x → x.answer ≡ Wrote.refused k p → NotWritten t n k p
  unfolding refused_text
  not_written k p (Comes.refused i j h) e =
      subst (λ (a : ℕ). NotWritten t n a p) (let z : i ≡ k = cc in z) (subst (NotWritten t n i) (let z : j ≡ p = cc in z) h)
  not_written k p (Comes.wrote i w) e = wrote_not (sym e)

  zeroed : (k p : ℕ) {x : Shown} → Comes t n x → x.answer ≡ Wrote.refused k p → x.buffer ≡ zeros n
  unfolding refused_text
  zeroed k p (Comes.refused i j h) e = refl
  zeroed k p (Comes.wrote i w) e = wrote_not (sym e)

  -- a refusal with 33 or 32 is not the check's
  is_33 : {k p : ℕ} → NotWritten t n k p → k ≡ 33 → (check_answer t ≡ Verdict.accepted) × (max_text < length (written (decode t)))
  is_33 (NotWritten.unsound k p h) e = absurd (omega (arith, (refused_numbers t k p h).1))
  is_33 (NotWritten.long h l) e = (h, l)
  is_33 (NotWritten.full h l m) e = absurd (omega arith)

  is_32 :
      {k p : ℕ}
      → NotWritten t n k p
      → k ≡ 32
      → (check_answer t ≡ Verdict.accepted) × (length (written (decode t)) ≤ max_text) × (n < length (written (decode t)))
  is_32 (NotWritten.unsound k p h) e = absurd (omega (arith, (refused_numbers t k p h).1))
  is_32 (NotWritten.long h l) e = absurd (omega arith)
  is_32 (NotWritten.full h l m) e = (h, l, m)

  is_0 : {k p : ℕ} → NotWritten t n k p → k ≡ 0 → ⊥
  is_0 (NotWritten.unsound k p h) e = omega (arith, (refused_numbers t k p h).0)
  is_0 (NotWritten.long h l) e = omega arith
  is_0 (NotWritten.full h l m) e = omega arith

  refused_number :
      (k : ℕ) → 0 < k → {x : Shown} → Comes t n x → (wrote_numbers x.answer).number ≡ k → (p : ℕ) × NotWritten t n k p
  unfolding refused_text wrote_numbers
  refused_number k l (Comes.refused i p h) e = (p, subst (λ (a : ℕ). NotWritten t n a p) e h)
  refused_number k l (Comes.wrote i w) e = absurd (omega (arith, e))

  written_0 : {x : Shown} → Comes t n x → (wrote_numbers x.answer).number ≡ 0 → x.answer ≡ Wrote.wrote (wrote_numbers x.answer).value
  unfolding refused_text wrote_numbers
  written_0 (Comes.refused i p h) e = absurd (is_0 h e)
  written_0 (Comes.wrote i w) e = refl

pub written_exactly : WrittenExactly
written_exactly t n k = (writes t n k (comes t n), λ w. ap (λ (x : Shown). x.answer) (written_as t n k w))

pub not_written_exactly : NotWrittenExactly
not_written_exactly t n k p = (not_written t n k p (comes t n), refused_as t n)

pub long_is_33 : LongIs33
unfolding wrote_numbers
long_is_33 t n = (
  λ e. is_33 t n (refused_number t n 33 (omega arith) (comes t n) e).1 refl,
  λ h. ap (λ (a : Wrote). (wrote_numbers a).number) (refused_as t n (NotWritten.long h.0 h.1)),
)

pub full_is_32 : FullIs32
unfolding wrote_numbers
full_is_32 t n = (
  λ e. is_32 t n (refused_number t n 32 (omega arith) (comes t n) e).1 refl,
  λ h. ap (λ (a : Wrote). (wrote_numbers a).number) (refused_as t n (NotWritten.full h.0 h.1 h.2)),
)

pub written_is_0 : WrittenIs0
written_is_0 t n e = written_0 t n (comes t n) e

pub refused_zeroes : RefusedZeroes
refused_zeroes t n k p e = zeroed t n k p (comes t n) e

-- ---- runs of the table read back

-- What a run answers once the function's number is tested.
abbrev tested : (i : ℕ) (args : List ℕ) (budget n : ℕ) → Func → Finished
tested i args budget n f =
    cond (eqb (length args) f.params)
    (cond (eqb (first_unfit f args) (length args))
    (cond (ltb n (length f.registers)) (refused_run n 22 0)
    (record { answer = ran_as i f (run_of f args budget); registers = left_in n (run_of f args budget) }))
    (refused_run n 20 (first_unfit f args)))
    (refused_run n 20 (length args))

module _ (f g : Func) (h : AlikeButNames f g) (i : ℕ) where
  place_alike : (p : Place) → place_of i g p ≡ place_of i f p
  unfolding place_of
  place_alike p = ap (λ (r : ℕ). row_place i (r + p.row)) (first_alike f g h p.block)

  ran_alike : (r : Run) → ran_as i g r ≡ ran_as i f r
  ran_alike (Run.going p v) = ap (λ (k : ℕ). Ran.stopped 43 k p.steps) (place_alike p)
  ran_alike (Run.ended (Outcome.returned v) p w) = refl
  ran_alike (Run.ended Outcome.left p w) = refl
  ran_alike (Run.ended (Outcome.stopped m) p w) = ap (λ (k : ℕ). Ran.stopped m k p.steps) (place_alike p)

  tested_alike : (args : List ℕ) (budget n : ℕ) → tested i args budget n g ≡ tested i args budget n f
  tested_alike args budget n =
      let run : run_of g args budget ≡ run_of f args budget = names_do_not_matter f g args budget h in
      let ran : ran_as i g (run_of g args budget) ≡ ran_as i f (run_of f args budget) = ran_alike (run_of g args budget) ∙ ap (ran_as i f) run in
      λ j.
      cond (eqb (length args) (h.params j))
      (cond (eqb (unfit_alike f g h args j) (length args))
      (cond (ltb n (registers_alike f g h j)) (refused_run n 22 0) (record { answer = ran j; registers = left_in n (run j) }))
      (refused_run n 20 (unfit_alike f g h args j)))
      (refused_run n 20 (length args))

run_named : (p : Program) (i : ℕ) (args : List ℕ) (budget n : ℕ) → run_function (named p) i args budget n ≡ run_function p i args budget n
unfolding run_function named
run_named p i args budget n = rw length-map (by (ltb i (length p)) refl)
  where
    by :
        (b : Bool)
        → ltb i (length p) ≡ b
        → cond b (tested i args budget n (function_in (map named_function p) i)) (refused_run n 21 0) ≡ cond b (tested i args budget n (function_in p i)) (refused_run n 21 0)
    by true e =
        let f = function_in p i in
        ap (tested i args budget n) (get_d_map named_function p i no_function no_function (ltb-true i (length p) e))
        ∙ tested_alike f (named_function f) (only_names_filled f) i args budget n
    by false e = refl

-- ---- the round trip

module _ (t : List ℕ) (n k : ℕ) (w : Writes t n k) where
  accepted : check (decode t) ≡ Verdict.accepted
  accepted = accepted_program t w.passes

  held : Held (named (decode t))
  held = accepted_held (named (decode t)) (still_accepted (decode t) accepted)

  passes : check_answer (filled_table t) ≡ Verdict.accepted
  unfolding check_answer
  passes = rw (eq-eqb (length (filled_table t)) table_length held.count, held.back) (still_accepted (decode t) accepted)

  text : take k (write_answer t n).buffer ≡ written (decode t)
  text =
      ap (λ (x : Shown). take k x.buffer) (written_as t n k w)
      ∙ ap (λ (m : ℕ). take m (written (decode t) ++ zeros (n - k))) w.count
      ∙ take-append_seam (written (decode t)) (zeros (n - k))

  rest : drop k (write_answer t n).buffer ≡ zeros (n - k)
  rest =
      ap (λ (x : Shown). drop k x.buffer) (written_as t n k w)
      ∙ ap (λ (m : ℕ). drop m (written (decode t) ++ zeros (n - k))) w.count
      ∙ drop-append_seam (written (decode t)) (zeros (n - k))

  reads : (m : ℕ) → read_answer (take k (write_answer t n).buffer) m ≡ fill m (named (decode t))
  unfolding read_answer
  reads m =
      ap (λ (s : List ℕ). filled_from m (read s)) text
      ∙ ap (filled_from m) (reads_back (decode t) accepted (omega (arith, w.count, w.within)))

  gives : read_answer (take k (write_answer t n).buffer) table_length ≡ record { answer = Verdict.accepted; table = filled_table t }
  unfolding fill
  gives = reads table_length

  runs : (i : ℕ) (args : List ℕ) (budget c : ℕ) → run_answer (filled_table t) i args budget c ≡ run_answer t i args budget c
  unfolding run_answer
  runs i args budget c = rw (passes, w.passes, held.back) (run_named (decode t) i args budget c)

  again : (m : ℕ) → write_answer (filled_table t) m ≡ write_answer t m
  unfolding write_answer
  again m = rw (passes, w.passes, held.back, written_again (decode t) accepted) refl

pub round_trip : RoundTripLaw
round_trip t n k e =
    let w = (written_exactly t n k).0 e in
    record {
      count = w.count;
      text = text t n k w;
      rest = rest t n k w;
      reads = reads t n k w;
      gives = gives t n k w;
      holds = (held t n k w).back;
      unneeded = unneeded_zero (named (decode t)) (accepted_fits (named (decode t)) (still_accepted (decode t) (accepted t n k w)));
      passes = passes t n k w;
      runs = runs t n k w;
      again = again t n k w;
    }
