-- The check of a table function by function: those before number i are accepted, and what is left is judged from there.
-- Assumes nothing.
use mathlib.Core.Bool.{true, false, cond}
use mathlib.Core.Path.{◌≡◌, sym, ap, ◌∙◌}
use mathlib.Core.List.{List, [], ◌∷◌}
use Prim.Native.Nat.{ℕ, suc, ◌≤◌, ◌<◌}
use native.Mathlib.Omega.{arith}
use lib.ListN.{length, drop, drop_of_length-le}
use lib.Seq.{drop-cons}
use borrow.Author.Tests.{eq-eqb, ne_eqb, le-leb, lt-leb}
use Rattle.language.specs.Programs.{Func, no_function, max_functions, row_place}
use Rattle.language.specs.Table.{table_length, function_count, function_at, decode_function, decode}
use Rattle.language.specs.Checking.{Verdict, breaks17, rows_that, first_fault, judge, judge_from, check}
use Rattle.language.specs.Answers.{check_answer}
use Rattle.language.proofs.TableView.{function_count_law, function_is}
use Rattle.checker.specs.Notes.{Lowest}
use Rattle.checker.specs.Notes.{noted_of}
use Rattle.checker.specs.Parts.{table_names_before, sound_at}
use Rattle.checker.proofs.Faults.{first_fault_law}
use Rattle.checker.proofs.Notes.{answer}
use Rattle.checker.proofs.Parts.{sound_at_law}

-- An answer, and what is answered if it accepts.
abbrev after : Verdict → Verdict → Verdict
after v w = elim v [ Verdict.accepted ↦ w | Verdict.refused k r ↦ Verdict.refused k r ]

module _ (t : List ℕ) where
  -- The functions from number i on.
  pub judged_from : ℕ → Verdict
  judged_from i = judge_from (table_names_before t i) i (drop i (decode t))

  -- Function number i.
  abbrev pub judged : ℕ → Verdict
  judged i = judge (table_names_before t i) i (decode_function t (function_at i))

  -- A length or a function count that no table has.
  pub other_length : (length t ≡ table_length → ⊥) → Verdict.refused 9 0 ≡ check_answer t
  unfolding check_answer
  other_length h = rw (ne_eqb (length t) table_length h)

  pub too_many : length t ≡ table_length → max_functions < function_count t → Verdict.refused 9 0 ≡ check_answer t
  unfolding check_answer check
  too_many e h = rw (eq-eqb (length t) table_length e, function_count_law t, lt-leb (function_count t) max_functions h)

  pub start : length t ≡ table_length → function_count t ≤ max_functions → check_answer t ≡ judged_from 0
  unfolding check_answer check judged_from table_names_before
  start e h = rw (eq-eqb (length t) table_length e, function_count_law t, le-leb (function_count t) max_functions h)

  module _ (i : ℕ) (h : i < function_count t) where
    here : drop i (decode t) ≡ decode_function t (function_at i) ∷ drop (suc i) (decode t)
    here = drop-cons (decode t) i no_function (omega (arith, function_count_law t)) ∙ ap (λ f. f ∷ drop (suc i) (decode t)) (function_is t i h)

    step : judged_from i ≡ after (judged i) (judged_from (suc i))
    unfolding judged_from judge_from table_names_before decode_function
    step = ap (judge_from (table_names_before t i) i) here

    pub goes_on : judged i ≡ Verdict.accepted → judged_from i ≡ judged_from (suc i)
    goes_on e = step ∙ ap (λ v. after v (judged_from (suc i))) e

    pub ends : (k p : ℕ) → judged i ≡ Verdict.refused k p → judged_from i ≡ Verdict.refused k p
    ends k p e = step ∙ ap (λ v. after v (judged_from (suc i))) e

  pub all_judged : (i : ℕ) → function_count t ≤ i → judged_from i ≡ Verdict.accepted
  unfolding judged_from judge_from
  all_judged i h = ap (judge_from (table_names_before t i) i) (drop_of_length-le (decode t) {i = i} (omega (arith, function_count_law t)))

-- ---- one function

module _ (t : List ℕ) (i : ℕ) where
  abbrev a : ℕ
  a = function_at i

  abbrev f : Func
  f = decode_function t a

  pub judged_9 : sound_at t i a ≡ false → Verdict.refused 9 i ≡ judged t i
  unfolding judge
  judged_9 e = rw (sound_at_law t a i, e)

  module _ (right : sound_at t i a ≡ true) where
    by_notes : answer i 17 (noted_of f) (rows_that f (breaks17 f) ∷ []) ≡ judged t i
    unfolding judge
    by_notes = rw (sound_at_law t a i, right) (sym (first_fault_law f i))

    module _ {x : Lowest} (e : x ≡ noted_of f) where
      pub judged_form : (x.number ≡ 17 → ⊥) → Verdict.refused x.number (row_place i x.row) ≡ judged t i
      judged_form n =
          ap (λ (s : Lowest). Verdict.refused s.number (row_place i s.row)) e
          ∙ sym (ap (λ b. cond b (first_fault i 17 (rows_that f (breaks17 f) ∷ [])) (Verdict.refused (noted_of f).number (row_place i (noted_of f).row))) (ne_eqb (noted_of f).number 17 (λ q. n (ap (λ (s : Lowest). s.number) e ∙ q))))
          ∙ by_notes

      pub judged_17 : x.number ≡ 17 → first_fault i 17 (rows_that f (breaks17 f) ∷ []) ≡ judged t i
      judged_17 n =
          sym (ap (λ b. cond b (first_fault i 17 (rows_that f (breaks17 f) ∷ [])) (Verdict.refused (noted_of f).number (row_place i (noted_of f).row))) (eq-eqb (noted_of f).number 17 (ap (λ (s : Lowest). s.number) (sym e) ∙ n)))
          ∙ by_notes
