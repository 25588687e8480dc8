-- Number 0 says that nothing was refused: the numbers of refusals are others.
-- Assumes nothing.
use mathlib.Core.Path.{◌≡◌, refl, subst⁻¹}
use mathlib.Core.Bool.{Bool, true, false, cond}
use mathlib.Core.List.{List, [], ◌∷◌}
use Prim.Native.Nat.{ℕ, ◌<◌}
use native.Mathlib.Omega.{arith}
use lib.Dec.{T, eqb, ltb}
use lib.ListN.{length}
use borrow.Author.Tests.{ltb-true, eqb-true}
use Rattle.language.specs.Programs.{Func, Program, function_in, is_ssa}
use Rattle.language.specs.Checking.{Verdict}
use Rattle.language.specs.Table.{table_length, cells, decode}
use Rattle.language.specs.Translating.{translation, translation_fits}
use Rattle.language.specs.Answers.{Filled, verdict_numbers, check_answer, if_accepted, refused_table, fill, translate_function, translate_answer}
use Rattle.theorems.specs.Accepted.{names_before, Fault, TableRefused}
use Rattle.theorems.specs.OverTables.{TranslatableIn, CheckedIs0, TranslatedIs0}
use Rattle.theorems.proofs.FirstBroken.{numbers}
use Rattle.theorems.proofs.Refused.{table_refused_exactly}

-- The check refuses with 9 to 17.
fault_numbers : {p : Program} {i k r : ℕ} → Fault p i k r → (8 < k) × (k < 18)
fault_numbers (Fault.count h) = (omega arith, omega arith)
fault_numbers {p} (Fault.function i k r l h) = numbers (names_before p i) (function_in p i) k r h

table_numbers : {t : List ℕ} {k p : ℕ} → TableRefused t k p → (8 < k) × (k < 18)
table_numbers (TableRefused.size h) = (omega arith, omega arith)
table_numbers (TableRefused.program k p l h) = fault_numbers h.fault

pub refused_numbers : (t : List ℕ) (k p : ℕ) → check_answer t ≡ Verdict.refused k p → (8 < k) × (k < 18)
refused_numbers t k p e = table_numbers ((table_refused_exactly t k p).0 e)

pub checked_is_0 : CheckedIs0
unfolding verdict_numbers
checked_is_0 t = by (check_answer t) refl
  where
    by : (v : Verdict) → check_answer t ≡ v → (verdict_numbers v).number ≡ 0 → v ≡ Verdict.accepted
    by Verdict.accepted e h = refl
    by (Verdict.refused k p) e h = absurd (omega (arith, h, (refused_numbers t k p e).0))

module _ (t : List ℕ) (i n : ℕ) where
  abbrev source : Func
  source = function_in (decode t) i

  -- What the tests after the check come to.
  answer : Bool → Bool → Bool → Bool → Filled
  answer a b c d =
      cond a
      (cond b (cond c (cond d (record { answer = Verdict.accepted; table = cells (translation source ∷ []) }) (refused_table n 22 0)) (refused_table n 31 0)) (refused_table n 30 0))
      (refused_table n 21 0)

  all_passed :
      (a b c d : Bool) → ltb i (length (decode t)) ≡ a → is_ssa source ≡ b → translation_fits source ≡ c → eqb n table_length ≡ d
      → check_answer t ≡ Verdict.accepted
      → (verdict_numbers (answer a b c d).answer).number ≡ 0
      → TranslatableIn t i × (n ≡ table_length)
  unfolding verdict_numbers refused_table answer
  all_passed true true true true p q r s e h =
      (record { passes = e; there = ltb-true i (length (decode t)) p; marked = subst⁻¹ T q tt; sized = subst⁻¹ T r tt }, eqb-true n table_length s)
  all_passed true true true false p q r s e h = absurd (omega (arith, h))
  all_passed true true false d p q r s e h = absurd (omega (arith, h))
  all_passed true false c d p q r s e h = absurd (omega (arith, h))
  all_passed false b c d p q r s e h = absurd (omega (arith, h))

pub translated_is_0 : TranslatedIs0
unfolding verdict_numbers translate_answer translate_function fill refused_table answer
translated_is_0 t i n = by (check_answer t) refl
  where
    by :
        (v : Verdict)
        → check_answer t ≡ v
        → (verdict_numbers (if_accepted v (refused_table n) (translate_function (decode t) i n)).answer).number ≡ 0
        → TranslatableIn t i × (n ≡ table_length)
    by Verdict.accepted e h =
        let f = function_in (decode t) i in
        all_passed t i n (ltb i (length (decode t))) (is_ssa f) (translation_fits f) (eqb n table_length) refl refl refl refl e h
    by (Verdict.refused k p) e h = absurd (omega (arith, h, (refused_numbers t k p e).0))
