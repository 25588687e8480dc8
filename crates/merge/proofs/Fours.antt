-- Many tests at once are so many one after the other, each with the verdict of its own run. Assumes nothing.
use mathlib.Core.Bool.{cond}
use mathlib.Core.List.{List, [], ◌∷◌, ◌++◌, map}
use mathlib.Core.Path.{◌≡◌, refl, sym, ◌∙◌, ap, subst, subst⁻¹}
use Prim.Native.Nat.{ℕ, zero, suc, ◌+◌, ◌-◌, ◌*◌, ◌/◌, ◌%◌, ◌<◌, ◌≤◌}
use native.Mathlib.Nat.{not-suc-le-zero, le_of_suc-le-suc}
use native.Mathlib.Omega.{arith}
use lib.Dec.{eqb}
use lib.ListN.{length, get_or, take, drop, set, get_or-append, length-append, length-take, length-drop}
use lib.Seq.{get_or-append-add, ext_get_or, get_or-set_same, get_or-set_other, get_or-take, get_or-drop, length-take-le, take-append_seam}
use borrow.Author.Tests.{eq-eqb}
use Rattle.laws.specs.Lists.{from, below, gather}
use Rattle.laws.proofs.Ranges.{length_map_from, get_or_map_from, map_from_append, map_from_same}
use Rattle.language.specs.Programs.{max_registers}
use Rattle.language.specs.Answers.{Ran, ran_numbers, number_cells, run_answer, run_each, run_each_answer}
use Rattle.records.specs.Limits.{Test, fail_of, judged_test}
use Rattle.records.specs.Answers.{test_at, tests_of}
use Rattle.merge.specs.Tries.{readings_of, record_by, records_by}

map-map : {A B C : Type 0} (f : B → C) (g : A → B) (xs : List A) → map f (map g xs) ≡ map (λ x. f (g x)) xs
map-map f g [] = refl
map-map f g (x ∷ xs) = ap (λ ys. f (g x) ∷ ys) (map-map f g xs)

-- ---- the verdict by the value of a run

fail_by_value : (a : Ran) → cond (eqb (ran_numbers a).value 1) 0 1 ≡ fail_of a
unfolding ran_numbers
fail_by_value (Ran.returned v s) = refl
fail_by_value (Ran.left s) = refl
fail_by_value (Ran.stopped n p s) = refl
fail_by_value (Ran.refused n p) = refl

-- element k of the i-th four
get_or_fours :
    {A : Type 0} (f : A → List ℕ) → ((x : A) → length (f x) ≡ 4) → (xs : List A) (i k : ℕ) (a : A) → i < length xs → k < 4
    → get_or (gather f xs) (4 * i + k) 0 ≡ get_or (f (get_or xs i a)) k 0
get_or_fours f four [] i k a h l = absurd (not-suc-le-zero h)
get_or_fours f four (x ∷ xs) zero k a h l =
    let e : 4 * 0 + k ≡ k = omega arith in
    ap (λ (n : ℕ). get_or (f x ++ gather f xs) n 0) e ∙ get_or-append (f x) (gather f xs) 0 k (rw (four x) l)
get_or_fours f four (x ∷ xs) (suc i) k a h l =
    let e : 4 * suc i + k ≡ length (f x) + (4 * i + k) = omega (arith, four x) in
    ap (λ (n : ℕ). get_or (f x ++ gather f xs) n 0) e ∙ get_or-append-add (f x) (gather f xs) (4 * i + k) 0 ∙ get_or_fours f four xs i k a (le_of_suc-le-suc h) l

module _ (t : List ℕ) (i budget : ℕ) (ns : List ℕ) where
  abbrev answers_of : ℕ → List ℕ
  answers_of a = number_cells (ran_numbers (run_answer t i (a ∷ []) budget max_registers).answer)

  four_numbers : (a : ℕ) → length (answers_of a) ≡ 4
  unfolding number_cells
  four_numbers a = refl

  third : (a : ℕ) → get_or (answers_of a) 2 0 ≡ (ran_numbers (run_answer t i (a ∷ []) budget max_registers).answer).value
  unfolding number_cells
  third a = refl

  readings_are : readings_of ns ≡ map (λ j. get_or ns (4 * j + 3) 0) (below (length ns / 4))
  readings_are = map-map (λ (x : Test). x.reading) (test_at ns) (below (length ns / 4))

  -- the value of the j-th run
  value_at : (j : ℕ) → j < length ns / 4 → get_or (run_each t i (readings_of ns) budget max_registers) (4 * j + 2) 0
      ≡ (ran_numbers (run_answer t i (get_or ns (4 * j + 3) 0 ∷ []) budget max_registers).answer).value
  unfolding run_each
  value_at j l =
      let size : length (readings_of ns) ≡ length ns / 4 = ap length readings_are ∙ length_map_from (λ j. get_or ns (4 * j + 3) 0) 0 (length ns / 4) in
      let at : get_or (readings_of ns) j 0 ≡ get_or ns (4 * j + 3) 0 =
      ap (λ (l : List ℕ). get_or l j 0) readings_are ∙ get_or_map_from (λ j. get_or ns (4 * j + 3) 0) 0 0 (length ns / 4) j l ∙ ap (λ (j : ℕ). get_or ns (4 * j + 3) 0) (let e : 0 + j ≡ j = omega arith in e) in
      get_or_fours answers_of four_numbers (readings_of ns) j 2 0 (rw size l) (omega arith) ∙ ap (λ (a : ℕ). get_or (answers_of a) 2 0) at ∙ third (get_or ns (4 * j + 3) 0)

  record_judged : (j : ℕ) → j < length ns / 4 → record_by ns (run_each t i (readings_of ns) budget max_registers) j ≡ judged_test t i budget (test_at ns j)
  unfolding judged_test
  record_judged j l =
      let fails = ap (λ (v : ℕ). cond (eqb v 1) 0 1) (value_at j l) ∙ fail_by_value (run_answer t i (get_or ns (4 * j + 3) 0 ∷ []) budget max_registers).answer in
      ap
      (λ (f : ℕ).
      record {
        appliance = get_or ns (4 * j) 0;
        time = get_or ns (4 * j + 1) 0;
        fail = f;
        tablet = get_or ns (4 * j + 2) 0;
        reading = get_or ns (4 * j + 3) 0;
      })
      fails

  pub records_judged : records_by ns (run_each t i (readings_of ns) budget max_registers) ≡ map (judged_test t i budget) (tests_of ns)
  records_judged =
      map_from_same (record_by ns (run_each t i (readings_of ns) budget max_registers)) (λ j. judged_test t i budget (test_at ns j)) 0 (length ns / 4)
      (λ j l. let e : 0 + j ≡ j = omega arith in subst⁻¹ (λ (j : ℕ). record_by ns (run_each t i (readings_of ns) budget max_registers) j ≡ judged_test t i budget (test_at ns j)) e (record_judged j l))
      ∙ sym (map-map (judged_test t i budget) (test_at ns) (below (length ns / 4)))

-- ---- the readings, one after the other

-- the first j readings are taken
abbrev pub Taken : List ℕ → List ℕ → ℕ → Type 0
Taken ns out j = (k : ℕ) → k < j → get_or out k 0 ≡ get_or ns (4 * k + 3) 0

pub taken_more : (ns out : List ℕ) (j : ℕ) → j < length out → Taken ns out j → Taken ns (set out j (get_or ns (4 * j + 3) 0)) (j + 1)
taken_more ns out j l h k m = by (native.Mathlib.Decide.ℕ_discrete k j)
  where
    by : Dec (k ≡ j) → get_or (set out j (get_or ns (4 * j + 3) 0)) k 0 ≡ get_or ns (4 * k + 3) 0
    by (yes e) = rw e (get_or-set_same out j (get_or ns (4 * j + 3) 0) 0 l)
    by (no d) = get_or-set_other out j k (get_or ns (4 * j + 3) 0) 0 d ∙ h k (omega arith)

pub taken_all : (ns out : List ℕ) (j : ℕ) → length ns ≡ 4 * length out → length out ≤ j → Taken ns out j → out ≡ readings_of ns
taken_all ns out j e l h =
    let n : length ns / 4 ≡ length out = omega arith in
    let r : readings_of ns ≡ map (λ j. get_or ns (4 * j + 3) 0) (below (length out)) =
    map-map (λ (x : Test). x.reading) (test_at ns) (below (length ns / 4)) ∙ ap (λ (n : ℕ). map (λ j. get_or ns (4 * j + 3) 0) (below n)) n in
    ext_get_or 0 out (map (λ j. get_or ns (4 * j + 3) 0) (below (length out))) (sym (length_map_from (λ j. get_or ns (4 * j + 3) 0) 0 (length out)))
    (λ k m.
    let z : 0 + k ≡ k = omega arith in
    h k (omega arith) ∙ sym (get_or_map_from (λ j. get_or ns (4 * j + 3) 0) 0 0 (length out) k m ∙ ap (λ (j : ℕ). get_or ns (4 * j + 3) 0) z))
    ∙ sym r

-- ---- some of the tests, and those after them

-- the same tests by other numbers
shifted : (f g : ℕ → Test) (a k n : ℕ) → ((j : ℕ) → j < n → f (a + j) ≡ g (k + j)) → map f (from a n) ≡ map g (from k n)
shifted f g a k zero h = refl
shifted f g a k (suc n) h =
    let z : a + 0 ≡ a = omega arith in
    let y : k + 0 ≡ k = omega arith in
    let head : f a ≡ g k = ap f (sym z) ∙ h 0 (omega arith) ∙ ap g y in
    let tail : map f (from (suc a) n) ≡ map g (from (suc k) n) =
    shifted f g (suc a) (suc k) n
    (λ j l.
    let x : suc a + j ≡ a + suc j = omega arith in
    let w : k + suc j ≡ suc k + j = omega arith in
    ap f x ∙ h (suc j) (omega arith) ∙ ap g w) in
    λ i. head i ∷ tail i

module _ (ns : List ℕ) (k e : ℕ) (order : k ≤ e) (within : e ≤ length ns) (begins : k % 4 ≡ 0) (ends : e % 4 ≡ 0) where
  abbrev part : List ℕ
  part = take (e - k) (drop k ns)

  part_length : length part ≡ e - k
  part_length = simp (length-take, length-drop) (omega arith)

  number_at : (j : ℕ) → j < e - k → get_or part j 0 ≡ get_or ns (k + j) 0
  number_at j l = get_or-take (e - k) (drop k ns) j 0 l ∙ get_or-drop k ns j 0

  test_at_law : (j : ℕ) → j < (e - k) / 4 → test_at part j ≡ test_at ns (k / 4 + j)
  test_at_law j l =
      let at : (m : ℕ) → m < 4 → get_or part (4 * j + m) 0 ≡ get_or ns (4 * (k / 4 + j) + m) 0 =
      λ m h. number_at (4 * j + m) (omega arith) ∙ ap (λ (n : ℕ). get_or ns n 0) (let d : k + (4 * j + m) ≡ 4 * (k / 4 + j) + m = omega arith in d) in
      let zeroth : get_or part (4 * j) 0 ≡ get_or ns (4 * (k / 4 + j)) 0 =
      number_at (4 * j) (omega arith) ∙ ap (λ (n : ℕ). get_or ns n 0) (let d : k + 4 * j ≡ 4 * (k / 4 + j) = omega arith in d) in
      λ i. record { appliance = zeroth i; time = at 1 (omega arith) i; tablet = at 2 (omega arith) i; reading = at 3 (omega arith) i }

  part_tests : tests_of part ≡ map (test_at ns) (from (k / 4) ((e - k) / 4))
  part_tests =
      let n : length part / 4 ≡ (e - k) / 4 = ap (λ (n : ℕ). n / 4) part_length in
      let m = (e - k) / 4 in
      ap (λ (n : ℕ). map (test_at part) (below n)) n
      ∙ shifted (test_at part) (test_at ns) 0 (k / 4) m (λ j l. let z : 0 + j ≡ j = omega arith in ap (test_at part) z ∙ test_at_law j l)

  pub tests_split :
      length ns % 4 ≡ 0
      → map (test_at ns) (from (k / 4) (length ns / 4 - k / 4)) ≡ tests_of part ++ map (test_at ns) (from (e / 4) (length ns / 4 - e / 4))
  tests_split four =
      let n : length ns / 4 - k / 4 ≡ (e - k) / 4 + (length ns / 4 - e / 4) = omega arith in
      let at : k / 4 + (e - k) / 4 ≡ e / 4 = omega arith in
      ap (λ (n : ℕ). map (test_at ns) (from (k / 4) n)) n
      ∙ map_from_append (test_at ns) (k / 4) ((e - k) / 4) (length ns / 4 - e / 4)
      ∙ ap (λ (a : ℕ). map (test_at ns) (from (k / 4) ((e - k) / 4)) ++ map (test_at ns) (from a (length ns / 4 - e / 4))) at
      ∙ ap (λ (xs : List Test). xs ++ map (test_at ns) (from (e / 4) (length ns / 4 - e / 4))) (sym part_tests)

-- ---- the verdicts of lent numbers

-- the front of lent numbers
pub front_length : (xs : List ℕ) (n : ℕ) → n ≤ length xs → n ≡ length (take n xs)
front_length xs n l = sym (length-take-le n xs l)

pub front_is : (xs ys : List ℕ) (n : ℕ) → length xs ≡ n → take n (xs ++ ys) ≡ xs
front_is xs ys n e = subst (λ (n : ℕ). take n (xs ++ ys) ≡ xs) e (take-append_seam xs ys)

pub front_still : (xs ys : List ℕ) (n : ℕ) → length xs ≡ n → n ≡ length (take n (xs ++ ys))
front_still xs ys n e = sym (ap length (front_is xs ys n e) ∙ e)

-- what many runs answered, where as many numbers were lent
runs_answered : (t : List ℕ) (i : ℕ) (args : List ℕ) (budget n m : ℕ) → m ≡ 4 * length args → (run_each_answer t i args budget n m).numbers ≡ run_each t i args budget n
unfolding run_each_answer
runs_answered t i args budget n m e = rw (eq-eqb m (4 * length args) e) refl

pub judged_together :
    (t : List ℕ) (i budget : ℕ) (ns args vs : List ℕ) (n m : ℕ) → length ns % 4 ≡ 0 → args ≡ readings_of ns → n ≡ max_registers → m ≡ length ns
    → vs ≡ (run_each_answer t i args budget n m).numbers → records_by ns vs ≡ map (judged_test t i budget) (tests_of ns)
judged_together t i budget ns args vs n m four a r l e =
    let size : length args ≡ length ns / 4 = ap length (a ∙ readings_are t i budget ns) ∙ length_map_from (λ j. get_or ns (4 * j + 3) 0) 0 (length ns / 4) in
    let count : m ≡ 4 * length args = omega (arith, size, l, four) in
    ap (records_by ns)
    (e ∙ runs_answered t i args budget n m count ∙ ap (λ (args : List ℕ). run_each t i args budget n) a ∙ ap (λ (n : ℕ). run_each t i (readings_of ns) budget n) r)
    ∙ records_judged t i budget ns

pub front_within : (xs ys : List ℕ) (n : ℕ) → length xs ≡ n → n ≤ length (xs ++ ys)
front_within xs ys n e = simp length-append (omega (arith, e))
