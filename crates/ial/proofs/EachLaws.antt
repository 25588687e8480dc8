-- Many runs at once: four numbers for each argument, one after the other. Assumes nothing.
use mathlib.Core.Path.{◌≡◌, refl, sym, ap, ◌∙◌}
use mathlib.Core.Bool.{true, false}
use mathlib.Core.List.{List, [], ◌∷◌, ◌++◌}
use Prim.Native.Nat.{ℕ, ◌+◌, ◌-◌, ◌*◌, ◌/◌, ◌%◌, ◌≤◌, ◌<◌}
use native.Mathlib.Numerals.{add-one}
use native.Mathlib.Omega.{arith}
use lib.Dec.{eqb}
use borrow.Author.Tests.{eq-eqb, eqb-true}
use lib.ListN.{length, get_or, take, drop, length-append}
use lib.Seq.{sets, sets-eq, take-suc, take_at, take_all, take-length, drop-cons, length-take-le}
use Rattle.laws.proofs.Joining.{equal_tests}
use Rattle.laws.proofs.Appending.{gather_append}
use Rattle.language.specs.Programs.{Program}
use Rattle.language.specs.Checking.{Verdict}
use Rattle.language.specs.Table.{function_count, decode}
use Rattle.language.specs.Answers.{Answer, Ran, Finished, zeros, check_answer, number_cells, ran_numbers, refused_run, run_function, run_answer, run_each, run_each_answer, verdict_numbers}
use Rattle.std.specs.Prelude.{⊤, Ok, Err}
use Rattle.std.specs.declared.result.Result.{Result}
use Rattle.answers.specs.declared.reasons.Refusal.{Refusal}
use Rattle.answers.specs.declared.reasons.Reason.TheVariants as reasons
use Rattle.answers.specs.Reasons.{reason_number}
use Rattle.answers.specs.Cases.{verdict_of}
use Rattle.answers.specs.Lent.{listed_of}
use Rattle.ial.specs.Runs.{cells_from}
use Rattle.ial.proofs.RunLaws.{run_missing}

same_cells : (f g : ℕ → Answer) → ((a : ℕ) → f a ≡ g a) → (args : List ℕ) → cells_from f args ≡ cells_from g args
same_cells f g e args = ap (λ (h : ℕ → Answer). cells_from h args) (λ i a. e a i)

-- The part with argument k alone.
pub one_argument : (args : List ℕ) (k : ℕ) → k < length args → take (k + 1 - k) (drop k args) ≡ get_or args k 0 ∷ []
one_argument args k h =
    let one : k + 1 - k ≡ 1 = omega arith in
    rw (one, drop-cons args k 0 h) refl

-- A number with nothing left over is four times n exactly if its fourth is n.
pub four_each : (m n : ℕ) → m % 4 ≡ 0 → eqb (m / 4) n ≡ eqb m (4 * n)
four_each m n h = equal_tests (eqb (m / 4) n) (eqb m (4 * n)) (λ e. eq-eqb m (4 * n) (omega (arith, eqb-true (m / 4) n e))) (λ e. eq-eqb (m / 4) n (omega (arith, eqb-true m (4 * n) e)))

-- ---- the numbers of one argument after those of others

module _ (f : ℕ → Answer) (args : List ℕ) (out : List ℕ) (count : length out ≡ 4 * length args) where
  pub each_more : (k : ℕ) {out' : List ℕ} → k < length args → take (4 * k) out ≡ cells_from f (take k args) → out' ≡ sets out (4 * k) (number_cells (f (get_or args k 0)))
      → take (4 * (k + 1)) out' ≡ cells_from f (take (k + 1) args)
  unfolding number_cells
  each_more k h e s =
      let x = get_or args k 0 in
      let vs : List ℕ = number_cells (f x) in
      let split : sets out (4 * k) vs ≡ take (4 * k) out ++ vs ++ drop (4 * k + 4) out = sets-eq vs out (4 * k) (omega arith) in
      let size : length (take (4 * k) out ++ vs) ≡ 4 * (k + 1) = length-append (take (4 * k) out) vs ∙ omega (arith, length-take-le (4 * k) out (omega arith)) in
      let first : take (4 * (k + 1)) (sets out (4 * k) vs) ≡ take (4 * k) out ++ vs =
      ap (take (4 * (k + 1))) split ∙ take_at (take (4 * k) out ++ vs) (drop (4 * k + 4) out) (4 * (k + 1)) size in
      let later : cells_from f (take (k + 1) args) ≡ cells_from f (take k args) ++ vs =
      rw (add-one k, take-suc args k 0 h, gather_append) refl in
      ap (take (4 * (k + 1))) s ∙ first ∙ ap (λ (l : List ℕ). l ++ vs) e ∙ sym later

  pub each_all : (k : ℕ) → k ≡ length args → take (4 * k) out ≡ cells_from f (take k args) → out ≡ cells_from f args
  each_all k h e =
      let whole : take (4 * k) out ≡ out = take_all (4 * k) out (omega arith) in
      sym whole ∙ e ∙ ap (cells_from f) (ap (λ (n : ℕ). take n args) h ∙ take-length args)

-- What is stored for argument k: the answer of a run on it alone, in registers of the same count.
pub run_cells : (p : Program) (i budget : ℕ) (args : List ℕ) (k : ℕ) (out : List ℕ) {n m : ℕ} {x : Answer} {y : Ran} {z : List ℕ}
    → x ≡ ran_numbers y
    → y ≡ (run_function p i z budget m).answer
    → m ≡ n
    → z ≡ get_or args k 0 ∷ []
    → sets out (4 * k) (number_cells x) ≡ sets out (4 * k) (number_cells (ran_numbers (run_function p i (get_or args k 0 ∷ []) budget n).answer))
run_cells p i budget args k out a b c d = rw (a, b, c, d) refl

-- ---- what they are by the table's check

module _ (t : List ℕ) (i : ℕ) (args : List ℕ) (budget n : ℕ) where
  -- the answer of a run on one argument, where the table passes its check and for any
  abbrev checked : ℕ → Answer
  checked a = ran_numbers (run_function (decode t) i (a ∷ []) budget n).answer

  abbrev answered : ℕ → Answer
  answered a = ran_numbers (run_answer t i (a ∷ []) budget n).answer

  missing : function_count t ≤ i → (a : ℕ) → verdict_numbers (Verdict.refused 21 0) ≡ checked a
  unfolding verdict_numbers ran_numbers
  missing h a = ap (λ (f : Finished). ran_numbers f.answer) (run_missing t i (a ∷ []) budget n {z = zeros n} h refl)

  pub all_missing : {x : Answer} {out : List ℕ} → function_count t ≤ i → x ≡ record { number = 21; place = 0; value = 0; steps = 0 } → out ≡ cells_from (λ a. x) args
      → out ≡ cells_from (λ a. ran_numbers (run_function (decode t) i (a ∷ []) budget n).answer) args
  unfolding verdict_numbers
  all_missing {x} h e s = s ∙ same_cells (λ a. x) checked (λ a. e ∙ missing h a) args

  refused : {k p : ℕ} → check_answer t ≡ Verdict.refused k p → (a : ℕ) → verdict_numbers (Verdict.refused k p) ≡ answered a
  unfolding verdict_numbers ran_numbers run_answer refused_run
  refused e a = rw e refl

  pub all_refused : {v : Result ⊤ Refusal} {f : Refusal} {x : Answer} {out : List ℕ}
      → verdict_of v ≡ check_answer t → v ≡ Err f → x ≡ record { number = reason_number f.reason; place = f.place; value = 0; steps = 0 } → out ≡ cells_from (λ a. x) args
      → out ≡ run_each t i args budget n
  unfolding run_each verdict_numbers
  all_refused {x} c r e s = s ∙ same_cells (λ a. x) answered (λ a. e ∙ refused (sym c ∙ ap verdict_of r) a) args

  accepted : check_answer t ≡ Verdict.accepted → (a : ℕ) → checked a ≡ answered a
  unfolding run_answer
  accepted e a = rw e refl

  pub all_accepted : {out : List ℕ} → check_answer t ≡ Verdict.accepted
      → out ≡ cells_from (λ a. ran_numbers (run_function (decode t) i (a ∷ []) budget n).answer) args
      → out ≡ run_each t i args budget n
  unfolding run_each
  all_accepted e s = s ∙ same_cells checked answered (accepted e) args

  -- ---- 22

  module _ (m : ℕ) where
    pub each_short : {out : List ℕ} → eqb m (4 * length args) ≡ false → out ≡ zeros m → listed_of (Err (record { reason = reasons.LengthWrong; place = 0 })) out ≡ run_each_answer t i args budget n m
    unfolding run_each_answer
    each_short e s = rw (e, s) refl

    pub each_done : {out : List ℕ} → eqb m (4 * length args) ≡ true → out ≡ run_each t i args budget n → listed_of (Ok tt) out ≡ run_each_answer t i args budget n m
    unfolding run_each_answer
    each_done e s = rw (e, s) refl
