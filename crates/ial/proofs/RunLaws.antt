-- What a run answers, case by case, where the table passes its check. Assumes nothing.
use mathlib.Core.Path.{◌≡◌, refl, sym, ap, subst, ◌∙◌}
use mathlib.Core.Bool.{true, cond}
use mathlib.Core.List.{List, [], ◌++◌}
use Prim.Native.Nat.{ℕ, ◌-◌, ◌≤◌, ◌<◌}
use native.Mathlib.Omega.{arith}
use lib.Dec.{eqb, ltb}
use lib.ListN.{length, replicate}
use borrow.Author.Tests.{lt-ltb, le-ltb, eq-eqb}
use Rattle.std.specs.Prelude.{Option, Some, None, IfSome, ⊤, Ok, Err}
use Rattle.std.specs.declared.result.Result.{Result}
use Rattle.std.specs.Option.{unwrap_or}
use Rattle.laws.proofs.Branches.{by_eq, by_ne, by_lt, by_not_lt}
use Rattle.language.specs.Programs.{Func, Program}
use Rattle.language.specs.Table.{function_at, function_count, function_params, register_count, decode, decode_function}
use Rattle.language.specs.Checking.{Verdict}
use Rattle.language.specs.Running.{first_unfit, arguments_fit, run_of}
use Rattle.language.specs.Answers.{zeros, Finished, refused_run, run_function, run_answer, check_answer, ran_as, left_in}
use Rattle.language.proofs.TableView.{function_count_law, function_is, register_count_law}
use Rattle.machine.specs.Runs.{ran_in, Answers}
use Rattle.machine.specs.declared.places.Place.{Place}
use Rattle.machine.specs.declared.places.Outcome.{Outcome}
use Rattle.machine.specs.declared.runs.Run.{Run}
use Rattle.machine.specs.declared.runs.Run.TheVariants as runs
use Rattle.answers.specs.declared.reasons.Refusal.{Refusal}
use Rattle.answers.specs.declared.reasons.Reason.TheVariants as reasons
use Rattle.answers.specs.declared.Ran.{Ran}
use Rattle.answers.specs.Reasons.{reason_number}
use Rattle.answers.specs.Cases.{verdict_of, ran_of}
use Rattle.answers.specs.Lent.{finished_of}
use Rattle.ial.specs.Runs.{stop_place, RunsTo}

-- ---- the registers at first

pub all_zero : (n : ℕ) {z : List ℕ} → z ≡ [] ++ replicate (n - 0) 0 → z ≡ zeros n
unfolding zeros
all_zero n h = h ∙ ap (λ (k : ℕ). replicate k 0) (let e : n - 0 ≡ n = omega arith in e)

-- ---- the answer of a run

pub ended_as : {r : Run} {o x : Outcome} {p : Place} → r ≡ runs.Ended o p → o ≡ x → r ≡ runs.Ended x p
ended_as {p} e h = e ∙ ap (λ (o : Outcome). runs.Ended o p) h

pub place_as : (i : ℕ) {r x : Run} → r ≡ x → stop_place (ran_in i r) < 32768 → stop_place (ran_in i x) < 32768
place_as i e h = subst (λ (x : Run). stop_place (ran_in i x) < 32768) e h

-- ---- the first argument that does not fit, if any

pub unfit_some : {r : Option ℕ} {u k : ℕ} (n : ℕ) → r ≡ Some u → unwrap_or r n ≡ k → u ≡ k
unfit_some n e h = rw e at h

pub unfit_below : {r : Option ℕ} {u n : ℕ} → r ≡ Some u → IfSome r (λ i. i < n) → u < n
unfit_below e h = rw e at h

pub unfit_none : {r : Option ℕ} {k : ℕ} (n : ℕ) → r ≡ None → unwrap_or r n ≡ k → k ≡ n
unfit_none n e h = sym (rw e at h)

-- ---- registers that may hold anything

module _ (p : Program) (i : ℕ) (args : List ℕ) (budget : ℕ) (g : List ℕ) (x : Result Ran Refusal) where
  -- A refusal leaves the registers.
  pub refused_to : ((z : List ℕ) → z ≡ zeros (length g) → finished_of x z ≡ run_function p i args budget (length g)) → RunsTo p i args budget g x g
  refused_to e =
      record {
        answer = ap (λ (f : Finished). f.answer) (e (zeros (length g)) refl);
        registers = λ z. ap (λ (f : Finished). f.registers) (e g z);
      }

  pub done_to : (h : List ℕ) → finished_of x h ≡ run_function p i args budget (length g) → RunsTo p i args budget g x h
  done_to h e = record { answer = ap (λ (f : Finished). f.answer) e; registers = λ z. ap (λ (f : Finished). f.registers) e }

  pub from_zeros : {h : List ℕ} → RunsTo p i args budget g x h → g ≡ zeros (length g) → finished_of x h ≡ run_function p i args budget (length g)
  from_zeros w z = λ j. record { answer = w.answer j; registers = w.registers z j }

-- ---- the check before it

module _ (t : List ℕ) (i : ℕ) (args : List ℕ) (budget n : ℕ) where
  pub run_refused : {v : Result ⊤ Refusal} {f : Refusal} {z : List ℕ} → verdict_of v ≡ check_answer t → v ≡ Err f → z ≡ zeros n
      → finished_of (Err f) z ≡ run_answer t i args budget n
  unfolding run_answer refused_run
  run_refused {v} {f} e r s = rw (s, sym e, r) refl

  pub run_accepted : {v : Result ⊤ Refusal} → verdict_of v ≡ check_answer t → v ≡ Ok tt → check_answer t ≡ Verdict.accepted
  run_accepted e r = sym e ∙ ap verdict_of r

  pub run_on : {x : Finished} → check_answer t ≡ Verdict.accepted → x ≡ run_function (decode t) i args budget n → x ≡ run_answer t i args budget n
  unfolding run_answer
  run_on e h = rw e h

  -- ---- "then 21; running then 20, 22"

  pub run_missing : {z : List ℕ} → function_count t ≤ i → z ≡ zeros n → finished_of (Err (record { reason = reasons.NoSuchFunction; place = 0 })) z ≡ run_function (decode t) i args budget n
  unfolding run_function refused_run
  run_missing h e = rw (e, function_count_law t, le-ltb i (function_count t) h) refl

  -- The tests of function f, in their order.
  abbrev tests : Func → Finished
  tests f =
      cond (eqb (length args) f.params)
      (cond (eqb (first_unfit f args) (length args))
      (cond (ltb n (length f.registers)) (refused_run n 22 0)
      (record { answer = ran_as i f (run_of f args budget); registers = left_in n (run_of f args budget) }))
      (refused_run n 20 (first_unfit f args)))
      (refused_run n 20 (length args))

  refused_as : {z : List ℕ} (x : Refusal) → z ≡ zeros n → finished_of (Err x) z ≡ refused_run n (reason_number x.reason) x.place
  unfolding refused_run
  refused_as x e = rw e refl

  module _ (l : i < function_count t) where
    abbrev f : Func
    f = decode_function t (function_at i)

    opened : run_function (decode t) i args budget n ≡ tests (decode_function t (function_at i))
    unfolding run_function
    opened = rw (function_count_law t, lt-ltb i (function_count t) l, function_is t i l) refl

    params_are : f.params ≡ function_params t (function_at i)
    unfolding decode_function
    params_are = refl

    pub run_count : {z : List ℕ} → (length args ≡ function_params t (function_at i) → ⊥) → z ≡ zeros n
        → finished_of (Err (record { reason = reasons.ArgumentsWrong; place = length args })) z ≡ run_function (decode t) i args budget n
    run_count {z} h e = by_ne _ _ _ (length args) f.params (λ s. h (s ∙ params_are)) (refused_as {z = z} (record { reason = reasons.ArgumentsWrong; place = length args }) e) ∙ sym opened

    module _ (same : length args ≡ function_params t (function_at i)) where
      counted : (x : Finished) (y : Finished) → x ≡ y → x ≡ cond (eqb (length args) f.params) y (refused_run n 20 (length args))
      counted x y e = by_eq x y (refused_run n 20 (length args)) (length args) f.params (same ∙ sym params_are) e

      pub run_unfit : {z : List ℕ} (u : ℕ) → u ≡ first_unfit (decode_function t (function_at i)) args → u < length args → z ≡ zeros n
          → finished_of (Err (record { reason = reasons.ArgumentsWrong; place = u })) z ≡ run_function (decode t) i args budget n
      run_unfit {z} u h k e =
          counted _ _ (by_ne _ _ _ (first_unfit f args) (length args) (λ s. omega arith) (refused_as {z = z} (record { reason = reasons.ArgumentsWrong; place = u }) e ∙ ap (refused_run n 20) h)) ∙ sym opened

      module _ (fits : first_unfit (decode_function t (function_at i)) args ≡ length args) where
        pub run_short : {z : List ℕ} → n < register_count t (function_at i) → z ≡ zeros n → finished_of (Err (record { reason = reasons.LengthWrong; place = 0 })) z ≡ run_function (decode t) i args budget n
        run_short {z} k e =
            counted _ _
            (by_eq _ _ _ (first_unfit f args) (length args) fits
            (by_lt _ _ _ n (length f.registers) (omega (arith, register_count_law t (function_at i))) (refused_as {z = z} (record { reason = reasons.LengthWrong; place = 0 }) e)))
            ∙ sym opened

        pub run_done : (x : Result Ran Refusal) (r : Run) (h : List ℕ) → ran_of x ≡ ran_in i r → register_count t (function_at i) ≤ n → Answers t (function_at i) args budget n r h
            → finished_of x h ≡ run_function (decode t) i args budget n
        run_done x r h e k w =
            counted _ _
            (by_eq _ _ _ (first_unfit f args) (length args) fits
            (by_not_lt _ _ _ n (length f.registers) (omega (arith, register_count_law t (function_at i))) (rw (e ∙ w.ran i, w.registers) refl)))
            ∙ sym opened

        pub arguments_fit_law : arguments_fit (decode_function t (function_at i)) args ≡ true
        unfolding arguments_fit
        arguments_fit_law = rw (eq-eqb (length args) f.params (same ∙ sym params_are), eq-eqb (first_unfit f args) (length args) fits) refl
