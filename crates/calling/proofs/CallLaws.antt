-- What a call by meaning answers, case by case, in a table that passes its check. Assumes nothing.
use mathlib.Core.Path.{◌≡◌, refl, sym, ap, ◌∙◌}
use mathlib.Core.Bool.{cond}
use mathlib.Core.List.{List}
use Prim.Native.Nat.{ℕ, ◌≤◌, ◌<◌}
use native.Mathlib.Omega.{arith}
use lib.Dec.{eqb}
use lib.ListN.{length, get_or, get_or-eq_default}
use borrow.Author.Tests.{lt-ltb, le-ltb}
use Rattle.laws.proofs.Branches.{by_eq, by_ne}
use Rattle.language.specs.Programs.{Func, Program, no_function, max_registers}
use Rattle.language.specs.Table.{function_at, function_count, function_result, function_params, register_count, decode_function, decode}
use Rattle.language.specs.Checking.{Verdict}
use Rattle.language.specs.Answers.{Ran as Ranᴸ, Finished, check_answer, run_function, run_answer}
use Rattle.language.proofs.TableView.{function_count_law, function_is}
use Rattle.flow.proofs.Accepted.{accepted_sized, accepted_params}
use Rattle.std.specs.declared.result.Result.{Result}
use Rattle.answers.specs.declared.reasons.Refusal.{Refusal}
use Rattle.answers.specs.declared.Ran.{Ran}
use Rattle.answers.specs.Cases.{ran_of}
use Rattle.answers.specs.Lent.{finished_of}
use Rattle.call_words.specs.Words.{function_by_word}
use Rattle.answer_lines.specs.Lines.{ran_line}
use Rattle.call_words.specs.Arguments.{Given, first_outside, arguments_of}
use Rattle.calling.specs.Calls.{call_function, run_line}

-- ---- the return type

module _ (t : List ℕ) (i : ℕ) where
  pub result_missing : function_count t ≤ i → 0 ≡ (get_or (decode t) i no_function).result
  result_missing h =
      let far : length (decode t) ≤ i = omega (arith, function_count_law t) in
      ap (λ (f : Func). f.result) (sym (get_or-eq_default (decode t) no_function {n = i} far))

  pub result_is : {r : ℕ} → i < function_count t → r ≡ function_result t (function_at i) → r ≡ (get_or (decode t) i no_function).result
  unfolding decode_function
  result_is l e = rw (function_is t i l) e

-- ---- the run

pub run_answered :
    (t : List ℕ) (i : ℕ) (args : List ℕ) (budget : ℕ) (r : Result Ran Refusal) {n : ℕ} {g : List ℕ}
    → check_answer t ≡ Verdict.accepted
    → n ≡ 256
    → finished_of r g ≡ run_answer t i args budget n
    → ran_of r ≡ (run_function (decode t) i args budget 256).answer
unfolding run_answer
run_answered t i args budget r e c h = ap (λ (x : Finished). x.answer) h ∙ rw (e, c) refl

-- ---- the tests before it

-- As many arguments as parameters have room in the registers.
module _ (t : List ℕ) (e : check_answer t ≡ Verdict.accepted) (i : ℕ) (l : i < function_count t) {n : ℕ} (same : n ≡ function_params t (function_at i)) where
  pub few_arguments : n ≤ register_count t (function_at i)
  few_arguments = omega (arith, accepted_params t e i l)

  pub most_arguments : n ≤ max_registers
  most_arguments = omega (arith, few_arguments, (accepted_sized t e i l).registers)

module _ (t : List ℕ) (i : ℕ) (g : Given) (budget : ℕ) where
  pub call_missing : function_count t ≤ i → Ranᴸ.refused 21 0 ≡ call_function (decode t) i g budget
  unfolding call_function
  call_missing h = rw (function_count_law t, le-ltb i (function_count t) h) refl

  module _ (l : i < function_count t) where
    abbrev f : Func
    f = decode_function t (function_at i)

    abbrev ran : Ranᴸ
    ran = (run_function (decode t) i (arguments_of f g) budget max_registers).answer

    opened :
        call_function (decode t) i g budget
        ≡ cond (eqb g.count f.params) (cond (eqb (first_outside f g) g.count) ran (Ranᴸ.refused 20 (first_outside f g))) (Ranᴸ.refused 20 g.count)
    unfolding call_function
    opened = rw (function_count_law t, lt-ltb i (function_count t) l, function_is t i l) refl

    params_are : f.params ≡ function_params t (function_at i)
    unfolding decode_function
    params_are = refl

    pub call_count : (g.count ≡ function_params t (function_at i) → ⊥) → Ranᴸ.refused 20 g.count ≡ call_function (decode t) i g budget
    call_count h = by_ne _ _ _ g.count f.params (λ s. h (s ∙ params_are)) refl ∙ sym opened

    module _ (same : g.count ≡ function_params t (function_at i)) where
      pub call_outside :
          (u : ℕ) → u ≡ first_outside (decode_function t (function_at i)) g → u < g.count → Ranᴸ.refused 20 u ≡ call_function (decode t) i g budget
      call_outside u e k =
          by_eq _ _ _ g.count f.params (same ∙ sym params_are)
          (by_ne _ _ _ (first_outside f g) g.count (λ s. omega arith) (ap (Ranᴸ.refused 20) e))
          ∙ sym opened

      pub call_run :
          (u : ℕ) {x : Ranᴸ} {args : List ℕ}
          → u ≡ first_outside (decode_function t (function_at i)) g
          → u ≡ g.count
          → args ≡ arguments_of (decode_function t (function_at i)) g
          → x ≡ (run_function (decode t) i args budget 256).answer
          → x ≡ call_function (decode t) i g budget
      call_run u e k h r =
          by_eq _ _ _ g.count f.params (same ∙ sym params_are)
          (by_eq _ _ _ (first_outside f g) g.count (sym e ∙ k) (rw h at r))
          ∙ sym opened

-- ---- its line

pub run_line_law :
    (p : Program) (word : List ℕ) (g : Given) (budget : ℕ) {i kind : ℕ} {x : Ranᴸ}
    → i ≡ function_by_word p word
    → kind ≡ (get_or p i no_function).result
    → x ≡ call_function p i g budget
    → run_line p word g budget ≡ ran_line kind x
unfolding run_line
run_line_law p word g budget e k h = rw (sym e, sym k, sym h) refl
