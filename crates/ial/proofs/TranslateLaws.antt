-- What translating answers, case by case, where the table passes its check. Assumes nothing.
use mathlib.Core.Path.{◌≡◌, refl, sym, ◌∙◌}
use mathlib.Core.Bool.{true, false, cond}
use mathlib.Core.List.{List, [], ◌∷◌}
use Prim.Native.Nat.{ℕ, ◌≤◌, ◌<◌}
use lib.Dec.{T}
use borrow.Author.Tests.{lt-ltb, le-ltb, eq-eqb}
use Rattle.laws.proofs.Branches.{by_true, by_false, by_eq, by_ne}
use Rattle.laws.proofs.Tests.{of_true}
use Rattle.language.specs.Programs.{Func, is_ssa}
use Rattle.language.specs.Table.{table_length, function_at, function_count, function_ssa, cells, decode, decode_function}
use Rattle.language.specs.Checking.{Verdict}
use Rattle.language.specs.Translating.{translation, translation_fits}
use Rattle.language.specs.Answers.{zeros, Filled, refused_table, fill, translate_function, translate_answer, check_answer}
use Rattle.language.proofs.TableView.{function_count_law, function_is}
use Rattle.translator.specs.Source.{TranslatableAt}
use Rattle.std.specs.Prelude.{⊤, Ok, Err}
use Rattle.std.specs.declared.result.Result.{Result}
use Rattle.answers.specs.declared.reasons.Refusal.{Refusal}
use Rattle.answers.specs.declared.reasons.Reason.TheVariants as reasons
use Rattle.answers.specs.Reasons.{reason_number}
use Rattle.answers.specs.Cases.{verdict_of}
use Rattle.answers.specs.Lent.{filled_of}
use Rattle.flow.proofs.Accepted.{accepted_sized, accepted_clean}

module _ (t : List ℕ) (i n : ℕ) where
  pub translate_refused : {v : Result ⊤ Refusal} {e : Refusal} {z : List ℕ} → verdict_of v ≡ check_answer t → v ≡ Err e → z ≡ zeros n
      → filled_of (Err e) z ≡ translate_answer t i n
  unfolding translate_answer refused_table
  translate_refused c r s = rw (s, sym c, r) refl

  pub translate_on : {x : Filled} → check_answer t ≡ Verdict.accepted → x ≡ translate_function (decode t) i n → x ≡ translate_answer t i n
  unfolding translate_answer
  translate_on e h = rw e h

  -- ---- "then 21; .. translating then 30, 31, 22"

  refused_as : {z : List ℕ} (x : Refusal) → z ≡ zeros n → filled_of (Err x) z ≡ refused_table n (reason_number x.reason) x.place
  unfolding refused_table
  refused_as x e = rw e refl

  pub translate_missing : {z : List ℕ} → function_count t ≤ i → z ≡ zeros n → filled_of (Err (record { reason = reasons.NoSuchFunction; place = 0 })) z ≡ translate_function (decode t) i n
  unfolding translate_function refused_table
  translate_missing h e = rw (e, function_count_law t, le-ltb i (function_count t) h) refl

  -- The tests of function f, in their order.
  abbrev tests : Func → Filled
  tests f = cond (is_ssa f) (cond (translation_fits f) (fill n (translation f ∷ [])) (refused_table n 31 0)) (refused_table n 30 0)

  module _ (l : i < function_count t) where
    abbrev f : Func
    f = decode_function t (function_at i)

    opened : translate_function (decode t) i n ≡ tests (decode_function t (function_at i))
    unfolding translate_function
    opened = rw (function_count_law t, lt-ltb i (function_count t) l, function_is t i l) refl

    ssa_is : f.ssa ≡ function_ssa t (function_at i)
    unfolding decode_function
    ssa_is = refl

    pub translate_plain : {z : List ℕ} → (function_ssa t (function_at i) ≡ 1 → ⊥) → z ≡ zeros n → filled_of (Err (record { reason = reasons.NotSsa; place = 0 })) z ≡ translate_function (decode t) i n
    translate_plain {z} h e = by_ne _ _ _ f.ssa 1 (λ s. h (sym ssa_is ∙ s)) (refused_as {z = z} (record { reason = reasons.NotSsa; place = 0 }) e) ∙ sym opened

    module _ (marked : function_ssa t (function_at i) ≡ 1) where
      ssa : (x y : Filled) → x ≡ y → x ≡ cond (is_ssa f) y (refused_table n 30 0)
      ssa x y e = by_eq x y (refused_table n 30 0) f.ssa 1 (ssa_is ∙ marked) e

      pub is_marked : T (is_ssa (decode_function t (function_at i)))
      is_marked = of_true (is_ssa f) (eq-eqb f.ssa 1 (ssa_is ∙ marked))

      pub translate_large : {z : List ℕ} → translation_fits (decode_function t (function_at i)) ≡ false → z ≡ zeros n
          → filled_of (Err (record { reason = reasons.TranslationTooLarge; place = 0 })) z ≡ translate_function (decode t) i n
      translate_large {z} h e = ssa _ _ (by_false _ _ _ (translation_fits f) h (refused_as {z = z} (record { reason = reasons.TranslationTooLarge; place = 0 }) e)) ∙ sym opened

      module _ (fits : translation_fits (decode_function t (function_at i)) ≡ true) where
        pub translate_other : {z : List ℕ} → (n ≡ table_length → ⊥) → z ≡ zeros n → filled_of (Err (record { reason = reasons.LengthWrong; place = 0 })) z ≡ translate_function (decode t) i n
        unfolding fill
        translate_other {z} h e =
            ssa _ _ (by_true _ _ _ (translation_fits f) fits (by_ne _ _ _ n table_length h (refused_as {z = z} (record { reason = reasons.LengthWrong; place = 0 }) e))) ∙ sym opened

        pub translate_done : {z : List ℕ} → n ≡ table_length → z ≡ cells (translation (decode_function t (function_at i)) ∷ [])
            → filled_of (Ok tt) z ≡ translate_function (decode t) i n
        unfolding fill
        translate_done h e = ssa _ _ (by_true _ _ _ (translation_fits f) fits (by_eq _ _ _ n table_length h (rw e refl))) ∙ sym opened

        pub translatable : check_answer t ≡ Verdict.accepted → TranslatableAt t (function_at i)
        translatable e =
            record { sized = accepted_sized t e i l; clean = accepted_clean t e i l; ssa = is_marked; fits = of_true (translation_fits f) fits }
