-- What translating gives, written and read back, runs as the translation does, and so as demand 3 says of the source.
-- Assumes nothing.
use mathlib.Core.Bool.{not, ◌&&◌}
use mathlib.Core.List.{List, [], ◌∷◌}
use mathlib.Core.Path.{◌≡◌, refl, sym, ◌∙◌, ap, subst, subst⁻¹}
use Prim.Native.Nat.{ℕ, ◌≤◌, ◌<◌}
use native.Mathlib.Omega.{arith}
use lib.Dec.{T, eqb}
use lib.ListN.{length, get_or}
use Rattle.laws.specs.Lists.{any}
use Rattle.language.specs.Programs.{Row, Func, Program, no_function, is_phi}
use Rattle.language.specs.Checking.{Verdict}
use Rattle.language.specs.Table.{table_length, decode}
use Rattle.language.specs.Running.{Outcome, Ends, NotEnded, arguments_fit}
use Rattle.language.specs.MadeNames.{named_function, named}
use Rattle.language.specs.Answers.{Filled, Wrote, run_answer, translate_answer, write_answer}
use Rattle.theorems.specs.Demand3.{RunsAlike}
use Rattle.theorems.specs.OverTables.{function_in_table, TranslatableIn, Translated, RunsAgree}
use Rattle.theorems.specs.RoundTrip.{AlikeButNames, RoundTrip, filled_table, TranslatedAsText, Demand3AsText}
use Rattle.theorems.proofs.AcceptanceCheck.{clean_of_check, sound_parts, accepted_program}
use Rattle.theorems.proofs.OverTables.{demand3_over_tables, run_answer_law, fits_translation, agree}
use Rattle.theorems.proofs.WritingAlike.{all_rows_alike, unfit_alike, names_do_not_matter}
use Rattle.theorems.proofs.WritingNamed.{only_names_filled}
use Rattle.theorems.proofs.RoundTrip.{round_trip}

-- ---- runs without a budget

module _ (f g : Func) (h : AlikeButNames f g) (args : List ℕ) where
  ends_alike : {n : ℕ} {o : Outcome} → Ends f args n o → Ends g args n o
  ends_alike {n} e = record { place = e.place; registers = e.registers; run = names_do_not_matter f g args n h ∙ e.run; steps = e.steps }

  ends_back : {n : ℕ} {o : Outcome} → Ends g args n o → Ends f args n o
  ends_back {n} e = record { place = e.place; registers = e.registers; run = sym (names_do_not_matter f g args n h) ∙ e.run; steps = e.steps }

  goes_alike : {n : ℕ} → NotEnded f args n → NotEnded g args n
  goes_alike {n} e = record { place = e.place; registers = e.registers; run = names_do_not_matter f g args n h ∙ e.run }

  -- a function that runs like f runs like g
  runs_alike : (source : Func) → RunsAlike source f args → RunsAlike source g args
  runs_alike source r =
      record {
        only_if = λ m o e. r.only_if m o (ends_back e);
        ends = λ n o e. ends_alike (r.ends n o e);
        at_least = r.at_least;
        at_most = r.at_most;
        not_ended = λ n e. goes_alike (r.not_ended n e);
      }

  fits_alike : T (arguments_fit f args) → T (arguments_fit g args)
  unfolding arguments_fit
  fits_alike = subst⁻¹ T (λ i. eqb (length args) (h.params i) && eqb (unfit_alike f g h args i) (length args))

-- ---- the table read back

module _ (t : List ℕ) (i n k : ℕ) (h : TranslatableIn t i) (written : (write_answer (translate_answer t i table_length).table n).answer ≡ Wrote.wrote k) where
  abbrev f : Func
  f = function_in_table t i

  abbrev u : List ℕ
  u = (translate_answer t i table_length).table

  abbrev v : List ℕ
  v = filled_table u

  translated : Translated t i (translate_answer t i table_length)
  translated = demand3_over_tables t i h

  back : RoundTrip u n k
  back = round_trip u n k written

  -- the program that v holds
  holding : decode v ≡ named_function (function_in_table u 0) ∷ []
  unfolding named
  holding = back.holds ∙ ap named translated.holds

  own : function_in_table v 0 ≡ named_function (function_in_table u 0)
  own = ap (λ (p : Program). get_or p 0 no_function) holding

  alike : AlikeButNames (function_in_table u 0) (function_in_table v 0)
  alike = subst⁻¹ (AlikeButNames (function_in_table u 0)) own (only_names_filled (function_in_table u 0))

  runs : (args : List ℕ) → T (arguments_fit f args) → RunsAlike f (function_in_table v 0) args
  runs args a = runs_alike (function_in_table u 0) (function_in_table v 0) alike args f (translated.translates.runs args a)

  fits : (args : List ℕ) → T (arguments_fit f args) → T (arguments_fit (function_in_table v 0) args)
  fits args a =
      let sound = sound_parts [] f (clean_of_check (decode t) i (accepted_program t h.passes) h.there).head in
      fits_alike (function_in_table u 0) (function_in_table v 0) alike args
      (subst⁻¹ (λ (g : Func). T (arguments_fit g args)) translated.translates.defined (fits_translation f args sound.params a))

  agreeing :
      (args : List ℕ) (b b' c c' : ℕ)
      → T (arguments_fit f args)
      → length f.registers ≤ c
      → length (function_in_table v 0).registers ≤ c'
      → RunsAgree (λ r. r) f (function_in_table v 0) args b b' (run_answer t i args b c).answer (run_answer v 0 args b' c').answer
  agreeing args b b' c c' a l l' =
      let one : 0 < length (decode v) = subst⁻¹ (λ (p : Program). 0 < length p) holding (omega arith) in
      rw (run_answer_law t i args b c h.passes h.there a l, run_answer_law v 0 args b' c' back.passes one (fits args a) l')
      (agree f (function_in_table v 0) args (runs args a) i 0 b b')

  as_text : TranslatedAsText t i u v
  as_text =
      record {
        passes = back.passes;
        holds = holding ∙ ap (λ (g : Func). g ∷ []) (sym own);
        defined = own ∙ ap named_function translated.translates.defined;
        no_phi =
            subst⁻¹ (λ (rs : List Row). T (not (any is_phi rs))) (all_rows_alike (function_in_table u 0) (function_in_table v 0) alike)
            translated.translates.no_phi;
        unmarked = alike.ssa ∙ translated.translates.unmarked;
        answers = λ args budget c. back.runs 0 args budget c;
        runs = runs;
        agree = agreeing;
      }

pub demand3_as_text : Demand3AsText
demand3_as_text t i n k h e =
    let given = sym (back t i n k h e).gives in (
      subst (λ (x : Filled). x.answer ≡ Verdict.accepted) given refl,
      subst (λ (x : Filled). TranslatedAsText t i (translate_answer t i table_length).table x.table) given (as_text t i n k h e),
    )
