-- Demand 3 for the entry points themselves: from their contracts and demand 3 over tables. Assumes nothing.
use mathlib.Core.Path.{◌≡◌, sym, ap, subst⁻¹, ◌∙◌}
use mathlib.Core.List.{List}
use Prim.Native.Nat.{ℕ}
use native.Mathlib.Omega.{arith}
use Rattle.language.specs.Checking.{Verdict as Verdictᴸ}
use Rattle.language.specs.Running.{Outcome}
use Rattle.language.specs.Answers.{Answer, Filled, Finished, run_answer, translate_answer, verdict_numbers, ran_numbers}
use Rattle.language.specs.Table.{table_length}
use Rattle.theorems.specs.OverTables.{function_in_table, Translated}
use Rattle.theorems.proofs.NoRefusal.{checked_is_0, translated_is_0}
use Rattle.theorems.proofs.StopNumbers.{answered_is_43, never_27}
use Rattle.theorems.proofs.OverTables.{demand3_over_tables, runs_over_tables, Tells, runs_told}
use Rattle.std.specs.Prelude.{Ok}
use Rattle.answers.specs.Lent.{filled_of}
use Rattle.ial.proofs.Known.{verdict_known}
use Rattle.ial.specs.Demand.{Demand3OfCalls, Demand3OfSymbols, SymbolChecked, CallTranslated, SymbolTranslated, Call43, Symbol43, CallNever27, SymbolNever27}

pub demand3_of_calls : Demand3OfCalls
demand3_of_calls t i r out h e =
    let table : Translated t i (filled_of r out) = subst⁻¹ (Translated t i) e (demand3_over_tables t i h) in
    record {
      done = verdict_known r (Ok tt) table.done;
      translated = table;
      checked = λ v c. verdict_known v (Ok tt) (c ∙ table.passes);
      runs =
          λ args b b' c c' x y g k a u v l l'.
          rw (ap (λ (z : Finished). z.answer) u, ap (λ (z : Finished). z.answer) v)
          (runs_over_tables t i (filled_of r out) args b b' c c' h table a l l');
    }

-- By the four numbers an end and a budget used up are told apart.
numbers_tell : Tells ran_numbers
unfolding ran_numbers
numbers_tell (Outcome.returned v) p n q s e = absurd (omega (arith, ap (λ (a : Answer). a.number) e))
numbers_tell Outcome.left p n q s e = absurd (omega (arith, ap (λ (a : Answer). a.number) e))
numbers_tell (Outcome.stopped k) p n q s e = ap Outcome.stopped (ap (λ (a : Answer). a.number) e)

pub demand3_of_symbols : Demand3OfSymbols
demand3_of_symbols t i r out h e =
    let d = demand3_over_tables t i h in
    let x = translate_answer t i table_length in
    let filled : Filled = record { answer = Verdictᴸ.accepted; table = out } in
    let same : filled ≡ x =
    ap (λ (v : Verdictᴸ). record { answer = v; table = out }) (sym d.done) ∙ ap (λ (z : List ℕ). record { answer = x.answer; table = z }) e.1
    in
    let table : Translated t i filled = subst⁻¹ (Translated t i) same d in
    record {
      done = e.0 ∙ ap verdict_numbers d.done;
      translated = table;
      checked = λ v c. c ∙ ap verdict_numbers table.passes;
      runs =
          λ args b b' c c' x y g k a u v l l'.
          rw (u.0, v.0)
          (runs_told ran_numbers numbers_tell (function_in_table t i) (function_in_table out 0) args b b' (run_answer t i args b c).answer (run_answer out 0 args b' c').answer
          (runs_over_tables t i filled args b b' c c' h table a l l'));
    }

-- ---- 0

pub symbol_checked : SymbolChecked
symbol_checked t v u n = checked_is_0 t (sym (ap (λ (a : Answer). a.number) u) ∙ n)

pub call_translated : CallTranslated
unfolding verdict_numbers
call_translated t i n out e = translated_is_0 t i n (sym (ap (λ (x : Filled). (verdict_numbers x.answer).number) e))

pub symbol_translated : SymbolTranslated
symbol_translated t i n r out u e = translated_is_0 t i n (sym (ap (λ (a : Answer). a.number) u.0) ∙ e)

-- ---- 43

pub call_43 : Call43
unfolding ran_numbers
call_43 t i args b c p s g u =
    let e = ap (λ (z : Finished). ran_numbers z.answer) u in
    let d = answered_is_43 t i args b c (sym (ap (λ (a : Answer). a.number) e)) in
    (d.0, ap (λ (a : Answer). a.steps) e ∙ d.1)

pub symbol_43 : Symbol43
symbol_43 t i args b c x g u n =
    let d = answered_is_43 t i args b c (sym (ap (λ (a : Answer). a.number) u.0) ∙ n) in
    (d.0, ap (λ (a : Answer). a.steps) u.0 ∙ d.1)

-- ---- 27

pub call_never_27 : CallNever27
call_never_27 t i args b c x g u e = never_27 t i args b c (sym (ap (λ (z : Finished). (ran_numbers z.answer).number) u) ∙ e)

pub symbol_never_27 : SymbolNever27
symbol_never_27 t i args b c x g u e = never_27 t i args b c (sym (ap (λ (a : Answer). a.number) u.0) ∙ e)
