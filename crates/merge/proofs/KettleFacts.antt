-- The inspector's case, by computation: "Kettle 0417 failed its earth test on my tablet at 14:10. Why does the office record show the 09:30 pass?"
-- (document 00). The verdicts come of a limit function that exchanges two registers at the head of a loop, as written and translated.
-- Assumes nothing.
use mathlib.Core.Bool.{true}
use mathlib.Core.List.{List, [], ◌∷◌, map}
use mathlib.Core.Logic.{◌⊎◌, inl, inr, ◌↔◌}
use mathlib.Core.Path.{◌≡◌, refl, sym, ◌∙◌, ap, subst, subst⁻¹}
use Prim.Native.Nat.{ℕ, ◌<◌, ◌^◌}
use native.Mathlib.Omega.{arith}
use lib.Dec.{T}
use lib.ListN.{get_or}
use Rattle.laws.specs.Lists.{member}
use Rattle.language.specs.Instructions.{int64, uint}
use Rattle.language.specs.Programs.{Row, Func, Program, max_registers, no_function, is_ssa, has_signature}
use Rattle.language.specs.Table.{cells, decode}
use Rattle.language.specs.Checking.{Verdict, check}
use Rattle.language.specs.Running.{Outcome, Run, Ends, run_of}
use Rattle.language.specs.Answers.{Ran, ran_as}
use Rattle.language.specs.Translating.{translation, translation_fits}
use Rattle.language.proofs.Computing.{computing}
use Rattle.language.proofs.Examples.{named}
use Rattle.theorems.specs.OverTables.{function_in_table, TranslatableIn}
use Rattle.theorems.proofs.TableSound.{accepted_held}
use Rattle.theorems.proofs.OverTables.{demand3_over_tables, run_answer_law}
use Rattle.theorems.proofs.Turn.{translatable_cells}
use Rattle.records.specs.declared.Record.{Record}
use Rattle.records.specs.Records.{compared, meant, larger, wins, best}
use Rattle.records.specs.Stores.{FoundRecord, inserts, lookup}
use Rattle.records.specs.Limits.{Test, limit_answer, fail_of, judged_test}
use Rattle.records.specs.Answers.{Looked}
use Rattle.records.specs.Trees.{In, Winner, store_of}
use Rattle.records.proofs.RecordFacts.{ways}
use Rattle.records.proofs.Order.{wins_self}
use Rattle.records.proofs.Trees.{one_winner}
use Rattle.merge.specs.declared.figures.Merged.{Merged}
use Rattle.merge.specs.declared.figures.Look.{Look}
use Rattle.merge.specs.Calls.{merged_verdict, look_of, StoreCalled, LookCalled}
use Rattle.merge.specs.Histories.{History, Leaves, accepted_in, Merges, SizedTest, SizedTests}
use Rattle.merge.specs.Translated.{Suffices, TranslatedTo}
use Rattle.merge.specs.Possible.{Whole}
use Rattle.merge.proofs.Histories.{merged_in, in_merged, accepted_sized}
use Rattle.merge.proofs.OfCalls.{look_of_calls}
use Rattle.merge.proofs.Translated.{Limit, limit_allowed, limit_room, reading_fits, verdicts_translated, leaves_translated, stores_translated}
use Rattle.merge.proofs.Possible.{can_be_left}

-- ---- the limit function

-- An earth resistance of at most 100 milliohm passes: reading n 0; x 1, y 2, k 3; top 4, one 5, z 6, m 7; c 8, v 9. The loop's one round exchanges
-- x and y, top and n at first; then v says that x is not above y.
unfoldable pub limit : Func
limit =
    named "limit" 1 uint 1 (int64 ∷ int64 ∷ int64 ∷ int64 ∷ int64 ∷ int64 ∷ int64 ∷ int64 ∷ uint ∷ uint ∷ [])
    ((Row.load 7 4 100 ∷ Row.load 7 5 1 ∷ Row.load 7 6 0 ∷ Row.jump 1 ∷ [])
    ∷ (Row.phi 1 (4 ∷ 2 ∷ []) ∷ Row.phi 2 (0 ∷ 1 ∷ []) ∷ Row.phi 3 (5 ∷ 7 ∷ []) ∷ Row.binary 23 8 3 6 ∷ Row.branch 8 3 2 ∷ [])
    ∷ (Row.binary 10 7 3 5 ∷ Row.jump 1 ∷ [])
    ∷ (Row.binary 28 9 1 2 ∷ Row.return 9 ∷ [])
    ∷ [])

pub limit_accepted : check (limit ∷ []) ≡ Verdict.accepted
unfolding computing limit
limit_accepted = refl

pub limit_signature : has_signature limit uint (int64 ∷ []) ≡ true
unfolding has_signature limit
limit_signature = refl

-- ---- the readings

-- Minutes of the day, tablet, milliohm.
abbrev kettle : ℕ → ℕ → ℕ → Test
kettle t b n = record { appliance = 417; time = t; tablet = b; reading = n }

abbrev pub morning : Test
morning = kettle 570 1 90

abbrev pub afternoon : Test
afternoon = kettle 850 2 450

-- A run on a test's reading, and the record by its verdict.
abbrev pub ran_on : Func → ℕ → Test → Ran
ran_on f budget x = ran_as 0 f (run_of f (x.reading ∷ []) budget)

abbrev pub judged_by : Func → ℕ → Test → Record
judged_by f budget x =
    record {
      appliance = x.appliance;
      time = x.time;
      fail = fail_of (ran_on f budget x);
      tablet = x.tablet;
      reading = x.reading;
    }

-- "The office runs the function as written, with phi.": the morning's reading is a pass, the afternoon's is none.
pub morning_passes : ran_on limit 18 morning ≡ Ran.returned 1 18
unfolding computing limit
morning_passes = refl

pub afternoon_fails : ran_on limit 18 afternoon ≡ Ran.returned 0 18
unfolding computing limit
afternoon_fails = refl

-- "The tablet runs a translated form without phi.": the same, within three times as many steps.
pub morning_passes_translated : ran_on (translation limit) 54 morning ≡ Ran.returned 1 26
unfolding computing limit
morning_passes_translated = refl

pub afternoon_fails_translated : ran_on (translation limit) 54 afternoon ≡ Ran.returned 0 26
unfolding computing limit
afternoon_fails_translated = refl

-- "Our translator wrote the copies one after the other, the second read what the first had overwritten": limit with its copies so, at the end
-- of each predecessor.
abbrev pub one_after_the_other : Func
one_after_the_other =
    named "limit" 0 uint 1 (int64 ∷ int64 ∷ int64 ∷ int64 ∷ int64 ∷ int64 ∷ int64 ∷ int64 ∷ uint ∷ uint ∷ [])
    ((Row.load 7 4 100 ∷ Row.load 7 5 1 ∷ Row.load 7 6 0 ∷ Row.unary 30 1 4 ∷ Row.unary 30 2 0 ∷ Row.unary 30 3 5 ∷ Row.jump 1 ∷ [])
    ∷ (Row.binary 23 8 3 6 ∷ Row.branch 8 3 2 ∷ [])
    ∷ (Row.binary 10 7 3 5 ∷ Row.unary 30 1 2 ∷ Row.unary 30 2 1 ∷ Row.unary 30 3 7 ∷ Row.jump 1 ∷ [])
    ∷ (Row.binary 28 9 1 2 ∷ Row.return 9 ∷ [])
    ∷ [])

pub afternoon_would_pass : ran_on one_after_the_other 54 afternoon ≡ Ran.returned 1 18
unfolding computing
afternoon_would_pass = refl

-- ---- the store

abbrev pub passed : Record
passed = record { appliance = 417; time = 570; fail = 0; tablet = 1; reading = 90 }

abbrev pub failed : Record
failed = record { appliance = 417; time = 850; fail = 1; tablet = 2; reading = 450 }

-- However x and y are merged, one after the other or as two stores, in either order, the kettle's record is then w.
abbrev pub Answered : Record → Record → Record → Type 0
Answered x y w = map (lookup 417) (ways x y) ≡ map (λ s. FoundRecord.found w) (ways x y)

-- Both are judged by the function as written; then the afternoon's, on the tablet, by its translation.
pub office_answers : Answered (judged_by limit 18 afternoon) (judged_by limit 18 morning) failed
unfolding computing limit compared meant larger wins best inserts store_of
office_answers = refl

pub tablet_answers : Answered (judged_by (translation limit) 54 afternoon) (judged_by limit 18 morning) failed
unfolding computing limit compared meant larger wins best inserts store_of
tablet_answers = refl

-- ---- of its table, and of calls

abbrev pub as_written : List ℕ
as_written = cells (limit ∷ [])

abbrev pub translated : List ℕ
translated = cells (translation limit ∷ [])

holds : decode as_written ≡ limit ∷ []
holds = (accepted_held (limit ∷ []) limit_accepted).back

here : function_in_table as_written 0 ≡ limit
here = ap (λ (p : Program). get_or p 0 no_function) holds

limit_marked : T (is_ssa limit)
unfolding limit
limit_marked = _

limit_sized : T (translation_fits limit)
unfolding computing limit
limit_sized = _

limit_translatable : TranslatableIn as_written 0
limit_translatable =
    translatable_cells (limit ∷ []) 0 (record { passes = limit_accepted; there = omega arith; marked = limit_marked; sized = limit_sized })

-- The premises of the laws hold: it is allowed, and it is translated.
limit_there : Limit as_written 0
limit_there = record { passes = limit_translatable.passes; there = limit_translatable.there; signature = rw (here, limit_signature) tt }

pub written_allowed : limit_answer as_written 0 ≡ Verdict.accepted
written_allowed = limit_allowed as_written 0 limit_there

pub written_translated : TranslatedTo as_written 0 translated
written_translated =
    let d = demand3_over_tables as_written 0 limit_translatable in
    let w = d.written ∙ ap (λ (f : Func). cells (translation f ∷ [])) here in
    λ j. record { answer = d.done j; table = w j }

-- What its table judges is what its run says.
judged_written : (b : ℕ) (x : Test) → x.reading < 2 ^ 64 → judged_test as_written 0 b x ≡ judged_by limit b x
unfolding judged_test
judged_written b x l =
    let fits = reading_fits (function_in_table as_written 0) limit_there.signature x.reading l in
    let ran = run_answer_law as_written 0 (x.reading ∷ []) b max_registers limit_there.passes limit_there.there fits (limit_room as_written 0 limit_there) in
    ap
    (λ (v : Ran). record { appliance = x.appliance; time = x.time; fail = fail_of v; tablet = x.tablet; reading = x.reading })
    (ran ∙ ap (λ (f : Func). ran_on f b x) here)

pub morning_judged : judged_test as_written 0 18 morning ≡ passed
morning_judged = judged_written 18 morning (omega arith) ∙ ap (λ (v : Ran). record { appliance = 417; time = 570; fail = fail_of v; tablet = 1; reading = 90 }) morning_passes

pub afternoon_judged : judged_test as_written 0 18 afternoon ≡ failed
afternoon_judged = judged_written 18 afternoon (omega arith) ∙ ap (λ (v : Ran). record { appliance = 417; time = 850; fail = fail_of v; tablet = 2; reading = 450 }) afternoon_fails

-- Budgets 18 and 54 suffice for both.
returned_ends : (f : Func) (x : Test) (n v : ℕ) → ran_on f n x ≡ Ran.returned v n → Ends f (x.reading ∷ []) n (Outcome.returned v)
returned_ends f x n v = by (run_of f (x.reading ∷ []) n) refl
  where
    by : (r : Run) → run_of f (x.reading ∷ []) n ≡ r → ran_as 0 f r ≡ Ran.returned v n → Ends f (x.reading ∷ []) n (Outcome.returned v)
    by (Run.going p g) q e = absurd (let z : ◌≡◌ {A = ℕ} 0 1 = cc in omega arith)
    by (Run.ended (Outcome.returned w) p g) q e = record { place = p; registers = g; run = cc; steps = cc }
    by (Run.ended Outcome.left p g) q e = absurd (let z : ◌≡◌ {A = ℕ} 0 1 = cc in omega arith)
    by (Run.ended (Outcome.stopped k) p g) q e = absurd (let z : ◌≡◌ {A = ℕ} 0 1 = cc in omega arith)

enough : (x : Test) (v : ℕ) → ran_on limit 18 x ≡ Ran.returned v 18 → Suffices as_written 0 18 54 x
enough x v e =
    let ends = subst⁻¹ (λ (f : Func). Ends f (x.reading ∷ []) 18 (Outcome.returned v)) here (returned_ends limit x 18 v e) in
    (18, (Outcome.returned v, (ends, (omega arith, omega arith))))

-- The two tests and no others.
abbrev pub Both : History → Type 0
Both h = (x : Test) → Merges x h ↔ ((x ≡ morning) ⊎ (x ≡ afternoon))

both_sized : (h : History) → Both h → SizedTests h
both_sized h e x m = by ((e x).0 m)
  where
    by : (x ≡ morning) ⊎ (x ≡ afternoon) → SizedTest x
    by (inl d) = subst⁻¹ SizedTest d (record { appliance = omega arith; time = omega arith; tablet = omega arith; reading = omega arith })
    by (inr d) = subst⁻¹ SizedTest d (record { appliance = omega arith; time = omega arith; tablet = omega arith; reading = omega arith })

fail_wins : wins failed passed ≡ true
unfolding computing compared meant larger wins
fail_wins = refl

-- In whatever order, grouping and repetition the two come in, the store answers the fail.
module _ (t : List ℕ) (i budget : ℕ) (pass : judged_test t i budget morning ≡ passed) (fail : judged_test t i budget afternoon ≡ failed) where
  winner : (h : History) → Both h → Winner (accepted_in t i budget h) 417 (FoundRecord.found failed)
  winner h e = (
    subst (λ (r : Record). In r (accepted_in t i budget h)) fail (merged_in t i budget h afternoon ((e afternoon).1 (inr refl))),
    refl,
    λ r n a. (let m = in_merged t i budget h r n in by r ((e m.0).0 m.1.0) m.1.1),
  )
    where
      by : {x : Test} (r : Record) → (x ≡ morning) ⊎ (x ≡ afternoon) → r ≡ judged_test t i budget x → wins failed r ≡ true
      by r (inl d) q = subst⁻¹ (λ (r : Record). wins failed r ≡ true) (q ∙ ap (judged_test t i budget) d ∙ pass) fail_wins
      by r (inr d) q = subst⁻¹ (λ (r : Record). wins failed r ≡ true) (q ∙ ap (judged_test t i budget) d ∙ fail) (wins_self failed)

  answers_fail : (h : History) (s : List ℕ) (r : Look) → Both h → Leaves t i budget h s → LookCalled s 417 r → r ≡ look_of (Looked.looked (FoundRecord.found failed))
  answers_fail h s r e l c =
      let z = both_sized h e in
      let f = look_of_calls t i budget h s 417 r z l c in
      f.1.1 ∙ ap (λ (f : FoundRecord). look_of (Looked.looked f)) (one_winner (accepted_in t i budget h) 417 f.0 (FoundRecord.found failed) (accepted_sized t i budget h z) f.1.0 (winner h e))

-- The office's store, by the function as written, and the tablet's, by its translation.
pub office_looks :
    (h : History) (s : List ℕ) (r : Look) → Both h → Leaves as_written 0 18 h s → LookCalled s 417 r → r ≡ look_of (Looked.looked (FoundRecord.found failed))
office_looks = answers_fail as_written 0 18 morning_judged afternoon_judged

pub tablet_looks :
    (h : History) (s : List ℕ) (r : Look) → Both h → Leaves translated 0 54 h s → LookCalled s 417 r → r ≡ look_of (Looked.looked (FoundRecord.found failed))
tablet_looks =
    let v = verdicts_translated as_written 0 translated written_allowed written_translated in
    answers_fail translated 0 54 (sym (v.verdicts 18 54 morning (omega arith) (enough morning 1 morning_passes)) ∙ morning_judged)
    (sym (v.verdicts 18 54 afternoon (omega arith) (enough afternoon 0 afternoon_fails)) ∙ afternoon_judged)

-- Budgets 18 and 54 suffice where the two tests alone are merged.
both_suffices : (x : Test) → (x ≡ morning) ⊎ (x ≡ afternoon) → Suffices as_written 0 18 54 x
both_suffices x (inl d) = subst⁻¹ (Suffices as_written 0 18 54) d (enough morning 1 morning_passes)
both_suffices x (inr d) = subst⁻¹ (Suffices as_written 0 18 54) d (enough afternoon 0 afternoon_fails)

-- And their bytes are the same.
pub same_bytes : (h : History) (s u : List ℕ) → Both h → Leaves as_written 0 18 h s → Leaves translated 0 54 h u → s ≡ u
same_bytes h s u e =
    stores_translated as_written 0 translated 18 54 h s u written_allowed written_translated (both_sized h e) (λ x m. inl (both_suffices x ((e x).0 m)))

-- The tablet's store merged into the office's: the office then answers the fail.
pub handed_in_looks :
    (h k : History) (s u s' : List ℕ) (m : Merged) (r : Look)
    → Both (History.join h k)
    → Leaves as_written 0 18 h s
    → Leaves translated 0 54 k u
    → StoreCalled u s m s'
    → merged_verdict m ≡ Verdict.accepted
    → LookCalled s' 417 r
    → r ≡ look_of (Looked.looked (FoundRecord.found failed))
handed_in_looks h k s u s' m r e l d c a =
    let z = both_sized (History.join h k) e in
    let w = leaves_translated as_written 0 translated 18 54 k u written_allowed written_translated (λ x n. z x (inr n)) (λ x n. inl (both_suffices x ((e x).0 (inr n)))) d in
    office_looks (History.join h k) s' r e (s, (u, (m, (l, (w, (c, a))))))

-- ---- and there are such stores

both_left : (h : History) → Both h → Whole h → (s : List ℕ) × Leaves as_written 0 18 h s
both_left h e w =
    can_be_left as_written 0 18 h (417 ∷ []) written_allowed (both_sized h e) w (λ y m. by ((e y).0 m)) (omega arith)
  where
    by : {y : Test} → (y ≡ morning) ⊎ (y ≡ afternoon) → T (member y.appliance (417 ∷ []))
    by (inl d) = subst⁻¹ (λ (y : Test). T (member y.appliance (417 ∷ []))) d tt
    by (inr d) = subst⁻¹ (λ (y : Test). T (member y.appliance (417 ∷ []))) d tt

-- The afternoon's test merged after the morning's; and as a store of its own.
abbrev pub one_store : History
one_store = History.add afternoon (History.add morning History.empty)

abbrev pub two_stores : History
two_stores = History.join (History.add morning History.empty) (History.add afternoon History.empty)

both_in_one : Both one_store
both_in_one x = (there, back)
  where
    there : Merges x one_store → (x ≡ morning) ⊎ (x ≡ afternoon)
    there (inl e) = inr e
    there (inr (inl e)) = inl e
    there (inr (inr n)) = absurd n

    back : (x ≡ morning) ⊎ (x ≡ afternoon) → Merges x one_store
    back (inl e) = inr (inl e)
    back (inr e) = inl e

both_in_two : Both two_stores
both_in_two x = (there, back)
  where
    there : Merges x two_stores → (x ≡ morning) ⊎ (x ≡ afternoon)
    there (inl (inl e)) = inl e
    there (inl (inr n)) = absurd n
    there (inr (inl e)) = inr e
    there (inr (inr n)) = absurd n

    back : (x ≡ morning) ⊎ (x ≡ afternoon) → Merges x two_stores
    back (inl e) = inl (inl e)
    back (inr e) = inr (inl e)

pub one_store_left : Both one_store × ((s : List ℕ) × Leaves as_written 0 18 one_store s)
one_store_left = (both_in_one, both_left one_store both_in_one tt)

pub two_stores_left : Both two_stores × ((s : List ℕ) × Leaves as_written 0 18 two_stores s)
two_stores_left = (both_in_two, both_left two_stores both_in_two (tt, tt))
