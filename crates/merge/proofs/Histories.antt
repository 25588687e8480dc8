-- A history of calls leaves the store of its accepted records; so what holds of any order and grouping of merges holds of calls. Assumes nothing.
use mathlib.Core.Bool.{Bool, true, false, cond, ◌&&◌}
use mathlib.Core.List.{List, [], ◌∷◌, map}
use mathlib.Core.Logic.{◌⊎◌, inl, inr, ◌↔◌}
use mathlib.Core.Path.{◌≡◌, refl, sym, ◌∙◌, ap, subst⁻¹}
use Prim.Native.Nat.{ℕ, ◌%◌, ◌<◌}
use native.Mathlib.Omega.{arith}
use lib.Dec.{eqb}
use lib.ListN.{length}
use Rattle.language.specs.Checking.{Verdict}
use Rattle.language.specs.Programs.{max_registers}
use Rattle.language.specs.Answers.{Ran, run_answer}
use Rattle.records.specs.declared.Record.{Record}
use Rattle.records.specs.Records.{SizedRecord}
use Rattle.records.specs.Stores.{insert, inserts, Rising, AllSized, store_length, store_cells, StoreHolds}
use Rattle.records.specs.Limits.{Test, limit_answer, fail_of, judged_test}
use Rattle.records.specs.Answers.{MergedStore, unchanged, emptied, Kept, IfLent, StoreJoined, tests_of}
use Rattle.records.specs.Trees.{Tree, In, SizedIn, SameRecords, store_of}
use Rattle.records.proofs.Storing.{rising_insert, rising_inserts, sized_insert, sized_inserts}
use Rattle.merge.specs.declared.figures.Merged.{Merged}
use Rattle.merge.specs.Calls.{merged_verdict, merged_of}
use Rattle.merge.specs.Histories.{History, RefusedCall, Leaves, adds, accepted_in, OneOf, Merges, SizedTest, SizedTests, LeavesWinners, RefusalsLeave}
use Rattle.merge.proofs.Refusing.{not_both, allowed_done, lent_done, lent_refused, allowed_refused, harmless_refused, kept_done}

-- ---- refusals

emptied_refused : (s : List ℕ) (m : MergedStore) {k p : ℕ} → m ≡ emptied s → m.answer ≡ Verdict.refused k p → m.store ≡ s
unfolding emptied
emptied_refused s m {k} {p} c e = by (eqb (length s) store_length) c
  where
    by : (b : Bool) → m ≡ cond b (record { answer = Verdict.accepted; store = store_cells [] }) (unchanged s 22 0) → m.store ≡ s
    by true d = absurd (not_both (sym (ap (λ (m : MergedStore). m.answer) d) ∙ e))
    by false d = ap (λ (m : MergedStore). m.store) d

emptied_done : (s : List ℕ) (m : MergedStore) → m ≡ emptied s → m.answer ≡ Verdict.accepted → m.store ≡ store_cells []
unfolding emptied
emptied_done s m c e = by (eqb (length s) store_length) c
  where
    by : (b : Bool) → m ≡ cond b (record { answer = Verdict.accepted; store = store_cells [] }) (unchanged s 22 0) → m.store ≡ store_cells []
    by true d = ap (λ (m : MergedStore). m.store) d
    by false d = absurd (not_both (sym e ∙ ap (λ (m : MergedStore). m.answer) d))

pub refusals_leave : RefusalsLeave
refusals_leave s s' (RefusedCall.by_record t i budget x r k p c e) =
    let P : MergedStore → Type 0 = Kept s (insert (judged_test t i budget x)) in
    allowed_refused s (IfLent (eqb (length s) store_length) s P) (merged_of r s') (limit_answer t i)
    (lent_refused s P (merged_of r s') (eqb (length s) store_length) (λ h. harmless_refused h.harmless e)) c
refusals_leave s s' (RefusedCall.by_records t i budget ns r k p c e) =
    let P : MergedStore → Type 0 = Kept s (inserts (map (judged_test t i budget) (tests_of ns))) in
    let b = eqb (length s) store_length && eqb (length ns % 4) 0 in
    allowed_refused s (IfLent b s P) (merged_of r s') (limit_answer t i) (lent_refused s P (merged_of r s') b (λ h. harmless_refused h.harmless e)) c
refusals_leave s s' (RefusedCall.by_store u r k p c e) =
    lent_refused s (StoreJoined u s) (merged_of r s') (eqb (length s) store_length && eqb (length u) store_length) (λ h. harmless_refused h.harmless e) c
refusals_leave s s' (RefusedCall.by_empty r k p c e) = emptied_refused s (merged_of r s') c e

-- ---- the tests of a history, and its accepted records

module _ (t : List ℕ) (i budget : ℕ) where
  fail_small : (a : Ran) → fail_of a < 2
  fail_small (Ran.returned v s) = by (eqb v 1)
    where
      by : (b : Bool) → cond b 0 1 < 2
      by true = omega arith
      by false = omega arith
  fail_small (Ran.left s) = omega arith
  fail_small (Ran.stopped n p s) = omega arith
  fail_small (Ran.refused n p) = omega arith

  pub judged_sized : (x : Test) → SizedTest x → SizedRecord (judged_test t i budget x)
  unfolding judged_test
  judged_sized x h = record { appliance = h.appliance; time = h.time; fail = fail_small (run_answer t i (x.reading ∷ []) budget max_registers).answer; tablet = h.tablet; reading = h.reading }

  pub judged_appliance : (x : Test) → (judged_test t i budget x).appliance ≡ x.appliance
  unfolding judged_test
  judged_appliance x = refl

  all_sized : (xs : List Test) → ((x : Test) → OneOf x xs → SizedTest x) → AllSized (map (judged_test t i budget) xs)
  all_sized [] h = tt
  all_sized (x ∷ xs) h = (judged_sized x (h x (inl refl)), all_sized xs (λ y o. h y (inr o)))

  -- many at once are so many one after the other
  pub store_adds : (xs : List Test) (u : Tree) → store_of (adds t i budget xs u) ≡ inserts (map (judged_test t i budget) xs) (store_of u)
  unfolding store_of inserts
  store_adds [] u = refl
  store_adds (x ∷ xs) u = store_adds xs (Tree.add (judged_test t i budget x) u)

  -- a record is among the accepted ones exactly if its test was merged
  adds_old : (xs : List Test) (u : Tree) (r : Record) → In r u → In r (adds t i budget xs u)
  adds_old [] u r h = h
  adds_old (x ∷ xs) u r h = adds_old xs (Tree.add (judged_test t i budget x) u) r (inr h)

  adds_new : (xs : List Test) (u : Tree) (x : Test) → OneOf x xs → In (judged_test t i budget x) (adds t i budget xs u)
  adds_new [] u x h = absurd h
  adds_new (y ∷ ys) u x (inl e) = adds_old ys (Tree.add (judged_test t i budget y) u) (judged_test t i budget x) (inl (ap (judged_test t i budget) e))
  adds_new (y ∷ ys) u x (inr h) = adds_new ys (Tree.add (judged_test t i budget y) u) x h

  adds_from : (xs : List Test) (u : Tree) (r : Record) → In r (adds t i budget xs u) → ((x : Test) × (OneOf x xs × (r ≡ judged_test t i budget x))) ⊎ In r u
  adds_from [] u r h = inr h
  adds_from (y ∷ ys) u r h = by (adds_from ys (Tree.add (judged_test t i budget y) u) r h)
    where
      by :
          ((x : Test) × (OneOf x ys × (r ≡ judged_test t i budget x))) ⊎ ((r ≡ judged_test t i budget y) ⊎ In r u)
          → ((x : Test) × (OneOf x (y ∷ ys) × (r ≡ judged_test t i budget x))) ⊎ In r u
      by (inl m) = inl (m.0, (inr m.1.0, m.1.1))
      by (inr (inl e)) = inl (y, (inl refl, e))
      by (inr (inr m)) = inr m

  pub merged_in : (h : History) (x : Test) → Merges x h → In (judged_test t i budget x) (accepted_in t i budget h)
  merged_in History.empty x m = m
  merged_in (History.add y h) x (inl e) = inl (ap (judged_test t i budget) e)
  merged_in (History.add y h) x (inr m) = inr (merged_in h x m)
  merged_in (History.many ns h) x (inl o) = adds_new (tests_of ns) (accepted_in t i budget h) x o
  merged_in (History.many ns h) x (inr m) = adds_old (tests_of ns) (accepted_in t i budget h) (judged_test t i budget x) (merged_in h x m)
  merged_in (History.join h k) x (inl m) = inl (merged_in h x m)
  merged_in (History.join h k) x (inr m) = inr (merged_in k x m)
  merged_in (History.refused h) x m = merged_in h x m

  pub in_merged : (h : History) (r : Record) → In r (accepted_in t i budget h) → (x : Test) × (Merges x h × (r ≡ judged_test t i budget x))
  in_merged History.empty r n = absurd n
  in_merged (History.add y h) r (inl e) = (y, (inl refl, e))
  in_merged (History.add y h) r (inr n) = let m = in_merged h r n in (m.0, (inr m.1.0, m.1.1))
  in_merged (History.many ns h) r n = by (adds_from (tests_of ns) (accepted_in t i budget h) r n) (λ n. in_merged h r n)
    where
      by :
          ((x : Test) × (OneOf x (tests_of ns) × (r ≡ judged_test t i budget x))) ⊎ In r (accepted_in t i budget h)
          → (In r (accepted_in t i budget h) → (x : Test) × (Merges x h × (r ≡ judged_test t i budget x)))
          → (x : Test) × (Merges x (History.many ns h) × (r ≡ judged_test t i budget x))
      by (inl m) f = (m.0, (inl m.1.0, m.1.1))
      by (inr n) f = let m = f n in (m.0, (inr m.1.0, m.1.1))
  in_merged (History.join h k) r (inl n) = let m = in_merged h r n in (m.0, (inl m.1.0, m.1.1))
  in_merged (History.join h k) r (inr n) = let m = in_merged k r n in (m.0, (inr m.1.0, m.1.1))
  in_merged (History.refused h) r n = in_merged h r n

  pub accepted_sized : (h : History) → SizedTests h → SizedIn (accepted_in t i budget h)
  accepted_sized h z r n = let m = in_merged h r n in subst⁻¹ SizedRecord m.1.1 (judged_sized m.0 (z m.0 m.1.0))

  pub same_records : (h k : History) → ((x : Test) → Merges x h ↔ Merges x k) → SameRecords (accepted_in t i budget h) (accepted_in t i budget k)
  same_records h k e r = (go h k (λ x. (e x).0), go k h (λ x. (e x).1))
    where
      go : (h k : History) → ((x : Test) → Merges x h → Merges x k) → In r (accepted_in t i budget h) → In r (accepted_in t i budget k)
      go h k f n = let m = in_merged h r n in subst⁻¹ (λ (r : Record). In r (accepted_in t i budget k)) m.1.1 (merged_in k m.0 (f m.0 m.1.0))

  -- ---- what a history leaves

  -- a call that is done has put f of the records there
  kept_holds :
      (s s' : List ℕ) (f : List Record → List Record) (r : Merged) (es : List Record) → Kept s f (merged_of r s') → merged_verdict r ≡ Verdict.accepted → StoreHolds s es
      → Rising (f es) → AllSized (f es) → StoreHolds s' (f es)
  kept_holds s s' f r es c e h up z =
      let is = c.held es h in
      let d = kept_done s (f es) (sym (ap (λ (m : MergedStore). m.answer) is) ∙ e) in
      record { rising = up; sized = z; room = d.0; bytes = ap (λ (m : MergedStore). m.store) is ∙ d.1 }

  pub leaves_winners : (h : History) (s : List ℕ) → SizedTests h → Leaves t i budget h s → StoreHolds s (store_of (accepted_in t i budget h))
  unfolding store_of
  leaves_winners History.empty s z l =
      record { rising = tt; sized = tt; room = omega arith; bytes = emptied_done l.0 (merged_of l.1.0 s) l.1.1.0 l.1.1.1 }
  leaves_winners (History.add x h) s z l =
      let s₀ = l.0 in
      let r = l.1.0 in
      let P : MergedStore → Type 0 = Kept s₀ (insert (judged_test t i budget x)) in
      let c = allowed_done s₀ (IfLent (eqb (length s₀) store_length) s₀ P) (merged_of r s) (limit_answer t i) l.1.1.1.0 l.1.1.1.1 in
      let k = lent_done s₀ P (merged_of r s) (eqb (length s₀) store_length) c.1 l.1.1.1.1 in
      let g = leaves_winners h s₀ (λ y m. z y (inr m)) l.1.1.0 in
      kept_holds s₀ s (insert (judged_test t i budget x)) r (store_of (accepted_in t i budget h)) k l.1.1.1.1 g
      (rising_insert (judged_test t i budget x) (store_of (accepted_in t i budget h)) g.rising)
      (sized_insert (judged_test t i budget x) (store_of (accepted_in t i budget h)) (judged_sized x (z x (inl refl))) g.sized)
  leaves_winners (History.many ns h) s z l =
      let s₀ = l.0 in
      let r = l.1.0 in
      let rs = map (judged_test t i budget) (tests_of ns) in
      let P : MergedStore → Type 0 = Kept s₀ (inserts rs) in
      let b = eqb (length s₀) store_length && eqb (length ns % 4) 0 in
      let c = allowed_done s₀ (IfLent b s₀ P) (merged_of r s) (limit_answer t i) l.1.1.1.0 l.1.1.1.1 in
      let k = lent_done s₀ P (merged_of r s) b c.1 l.1.1.1.1 in
      let g = leaves_winners h s₀ (λ y m. z y (inr m)) l.1.1.0 in
      subst⁻¹ (StoreHolds s) (store_adds (tests_of ns) (accepted_in t i budget h))
      (kept_holds s₀ s (inserts rs) r (store_of (accepted_in t i budget h)) k l.1.1.1.1 g
      (rising_inserts rs (store_of (accepted_in t i budget h)) g.rising)
      (sized_inserts rs (store_of (accepted_in t i budget h)) (all_sized (tests_of ns) (λ y o. z y (inl o))) g.sized))
  leaves_winners (History.join h k) s z l =
      let s₀ = l.0 in
      let u = l.1.0 in
      let r = l.1.1.0 in
      let es = store_of (accepted_in t i budget h) in
      let fs = store_of (accepted_in t i budget k) in
      let c = lent_done s₀ (StoreJoined u s₀) (merged_of r s) (eqb (length s₀) store_length && eqb (length u) store_length) l.1.1.1.1.1.0 l.1.1.1.1.1.1 in
      let g = leaves_winners h s₀ (λ y m. z y (inl m)) l.1.1.1.0 in
      let f = leaves_winners k u (λ y m. z y (inr m)) l.1.1.1.1.0 in
      let is = c.held es fs g f in
      let d = kept_done s₀ (inserts fs es) (sym (ap (λ (m : MergedStore). m.answer) is) ∙ l.1.1.1.1.1.1) in
      record {
        rising = rising_inserts fs es g.rising;
        sized = sized_inserts fs es f.sized g.sized;
        room = d.0;
        bytes = ap (λ (m : MergedStore). m.store) is ∙ d.1;
      }
  leaves_winners (History.refused h) s z l =
      subst⁻¹ (λ (s : List ℕ). StoreHolds s (store_of (accepted_in t i budget h))) (refusals_leave l.0 s l.1.1) (leaves_winners h l.0 z l.1.0)

pub leaves_the_winners : LeavesWinners
leaves_the_winners t i budget h s z l = leaves_winners t i budget h s z l
