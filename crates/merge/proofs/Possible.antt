-- Each history of so many appliances can be left: the store of its accepted records answers each of its calls. Assumes nothing.
use mathlib.Core.Bool.{Bool, true, cond, ◌&&◌}
use mathlib.Core.List.{List, [], map}
use mathlib.Core.Logic.{inl, inr}
use mathlib.Core.Path.{◌≡◌, refl, sym, ◌∙◌, ap, subst, subst⁻¹}
use Prim.Native.Nat.{ℕ, ◌%◌, ◌≤◌}
use lib.Dec.{T, eqb}
use lib.ListN.{length}
use borrow.Author.Tests.{eq-eqb}
use Rattle.laws.specs.Lists.{member}
use Rattle.language.specs.Checking.{Verdict}
use Rattle.language.specs.Answers.{check_answer}
use Rattle.records.specs.declared.Record.{Record}
use Rattle.records.specs.Stores.{joined, records_of, insert, inserts, capacity, store_length, store_cells, StoreHolds}
use Rattle.records.specs.Limits.{Test, limit_answer, judged_test}
use Rattle.records.specs.Answers.{MergedStore, unchanged, emptied, kept, Harmless, Kept, IfLent, Allowed, StoreJoined, tests_of}
use Rattle.records.specs.Trees.{In, store_of}
use Rattle.records.proofs.Trees.{rising_store, sized_store, room_for_so_many}
use Rattle.records.proofs.Merging.{joined_is}
use Rattle.records.proofs.Cells.{held_records, length_store, held_length, held_alone, stored_holds}
use Rattle.merge.specs.declared.figures.Merged.{Merged}
use Rattle.merge.specs.Calls.{merged_of, EmptyCalled, RecordCalled}
use Rattle.merge.specs.Histories.{History, RefusedCall, Leaves, accepted_in, Merges, SizedTests}
use Rattle.merge.specs.Possible.{Whole, CanBeLeft}
use Rattle.merge.proofs.Refusing.{kept_room}
use Rattle.merge.proofs.Histories.{judged_appliance, in_merged, accepted_sized, store_adds}

-- The answer 0 0.
abbrev done : Merged
done = record { number = 0; place = 0 }

-- ---- single calls

-- bytes that hold records answer as they say, where there is room
module _ (s : List ℕ) (es : List Record) (h : StoreHolds s es) where
  harmless_kept : (gs : List Record) → length gs ≤ capacity → Harmless s (merged_of done (store_cells gs))
  harmless_kept gs l = record { size = length_store gs l ∙ sym (held_length h); either = inl refl }

  kept_here : (f : List Record → List Record) → length (f es) ≤ capacity → Kept s f (merged_of done (store_cells (f es)))
  kept_here f l =
      record {
        held = λ gs k. sym (kept_room s (f es) l) ∙ ap (λ (es : List Record). kept s (f es)) (held_alone h k);
        harmless = harmless_kept (f es) l;
      }

  joined_here : (u : List ℕ) (fs : List Record) → StoreHolds u fs → length (inserts fs es) ≤ capacity → StoreJoined u s (merged_of done (store_cells (inserts fs es)))
  joined_here u fs g l =
      record {
        exact =
            sym (kept_room s (inserts fs es) l) ∙ ap (kept s) (sym (joined_is es fs h.rising g.rising))
            ∙ ap (λ (es : List Record). kept s (joined es fs)) (sym (held_records h))
            ∙ ap (λ (fs : List Record). kept s (joined (records_of s) fs)) (sym (held_records g));
        held =
            λ is js p q. sym (kept_room s (inserts fs es) l)
            ∙ ap (λ (es : List Record). kept s (inserts fs es)) (held_alone h p)
            ∙ ap (λ (fs : List Record). kept s (inserts fs is)) (held_alone g q);
        harmless = harmless_kept (inserts fs es) l;
      }

  right_length : eqb (length s) store_length ≡ true
  right_length = eq-eqb (length s) store_length (held_length h)

  emptied_here : EmptyCalled s done (store_cells [])
  unfolding emptied
  emptied_here = sym (ap (λ (b : Bool). cond b (record { answer = Verdict.accepted; store = store_cells [] }) (unchanged s 22 0)) right_length)

-- a table of no bytes is refused
no_table : limit_answer [] 0 ≡ Verdict.refused 9 0
unfolding limit_answer check_answer
no_table = refl

refused_here : (s : List ℕ) → RefusedCall s s
refused_here s =
    let x : Test = record { appliance = 0; time = 0; tablet = 0; reading = 0 } in
    let r : Merged = record { number = 9; place = 0 } in
    let c : RecordCalled [] 0 0 x s r s = subst⁻¹ (λ (v : Verdict). Allowed v s (IfLent (eqb (length s) store_length) s (Kept s (insert (judged_test [] 0 0 x)))) (merged_of r s)) no_table refl in
    RefusedCall.by_record [] 0 0 x r 9 0 c refl

-- ---- histories

module _ (t : List ℕ) (i budget : ℕ) (a : limit_answer t i ≡ Verdict.accepted) (appliances : List ℕ) (room : length appliances ≤ capacity) where
  abbrev Roomy : History → Type 0
  Roomy h = (y : Test) → Merges y h → T (member y.appliance appliances)

  abbrev winners : History → List Record
  winners h = store_of (accepted_in t i budget h)

  winners_room : (h : History) → Roomy h → length (winners h) ≤ capacity
  winners_room h f = room_for_so_many (accepted_in t i budget h) appliances by room
    where
      by : (r : Record) → In r (accepted_in t i budget h) → T (member r.appliance appliances)
      by r n =
          let m = in_merged t i budget h r n in
          let e : r.appliance ≡ m.0.appliance = ap (λ (r : Record). r.appliance) m.1.1 ∙ judged_appliance t i budget m.0 in
          subst⁻¹ (λ (a : ℕ). T (member a appliances)) e (f m.0 m.1.0)

  winners_held : (h : History) → SizedTests h → Roomy h → StoreHolds (store_cells (winners h)) (winners h)
  winners_held h z f =
      let u = accepted_in t i budget h in
      stored_holds (store_of u) (rising_store u) (sized_store u (accepted_sized t i budget h z)) (winners_room h f)

  left : (h : History) → SizedTests h → Whole h → Roomy h → Leaves t i budget h (store_cells (winners h))
  unfolding store_of
  left History.empty z w f = (store_cells [], (done, (emptied_here (store_cells []) [] (winners_held History.empty z f), refl)))
  left (History.add x h) z w f =
      let s = store_cells (winners h) in
      let g = winners_held h (λ y m. z y (inr m)) (λ y m. f y (inr m)) in
      let P : MergedStore → Type 0 = Kept s (insert (judged_test t i budget x)) in
      let m = merged_of done (store_cells (winners (History.add x h))) in
      let k : P m = kept_here s (winners h) g (insert (judged_test t i budget x)) (winners_room (History.add x h) f) in
      let c = subst⁻¹ (λ (b : Bool). IfLent b s P m) (right_length s (winners h) g) k in (
        s,
        (
          done,
          (
            left h (λ y m. z y (inr m)) w (λ y m. f y (inr m)),
            (subst⁻¹ (λ (v : Verdict). Allowed v s (IfLent (eqb (length s) store_length) s P) m) a c, refl),
          ),
        ),
      )
  left (History.many ns h) z w f =
      let s = store_cells (winners h) in
      let g = winners_held h (λ y m. z y (inr m)) (λ y m. f y (inr m)) in
      let rs = map (judged_test t i budget) (tests_of ns) in
      let P : MergedStore → Type 0 = Kept s (inserts rs) in
      let e = store_adds t i budget (tests_of ns) (accepted_in t i budget h) in
      let m = merged_of done (store_cells (winners (History.many ns h))) in
      let short : length (inserts rs (winners h)) ≤ capacity = subst (λ (es : List Record). length es ≤ capacity) e (winners_room (History.many ns h) f) in
      let k : P m = subst⁻¹ (λ (es : List Record). P (merged_of done (store_cells es))) e (kept_here s (winners h) g (inserts rs) short) in
      let lengths : (eqb (length s) store_length && eqb (length ns % 4) 0) ≡ true = rw (right_length s (winners h) g, eq-eqb (length ns % 4) 0 w.0) refl in
      let c = subst⁻¹ (λ (b : Bool). IfLent b s P m) lengths k in (
        s,
        (
          done,
          (
            left h (λ y m. z y (inr m)) w.1 (λ y m. f y (inr m)),
            (subst⁻¹ (λ (v : Verdict). Allowed v s (IfLent (eqb (length s) store_length && eqb (length ns % 4) 0) s P) m) a c, refl),
          ),
        ),
      )
  left (History.join h k) z w f =
      let s = store_cells (winners h) in
      let u = store_cells (winners k) in
      let g = winners_held h (λ y m. z y (inl m)) (λ y m. f y (inl m)) in
      let d = winners_held k (λ y m. z y (inr m)) (λ y m. f y (inr m)) in
      let m = merged_of done (store_cells (winners (History.join h k))) in
      let j : StoreJoined u s m = joined_here s (winners h) g u (winners k) d (winners_room (History.join h k) f) in
      let lengths : (eqb (length s) store_length && eqb (length u) store_length) ≡ true = rw (right_length s (winners h) g, right_length u (winners k) d) refl in (
        s,
        (
          u,
          (
            done,
            (
              left h (λ y m. z y (inl m)) w.0 (λ y m. f y (inl m)),
              (left k (λ y m. z y (inr m)) w.1 (λ y m. f y (inr m)), (subst⁻¹ (λ (b : Bool). IfLent b s (StoreJoined u s) m) lengths j, refl)),
            ),
          ),
        ),
      )
  left (History.refused h) z w f = (store_cells (winners h), (left h z w f, refused_here (store_cells (winners h))))

pub can_be_left : CanBeLeft
can_be_left t i budget h appliances a z w f room = (store_cells (store_of (accepted_in t i budget h)), left t i budget a appliances room h z w f)
