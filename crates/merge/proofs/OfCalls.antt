-- The promises of A8, of calls: from what a history leaves and the laws of any order. Assumes nothing.
use mathlib.Core.Bool.{Bool, true, ◌&&◌}
use mathlib.Core.List.{List, map}
use mathlib.Core.Logic.{◌⊎◌, inl, inr}
use mathlib.Core.Path.{◌≡◌, refl, sym, ◌∙◌, ap, subst, subst⁻¹}
use Prim.Native.Nat.{ℕ, ◌%◌, ◌<◌}
use native.Mathlib.Omega.{arith}
use lib.Dec.{T, eqb}
use lib.ListN.{length}
use borrow.Author.Tests.{eq-eqb}
use Rattle.laws.specs.Lists.{member}
use Rattle.language.specs.Checking.{Verdict}
use Rattle.records.specs.declared.Record.{Record}
use Rattle.records.specs.Stores.{FoundRecord, insert, inserts, lookup, nth, capacity, store_length, store_cells, StoreHolds, records_of}
use Rattle.records.specs.Limits.{Test, limit_answer, judged_test}
use Rattle.records.specs.Answers.{MergedStore, Looked, kept, Kept, IfLent, Allowed, StoreJoined, LentToLook, LookedIn, tests_of}
use Rattle.records.specs.Trees.{Tree, In, Winner, store_of}
use Rattle.records.proofs.Trees.{any_order, merged_twice, answers_winner, room_for_so_many}
use Rattle.records.proofs.Cells.{held_length, held_records}
use Rattle.merge.specs.declared.figures.Merged.{Merged}
use Rattle.merge.specs.Calls.{merged_verdict, merged_of, look_of, RecordCalled, RecordsCalled}
use Rattle.merge.specs.Histories.{History, Leaves, accepted_in, OneOf, Merges, SizedTests, AnyOrderOfCalls, TwiceOfCalls, TwiceOfRecords, LookOfCalls, NthOfCalls, RoomOfCalls, RoomOfRecords, RoomOfStores, FullExactly}
use Rattle.merge.proofs.Refusing.{allowed_done, kept_room, kept_none, kept_full}
use Rattle.merge.proofs.Newcomers.{longer_by_one, as_long}
use Rattle.merge.proofs.Histories.{judged_appliance, merged_in, in_merged, accepted_sized, same_records, leaves_winners, store_adds}

abbrev answer_in : MergedStore → Verdict
answer_in m = m.answer

abbrev store_in : MergedStore → List ℕ
store_in m = m.store

pub any_order_of_calls : AnyOrderOfCalls
any_order_of_calls t i budget h k s u z e l m =
    let hs = leaves_winners t i budget h s z l in
    let ks = leaves_winners t i budget k u (λ x n. z x ((e x).1 n)) m in
    let o = any_order (accepted_in t i budget h) (accepted_in t i budget k) (accepted_sized t i budget h z) (same_records t i budget h k e) in
    hs.bytes ∙ ap store_cells o ∙ sym ks.bytes

-- a store lent to be merged into has the right length
lent_is : (s : List ℕ) (P : MergedStore → Type 0) (m : MergedStore) {es : List Record} → StoreHolds s es → IfLent (eqb (length s) store_length) s P m → P m
lent_is s P m h c = subst (λ (b : Bool). IfLent b s P m) (eq-eqb (length s) store_length (held_length h)) c

-- a test that was merged has a limit function that is allowed
allowed_of : (t : List ℕ) (i budget : ℕ) (h : History) (s : List ℕ) (x : Test) → Leaves t i budget h s → Merges x h → limit_answer t i ≡ Verdict.accepted
allowed_of t i budget History.empty s x l m = absurd m
allowed_of t i budget (History.add y h) s x l (inl e) =
    (allowed_done l.0 (IfLent (eqb (length l.0) store_length) l.0 (Kept l.0 (insert (judged_test t i budget y)))) (merged_of l.1.0 s) (limit_answer t i) l.1.1.1.0 l.1.1.1.1).0
allowed_of t i budget (History.add y h) s x l (inr m) = allowed_of t i budget h l.0 x l.1.1.0 m
allowed_of t i budget (History.many ns h) s x l (inl o) =
    (allowed_done l.0 (IfLent (eqb (length l.0) store_length && eqb (length ns % 4) 0) l.0 (Kept l.0 (inserts (map (judged_test t i budget) (tests_of ns))))) (merged_of l.1.0 s) (limit_answer t i) l.1.1.1.0 l.1.1.1.1).0
allowed_of t i budget (History.many ns h) s x l (inr m) = allowed_of t i budget h l.0 x l.1.1.0 m
allowed_of t i budget (History.join h k) s x l (inl m) = allowed_of t i budget h l.0 x l.1.1.1.0 m
allowed_of t i budget (History.join h k) s x l (inr m) = allowed_of t i budget k l.1.0 x l.1.1.1.1.0 m
allowed_of t i budget (History.refused h) s x l m = allowed_of t i budget h l.0 x l.1.0 m

-- a call on what a history left, its limit function allowed
recorded :
    (t : List ℕ) (i budget : ℕ) (h : History) (s : List ℕ) (x : Test) (r : Merged) (s' : List ℕ) → SizedTests h → Leaves t i budget h s → limit_answer t i ≡ Verdict.accepted
    → RecordCalled t i budget x s r s' → merged_of r s' ≡ kept s (insert (judged_test t i budget x) (store_of (accepted_in t i budget h)))
recorded t i budget h s x r s' z l a c =
    let g = leaves_winners t i budget h s z l in
    let P : MergedStore → Type 0 = Kept s (insert (judged_test t i budget x)) in
    let d : IfLent (eqb (length s) store_length) s P (merged_of r s') = subst (λ (v : Verdict). Allowed v s (IfLent (eqb (length s) store_length) s P) (merged_of r s')) a c in
    (lent_is s P (merged_of r s') g d).held (store_of (accepted_in t i budget h)) g

-- so many at once
recorded_many :
    (t : List ℕ) (i budget : ℕ) (h : History) (s ns : List ℕ) (r : Merged) (s' : List ℕ) → SizedTests h → Leaves t i budget h s → limit_answer t i ≡ Verdict.accepted
    → length ns % 4 ≡ 0 → RecordsCalled t i budget ns s r s' → merged_of r s' ≡ kept s (inserts (map (judged_test t i budget) (tests_of ns)) (store_of (accepted_in t i budget h)))
recorded_many t i budget h s ns r s' z l a four c =
    let g = leaves_winners t i budget h s z l in
    let P : MergedStore → Type 0 = Kept s (inserts (map (judged_test t i budget) (tests_of ns))) in
    let d : IfLent (eqb (length s) store_length && eqb (length ns % 4) 0) s P (merged_of r s') =
    subst (λ (v : Verdict). Allowed v s (IfLent (eqb (length s) store_length && eqb (length ns % 4) 0) s P) (merged_of r s')) a c in
    let lengths : (eqb (length s) store_length && eqb (length ns % 4) 0) ≡ true = rw (eq-eqb (length s) store_length (held_length g), eq-eqb (length ns % 4) 0 four) refl in
    let e : P (merged_of r s') = subst (λ (b : Bool). IfLent b s P (merged_of r s')) lengths d in
    e.held (store_of (accepted_in t i budget h)) g

store_add : (x : Record) (u : Tree) → insert x (store_of u) ≡ store_of (Tree.add x u)
unfolding store_of
store_add x u = refl

store_join : (t u : Tree) → inserts (store_of u) (store_of t) ≡ store_of (Tree.join t u)
unfolding store_of
store_join t u = refl

pub twice_of_calls : TwiceOfCalls
twice_of_calls t i budget h s x r s' z l m c =
    let g = leaves_winners t i budget h s z l in
    let u = accepted_in t i budget h in
    let same : insert (judged_test t i budget x) (store_of u) ≡ store_of u =
    store_add (judged_test t i budget x) u ∙ merged_twice (judged_test t i budget x) u (accepted_sized t i budget h z) (merged_in t i budget h x m) in
    let is = recorded t i budget h s x r s' z l (allowed_of t i budget h s x l m) c ∙ ap (kept s) same ∙ kept_room s (store_of u) g.room in
    (ap answer_in is, ap store_in is ∙ sym g.bytes)

pub twice_of_records : TwiceOfRecords
twice_of_records t i budget h s ns r s' z l all four a c =
    let g = leaves_winners t i budget h s z l in
    let u = accepted_in t i budget h in
    let same : store_of u ≡ store_of (accepted_in t i budget (History.many ns h)) =
    any_order u (accepted_in t i budget (History.many ns h)) (accepted_sized t i budget h z) (same_records t i budget h (History.many ns h) (λ x. (inr, back x))) in
    let is = recorded_many t i budget h s ns r s' z l a four c ∙ ap (kept s) (sym (store_adds t i budget (tests_of ns) u) ∙ sym same) ∙ kept_room s (store_of u) g.room in
    (ap answer_in is, ap store_in is ∙ sym g.bytes)
  where
    back : (x : Test) → OneOf x (tests_of ns) ⊎ Merges x h → Merges x h
    back x (inl o) = all x o
    back x (inr m) = m

pub look_of_calls : LookOfCalls
look_of_calls t i budget h s a r z l c =
    let g = leaves_winners t i budget h s z l in
    let u = accepted_in t i budget h in
    let d : LookedIn s a c.0 = subst (λ (b : Bool). LentToLook b (LookedIn s a) c.0) (eq-eqb (length s) store_length (held_length g)) c.1.0 in
    (lookup a (store_of u), (answers_winner u a, c.1.1 ∙ ap look_of (d.held (store_of u) g)))

pub nth_of_calls : NthOfCalls
nth_of_calls t i budget h s n r z l c =
    let g = leaves_winners t i budget h s z l in
    let P : Looked → Type 0 = λ l. l ≡ Looked.looked (nth n (records_of s)) in
    let d : P c.0 = subst (λ (b : Bool). LentToLook b P c.0) (eq-eqb (length s) store_length (held_length g)) c.1.0 in
    c.1.1 ∙ ap look_of (d ∙ ap (λ (es : List Record). Looked.looked (nth n es)) (held_records g))

-- the appliances of accepted records are those of the tests
those_of : (t : List ℕ) (i budget : ℕ) (h : History) (appliances : List ℕ) → ((y : Test) → Merges y h → T (member y.appliance appliances))
    → (r : Record) → In r (accepted_in t i budget h) → T (member r.appliance appliances)
those_of t i budget h list f r n =
    let m = in_merged t i budget h r n in
    let e : r.appliance ≡ m.0.appliance = ap (λ (r : Record). r.appliance) m.1.1 ∙ judged_appliance t i budget m.0 in
    subst⁻¹ (λ (a : ℕ). T (member a list)) e (f m.0 m.1.0)

-- a call answers what its limit function is answered, where it is done once that is allowed
answers_limit : (s : List ℕ) (P : MergedStore → Type 0) (m : MergedStore) (v : Verdict) → Allowed v s P m → (v ≡ Verdict.accepted → m.answer ≡ Verdict.accepted) → m.answer ≡ v
answers_limit s P m Verdict.accepted c f = f refl
answers_limit s P m (Verdict.refused k p) c f = ap answer_in c

pub room_of_calls : RoomOfCalls
room_of_calls t i budget h s x r s' list z l f room c =
    answers_limit s (IfLent (eqb (length s) store_length) s (Kept s (insert (judged_test t i budget x)))) (merged_of r s') (limit_answer t i) c done
  where
    done : limit_answer t i ≡ Verdict.accepted → merged_verdict r ≡ Verdict.accepted
    done a =
        let u = accepted_in t i budget h in
        let short = room_for_so_many (Tree.add (judged_test t i budget x) u) list (those_of t i budget (History.add x h) list f) room in
        let is = recorded t i budget h s x r s' (λ y m. z y (inr m)) l a c ∙ ap (kept s) (store_add (judged_test t i budget x) u) in
        ap answer_in (is ∙ kept_room s (store_of (Tree.add (judged_test t i budget x) u)) short)

pub room_of_records : RoomOfRecords
room_of_records t i budget h s ns r s' list z l f room four c =
    answers_limit s (IfLent (eqb (length s) store_length && eqb (length ns % 4) 0) s (Kept s (inserts (map (judged_test t i budget) (tests_of ns))))) (merged_of r s') (limit_answer t i) c done
  where
    done : limit_answer t i ≡ Verdict.accepted → merged_verdict r ≡ Verdict.accepted
    done a =
        let u = accepted_in t i budget (History.many ns h) in
        let short = room_for_so_many u list (those_of t i budget (History.many ns h) list f) room in
        let is = recorded_many t i budget h s ns r s' (λ y m. z y (inr m)) l a four c ∙ ap (kept s) (sym (store_adds t i budget (tests_of ns) (accepted_in t i budget h))) in
        ap answer_in (is ∙ kept_room s (store_of u) short)

pub room_of_stores : RoomOfStores
room_of_stores t i budget h k s u r s' list z l m f room c =
    let hs = leaves_winners t i budget h s (λ y n. z y (inl n)) l in
    let ks = leaves_winners t i budget k u (λ y n. z y (inr n)) m in
    let a = accepted_in t i budget h in
    let b = accepted_in t i budget k in
    let lengths : (eqb (length s) store_length && eqb (length u) store_length) ≡ true =
    rw (eq-eqb (length s) store_length (held_length hs), eq-eqb (length u) store_length (held_length ks)) refl in
    let d : StoreJoined u s (merged_of r s') = subst (λ (b : Bool). IfLent b s (StoreJoined u s) (merged_of r s')) lengths c in
    let short = room_for_so_many (Tree.join a b) list (those_of t i budget (History.join h k) list f) room in
    ap answer_in (d.held (store_of a) (store_of b) hs ks ∙ ap (kept s) (store_join a b) ∙ kept_room s (store_of (Tree.join a b)) short)

-- ---- 60

pub full_exactly : FullExactly
full_exactly t i budget h s x r s' z l a c = (λ e. only (kept_full s fs (sym (ap answer_in is) ∙ e)), λ e. ap answer_in (is ∙ kept_none s fs (if e.0 e.1)))
  where
    u : Tree
    u = accepted_in t i budget h

    es : List Record
    es = store_of u

    fs : List Record
    fs = insert (judged_test t i budget x) es

    g : StoreHolds s es
    g = leaves_winners t i budget h s z l

    is : merged_of r s' ≡ kept s fs
    is = recorded t i budget h s x r s' z l a c

    mine : ℕ
    mine = (judged_test t i budget x).appliance

    -- no accepted record of this appliance, or one
    looked : Winner u mine (lookup mine es)
    looked = answers_winner u mine

    only : capacity < length fs → (length es ≡ capacity) × ((y : Test) → Merges y h → y.appliance ≡ x.appliance → ⊥)
    only more = by (lookup mine es) refl looked
      where
        by : (f : FoundRecord) → lookup mine es ≡ f → Winner u mine f → (length es ≡ capacity) × ((y : Test) → Merges y h → y.appliance ≡ x.appliance → ⊥)
        by FoundRecord.none e w =
            let n = longer_by_one (judged_test t i budget x) es e in (
              omega (arith, g.room, n, more),
              λ y m d. w (judged_test t i budget y) (merged_in t i budget h y m) (judged_appliance t i budget y ∙ d ∙ sym (judged_appliance t i budget x)),
            )
        by (FoundRecord.found v) e w =
            let n = as_long (judged_test t i budget x) es g.rising e in
            absurd (omega (arith, g.room, n, more))

    if : length es ≡ capacity → ((y : Test) → Merges y h → y.appliance ≡ x.appliance → ⊥) → capacity < length fs
    if full new = by (lookup mine es) refl looked
      where
        by : (f : FoundRecord) → lookup mine es ≡ f → Winner u mine f → capacity < length fs
        by FoundRecord.none e w = let n = longer_by_one (judged_test t i budget x) es e in omega (arith, full, n)
        by (FoundRecord.found v) e w =
            let m = in_merged t i budget h v w.0 in
            let d : m.0.appliance ≡ x.appliance = sym (judged_appliance t i budget m.0) ∙ sym (ap (λ (r : Record). r.appliance) m.1.1) ∙ w.1 ∙ judged_appliance t i budget x in
            absurd (new m.0 m.1.0 d)
