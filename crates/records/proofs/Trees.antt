-- Any order and grouping of merges over the same records gives the same store, whose look-ups are the winners, and
-- which is no longer than there are appliances.
-- Assumes nothing.
use mathlib.Core.Bool.{Bool, true, false, cond, not}
use mathlib.Core.List.{List, [], ◌∷◌}
use mathlib.Core.Logic.{◌⊎◌, inl, inr}
use mathlib.Core.Path.{◌≡◌, refl, sym, ◌∙◌, ap, subst, subst⁻¹}
use Prim.Native.Nat.{ℕ, ◌≤◌}
use native.Mathlib.Omega.{arith}
use lib.Dec.{eqb}
use lib.Ieee.Bits.{is_true}
use lib.ListN.{length}
use borrow.Author.Tests.{eqb-true, eqb-false, ne_eqb}
use Rattle.laws.specs.Lists.{member, keep}
use Rattle.laws.proofs.Every.{member_keep}
use Rattle.laws.proofs.Keep.{any_keep}
use Rattle.laws.proofs.Sums.{length_keeps}
use Rattle.records.specs.declared.Record.{Record}
use Rattle.records.specs.Records.{wins, best}
use Rattle.records.specs.Stores.{FoundRecord, insert, inserts, lookup, Above, Rising, AllSized}
use Rattle.records.specs.Trees.{Tree, In, store_of, Winner, SizedIn, SameRecords, AnyOrder, MergedTwice, AnswersWinner, OneWinner, RoomForSoMany}
use Rattle.records.proofs.Order.{wins_onward, wins_same, wins_self, best_left, best_right, best_is}
use Rattle.records.proofs.Storing.{rising_insert, rising_inserts, sized_insert, sized_inserts, lookup_here, lookup_past, above_none, stores_same}
use Rattle.records.proofs.Merging.{best_found, lookup_inserts}

-- ---- the store of a tree

pub rising_store : (t : Tree) → Rising (store_of t)
unfolding store_of
rising_store Tree.empty = tt
rising_store (Tree.add x t) = rising_insert x (store_of t) (rising_store t)
rising_store (Tree.join t u) = rising_inserts (store_of u) (store_of t) (rising_store t)

pub sized_store : (t : Tree) → SizedIn t → AllSized (store_of t)
unfolding store_of
sized_store Tree.empty h = tt
sized_store (Tree.add x t) h = sized_insert x (store_of t) (h x (inl refl)) (sized_store t (λ r i. h r (inr i)))
sized_store (Tree.join t u) h = sized_inserts (store_of u) (store_of t) (sized_store u (λ r i. h r (inr i))) (sized_store t (λ r i. h r (inl i)))

-- ---- the winner

-- a winner of some records is one of the same records in another tree
winner_moved : (t u : Tree) → SameRecords t u → (a : ℕ) (x : FoundRecord) → Winner t a x → Winner u a x
winner_moved t u s a FoundRecord.none h = λ r i e. h r ((s r).1 i) e
winner_moved t u s a (FoundRecord.found x) h = ((s x).0 h.0, h.1, λ r i e. h.2 r ((s r).1 i) e)

-- the better of two trees' winners wins over both
winner_join : (t u : Tree) (a : ℕ) (x y : FoundRecord) → Winner t a x → Winner u a y → Winner (Tree.join t u) a (best_found x y)
winner_join t u a FoundRecord.none FoundRecord.none h k = λ r i e. neither r e i
  where
    neither : (r : Record) → r.appliance ≡ a → In r t ⊎ In r u → ⊥
    neither r e (inl i) = h r i e
    neither r e (inr i) = k r i e
winner_join t u a (FoundRecord.found x) FoundRecord.none h k = (inl h.0, h.1, λ r i e. by r i e)
  where
    by : (r : Record) → In r t ⊎ In r u → r.appliance ≡ a → wins x r ≡ true
    by r (inl i) e = h.2 r i e
    by r (inr i) e = absurd (k r i e)
winner_join t u a FoundRecord.none (FoundRecord.found y) h k = (inr k.0, k.1, λ r i e. by r i e)
  where
    by : (r : Record) → In r t ⊎ In r u → r.appliance ≡ a → wins y r ≡ true
    by r (inl i) e = absurd (h r i e)
    by r (inr i) e = k.2 r i e
winner_join t u a (FoundRecord.found x) (FoundRecord.found y) h k =
    (best_is (λ r. In r t ⊎ In r u) y x (inr k.0) (inl h.0), best_is (λ r. r.appliance ≡ a) y x k.1 h.1, λ r i e. by r i e)
  where
    by : (r : Record) → In r t ⊎ In r u → r.appliance ≡ a → wins (best y x) r ≡ true
    by r (inl i) e = wins_onward (best y x) x r (best_right y x) (h.2 r i e)
    by r (inr i) e = wins_onward (best y x) y r (best_left y x) (k.2 r i e)

-- One record alone.
abbrev one : Record → Tree
one x = Tree.add x Tree.empty

winner_one : (x : Record) (a : ℕ) → Winner (one x) a (lookup a (x ∷ []))
winner_one x a = by (eqb x.appliance a) refl
  where
    same : (r : Record) → (r ≡ x) ⊎ ⊥ → r ≡ x
    same r (inl e) = e
    same r (inr e) = absurd e

    by : (b : Bool) → eqb x.appliance a ≡ b → Winner (one x) a (cond b (FoundRecord.found x) FoundRecord.none)
    by true i = (inl refl, eqb-true x.appliance a i, λ r e d. subst⁻¹ (λ (y : Record). wins x y ≡ true) (same r e) (wins_self x))
    by false i = λ r e d. eqb-false x.appliance a i (ap (λ (y : Record). y.appliance) (sym (same r e)) ∙ d)

-- a record that is added is one alone that is joined
joined_one : (x : Record) (t : Tree) → SameRecords (Tree.join t (one x)) (Tree.add x t)
joined_one x t r = (to, from)
  where
    to : In r t ⊎ ((r ≡ x) ⊎ ⊥) → (r ≡ x) ⊎ In r t
    to (inl i) = inr i
    to (inr (inl e)) = inl e
    to (inr (inr e)) = absurd e

    from : (r ≡ x) ⊎ In r t → In r t ⊎ ((r ≡ x) ⊎ ⊥)
    from (inl e) = inr (inl e)
    from (inr i) = inl i

pub answers_winner : AnswersWinner
unfolding store_of inserts
answers_winner Tree.empty a = λ r i e. i
answers_winner (Tree.add x t) a =
    winner_moved (Tree.join t (one x)) (Tree.add x t) (joined_one x t) a (lookup a (insert x (store_of t)))
    (subst⁻¹ (Winner (Tree.join t (one x)) a) (lookup_inserts a (store_of t) (x ∷ []) (rising_store t) (tt, tt))
    (winner_join t (one x) a (lookup a (store_of t)) (lookup a (x ∷ [])) (answers_winner t a) (winner_one x a)))
answers_winner (Tree.join t u) a =
    subst⁻¹ (Winner (Tree.join t u) a) (lookup_inserts a (store_of t) (store_of u) (rising_store t) (rising_store u))
    (winner_join t u a (lookup a (store_of t)) (lookup a (store_of u)) (answers_winner t a) (answers_winner u a))

pub one_winner : OneWinner
one_winner t a FoundRecord.none FoundRecord.none z h k = refl
one_winner t a FoundRecord.none (FoundRecord.found y) z h k = absurd (h y k.0 k.1)
one_winner t a (FoundRecord.found x) FoundRecord.none z h k = absurd (k x h.0 h.1)
one_winner t a (FoundRecord.found x) (FoundRecord.found y) z h k =
    ap FoundRecord.found
    (wins_same x y (z x h.0) (z y k.0) (h.1 ∙ sym k.1) (h.2 y k.0 k.1) (k.2 x h.0 h.1))

-- ---- any order

pub any_order : AnyOrder
any_order t u z s =
    stores_same (store_of t) (store_of u) (rising_store t) (rising_store u)
    (λ a. one_winner t a (lookup a (store_of t)) (lookup a (store_of u)) z (answers_winner t a)
    (winner_moved u t (λ r. ((s r).1, (s r).0)) a (lookup a (store_of u)) (answers_winner u a)))

pub merged_twice : MergedTwice
merged_twice x t z i = sym (any_order t (Tree.add x t) z (λ r. (inr, back r)))
  where
    back : (r : Record) → (r ≡ x) ⊎ In r t → In r t
    back r (inl e) = subst⁻¹ (λ (q : Record). In q t) e i
    back r (inr j) = j

-- ---- room

-- a rising store whose appliances are all in a list is no longer than the list
few_appliances :
    (es : List Record) (ns : List ℕ) → Rising es → ((a : ℕ) (w : Record) → lookup a es ≡ FoundRecord.found w → member a ns ≡ true) → length es ≤ length ns
few_appliances [] ns h k = omega arith
few_appliances (e ∷ es) ns h k =
    let one_less = any_keep (λ n. eqb n e.appliance) ns (k e.appliance e (lookup_here e.appliance e es refl)) in
    let parts = length_keeps (λ n. eqb n e.appliance) ns in
    let rest : length es ≤ length (keep (λ n. not (eqb n e.appliance)) ns) =
    few_appliances es (keep (λ n. not (eqb n e.appliance)) ns) h.1
    (λ a w i. member_keep (λ n. not (eqb n e.appliance)) a ns (ap not (ne_eqb a e.appliance (other a w i))) (k a w (lookup_past a e es (λ x. other a w i (sym x)) ∙ i))) in
    omega arith
  where
    other : (a : ℕ) (w : Record) → lookup a es ≡ FoundRecord.found w → a ≡ e.appliance → ⊥
    other a w i x =
        let gone : lookup a es ≡ FoundRecord.none = above_none a es (subst⁻¹ (λ (n : ℕ). Above n es) x h.0) in
        let z : ◌≡◌ {A = ℕ} 0 1 = cc in
        omega arith

pub room_for_so_many : RoomForSoMany
room_for_so_many t ns h l =
    let few = few_appliances (store_of t) ns (rising_store t) (λ a w i. all a w (subst (Winner t a) i (answers_winner t a))) in
    omega arith
  where
    all : (a : ℕ) (w : Record) → Winner t a (FoundRecord.found w) → member a ns ≡ true
    all a w k = subst (λ (n : ℕ). member n ns ≡ true) k.1 (is_true (member w.appliance ns) (h w k.0))
