-- The place that a search finds, in the records that a store holds. Assumes nothing.
use mathlib.Core.Bool.{Bool, true, false, cond, ◌&&◌}
use mathlib.Core.List.{List, map}
use mathlib.Core.Logic.{inl, inr}
use mathlib.Core.Path.{◌≡◌, refl, sym, ◌∙◌, ap, subst}
use Prim.Native.Nat.{ℕ, zero, suc, ◌+◌, ◌<◌}
use native.Mathlib.Nat.{le_of_suc-le-suc}
use native.Mathlib.Omega.{arith}
use lib.Dec.{ltb, leb, eqb}
use lib.ListN.{length}
use borrow.Author.Tests.{lt-ltb, le-ltb, ltb-true, eqb-true, ltb-false, eqb-false}
use Rattle.laws.specs.Lists.{position, below, from}
use Rattle.laws.proofs.Positions.{position_of}
use Rattle.records.specs.declared.Record.{Record}
use Rattle.records.specs.Stores.{FoundRecord, Among, StoreHolds, record_at, count_of, records_of}
use Rattle.records.specs.Answers.{Looked, LookedIn}
use Rattle.records.proofs.Placing.{Placed, Absent, placed, rising_at, lookup_known, lookup_new}
use Rattle.records.proofs.Cells.{no_record, held_count, held_record}
use Rattle.store.specs.Places.{Sorted, FirstPlace, stands_at, looked_at}

-- ---- a place and what stands there

stands_cases : (s : List ℕ) (n p a : ℕ) (b : Bool) → stands_at s n p a ≡ b → cond b ((p < n) × ((record_at s p).appliance ≡ a)) (p < n → (record_at s p).appliance ≡ a → ⊥)
unfolding stands_at
stands_cases s n p a b e = by (ltb p n) (eqb (record_at s p).appliance a) b refl refl e
  where
    by : (x y b : Bool) → ltb p n ≡ x → eqb (record_at s p).appliance a ≡ y → (x && y) ≡ b → cond b ((p < n) × ((record_at s p).appliance ≡ a)) (p < n → (record_at s p).appliance ≡ a → ⊥)
    by true true true i j e = (ltb-true p n i, eqb-true (record_at s p).appliance a j)
    by true true false i j e = absurd (let z : ◌≡◌ {A = ℕ} 0 1 = cc in omega arith)
    by true false true i j e = absurd (let z : ◌≡◌ {A = ℕ} 0 1 = cc in omega arith)
    by true false false i j e = λ l. eqb-false (record_at s p).appliance a j
    by false y true i j e = absurd (let z : ◌≡◌ {A = ℕ} 0 1 = cc in omega arith)
    by false y false i j e = λ l. absurd (let h = ltb-false p n i in omega arith)

pub stands_yes : (s : List ℕ) (n p a : ℕ) → stands_at s n p a ≡ true → (p < n) × ((record_at s p).appliance ≡ a)
stands_yes s n p a e = stands_cases s n p a true e

pub stands_no : (s : List ℕ) (n p a : ℕ) → stands_at s n p a ≡ false → p < n → (record_at s p).appliance ≡ a → ⊥
stands_no s n p a e = stands_cases s n p a false e

-- ---- of the records that are held

module _ {s : List ℕ} {es : List Record} (h : StoreHolds s es) where
  sorted_held : Sorted s (length es)
  sorted_held i j l m =
      let p = held_record h no_record i (omega arith) in
      let q = held_record h no_record j m in
      let x = rising_at es no_record h.rising i j l m in
      rw (ap (λ (r : Record). r.appliance) p, ap (λ (r : Record). r.appliance) q) x

  pub placed_held : (n a p : ℕ) → n ≡ count_of s → FirstPlace s n a p → Placed a es no_record p
  placed_held n a p c k =
      let e : n ≡ length es = c ∙ held_count h in
      let first : p ≡ position (λ i. leb a (record_at s i).appliance) (below n) = k.first (rw e sorted_held) in
      placed a es no_record p
      (first ∙ ap (λ (m : ℕ). position (λ i. leb a (record_at s i).appliance) (below m)) e
      ∙ position_of (λ e. leb a e.appliance) (λ i. leb a (record_at s i).appliance) no_record es
      (λ i l. ap (λ (r : Record). leb a r.appliance) (held_record h no_record i l)))

-- ---- looked up

among_from : (f : ℕ → Record) (k n i : ℕ) → i < n → Among (f (k + i)) (map f (from k n))
among_from f k zero i l = absurd (omega arith)
among_from f k (suc n) zero l = inl (ap f (omega arith))
among_from f k (suc n) (suc i) l =
    let e : suc k + i ≡ k + suc i = omega arith in
    inr (subst (λ (m : ℕ). Among (f m) (map f (from (suc k) n))) e (among_from f (suc k) n i (le_of_suc-le-suc l)))

pub among_records : (s : List ℕ) (i : ℕ) → i < count_of s → Among (record_at s i) (records_of s)
unfolding records_of
among_records s i l =
    let e : 0 + i ≡ i = omega arith in
    subst (λ (m : ℕ). Among (record_at s m) (map (record_at s) (below (count_of s)))) e (among_from (record_at s) 0 (count_of s) i l)

module _ (s : List ℕ) (n a p : ℕ) (c : n ≡ count_of s) (k : FirstPlace s n a p) where
  pub looked_there : stands_at s n p a ≡ true → LookedIn s a (Looked.looked (looked_at s p))
  unfolding looked_at
  looked_there t =
      let there = stands_yes s n p a t in
      let l : p < count_of s = omega (arith, there.0) in
      rw (lt-ltb p (count_of s) l)
      (record {
        held = λ es h.
            let m : p < length es = omega (arith, held_count h) in
            let e = held_record h no_record p m in
            ap (λ (r : Record). Looked.looked (FoundRecord.found r)) e
            ∙ ap Looked.looked (sym (lookup_known a es no_record p (placed_held h n a p c k) m (ap (λ (r : Record). r.appliance) (sym e) ∙ there.1)));
        among = inr (record_at s p, (refl, (among_records s p l, there.1)));
      })

  pub looked_nowhere : stands_at s n p a ≡ false → LookedIn s a (Looked.looked (looked_at s n))
  unfolding looked_at
  looked_nowhere t =
      rw (le-ltb n (count_of s) (omega arith))
      (record {
        held = λ es h.
            let absent : Absent a es no_record p = λ m g.
            stands_no s n p a t (omega (arith, held_count h)) (ap (λ (r : Record). r.appliance) (held_record h no_record p m) ∙ g) in
            ap Looked.looked (sym (lookup_new a es no_record p h.rising (placed_held h n a p c k) absent));
        among = inl refl;
      })
