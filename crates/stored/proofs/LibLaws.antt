-- Bytes whose records follow each other, and that are their records' store, hold them. Assumes nothing.
use mathlib.Core.Bool.{Bool, true, false}
use mathlib.Core.List.{List, [], map}
use mathlib.Core.Path.{◌≡◌, refl, sym, ap, subst, ◌∙◌}
use Prim.Native.Nat.{ℕ, zero, suc, ◌+◌, ◌-◌, ◌≤◌, ◌<◌}
use native.Mathlib.Decide.{dec_lt}
use native.Mathlib.Nat.{not-suc-le-zero}
use native.Mathlib.Omega.{arith}
use lib.Dec.{leb, ltb}
use lib.ListN.{length, get_or}
use borrow.Author.Tests.{le-leb, ltb-true, ltb-false}
use Rattle.laws.specs.Lists.{from, below}
use Rattle.laws.proofs.Ranges.{length_map_from, get_or_map_from}
use Rattle.records.specs.declared.Record.{Record}
use Rattle.records.specs.Records.{SizedRecord}
use Rattle.records.specs.Stores.{Rising, AllSized, StoreHolds, capacity, store_cells, record_at, count_of, records_of, joined}
use Rattle.records.specs.Answers.{MergedStore, kept, kept_as}
use Rattle.records.proofs.Cells.{no_record, sized_at, held_count, held_record, held_records, empty_holds}
use Rattle.records.proofs.Placing.{rising_at, at_rising}
use Rattle.stored.specs.Known.{Tells, RecordFollows, AllFollow, IsStore}

-- ---- answers

pub told : {P : Type 0} → P → Tells true P
told p = record { yes = λ e. p; no = λ e q. let z : ◌≡◌ {A = ℕ} 0 1 = cc in omega arith }

pub told_not : {P : Type 0} → (P → ⊥) → Tells false P
told_not n = record { yes = λ e. absurd (let z : ◌≡◌ {A = ℕ} 0 1 = cc in omega arith); no = λ e p. n p }

-- ---- records that follow each other

-- by the two numbers that are compared
pub compared :
    (s : List ℕ) (i : ℕ) → SizedRecord (record_at s i) → (i ≡ 0 → ⊥) → {x y : ℕ} → x ≡ (record_at s (i - 1)).appliance → y ≡ (record_at s i).appliance → Tells (ltb x y) (RecordFollows s i)
compared s i h n {x} {y} p q =
    let before : (j : ℕ) → suc j ≡ i → (record_at s (i - 1)).appliance ≡ (record_at s j).appliance = λ j e. ap (λ (k : ℕ). (record_at s k).appliance) (omega arith) in
    record {
      yes = λ e. (h, λ j g. omega (arith, ltb-true x y e, before j g));
      no = λ e f. let l = f.1 (i - 1) (omega arith) in omega (arith, ltb-false x y e);
    }

module _ (s : List ℕ) where
  -- so each comes after all before it
  climbs : (n : ℕ) → AllFollow s n → (i j : ℕ) → i < j → j < n → (record_at s i).appliance < (record_at s j).appliance
  climbs n h i zero l m = absurd (not-suc-le-zero l)
  climbs n h i (suc j) l m =
      let next = (h (suc j) m).1 j refl in
      elim (dec_lt i j) [
        | yes k ↦ let below = climbs n h i j k (omega arith) in omega (arith, below, next)
        | no k ↦ let same : i ≡ j = omega arith in subst (λ (x : ℕ). (record_at s x).appliance < (record_at s (suc j)).appliance) (sym same) next
      ]

  record_there : (n i : ℕ) → i < n → get_or (map (record_at s) (below n)) i no_record ≡ record_at s i
  record_there n i l = get_or_map_from (record_at s) no_record 0 n i l ∙ ap (record_at s) (let z : 0 + i ≡ i = omega arith in z)

  rises : (n : ℕ) → AllFollow s n → Rising (map (record_at s) (below n))
  rises n h =
      at_rising (map (record_at s) (below n)) no_record
      (λ i j l m.
      let k : j < n = omega (arith, length_map_from (record_at s) 0 n) in
      rw (record_there n i (omega arith), record_there n j k) (climbs n h i j l k))

  sized_from : (k n : ℕ) → ((i : ℕ) → i < k + n → SizedRecord (record_at s i)) → AllSized (map (record_at s) (from k n))
  sized_from k zero h = tt
  sized_from k (suc n) h = (h k (omega arith), sized_from (suc k) n (λ i l. h i (omega arith)))

  -- with their store's bytes they are held
  pub follow_holds : AllFollow s (count_of s) → count_of s ≤ capacity → store_cells (records_of s) ≡ s → IsStore s
  unfolding records_of
  follow_holds h room e = (
    records_of s,
    record {
      rising = rises (count_of s) h;
      sized = sized_from 0 (count_of s) (λ i l. (h i (omega arith)).0);
      room = omega (arith, length_map_from (record_at s) 0 (count_of s));
      bytes = sym e;
    },
  )

-- ---- bytes that hold records

module _ {s : List ℕ} {es : List Record} (h : StoreHolds s es) where
  pub holds_follow : AllFollow s (count_of s)
  holds_follow i l =
      let k : i < length es = omega (arith, held_count h) in (
        subst SizedRecord (sym (held_record h no_record i k)) (sized_at es no_record h.sized i k),
        λ j e.
            let number : Record → ℕ = λ r. r.appliance in
            omega (arith, rising_at es no_record h.rising j i (omega arith) k, ap number (held_record h no_record i k), ap number (held_record h no_record j (omega arith))),
      )

  pub holds_again : store_cells (records_of s) ≡ s
  holds_again = ap store_cells (held_records h) ∙ sym h.bytes

-- ---- merged into an empty store

store_kept : (b : Bool) (t : List ℕ) → (kept_as b t).store ≡ t
store_kept true t = refl
store_kept false t = refl

length_records_of : (s : List ℕ) → length (records_of s) ≡ count_of s
unfolding records_of
length_records_of s = length_map_from (record_at s) 0 (count_of s)

pub again_is :
    (s empty out : List ℕ) (b : Bool) → empty ≡ store_cells [] → count_of s ≤ capacity
    → kept_as b out ≡ kept empty (joined (records_of empty) (records_of s)) → out ≡ store_cells (records_of s)
unfolding kept
again_is s empty out b e room k =
    let none : records_of empty ≡ [] = ap records_of e ∙ held_records empty_holds in
    let told = subst (λ (es : List Record). kept_as b out ≡ kept empty (joined es (records_of s))) none k in
    let fits : leb (length (records_of s)) capacity ≡ true = le-leb (length (records_of s)) capacity (omega (arith, length_records_of s)) in
    sym (store_kept b out) ∙ ap (λ (m : MergedStore). m.store) told ∙ rw fits refl

-- the records follow, and the bytes are compared with what they merge to
pub known :
    (s : List ℕ) {n : ℕ} {f b : Bool} {again : List ℕ} → n ≡ count_of s → n ≤ capacity → f ≡ true → Tells f (AllFollow s n) → again ≡ store_cells (records_of s)
    → (b ≡ true → again ≡ s) × (again ≡ s → b ≡ true) → Tells b (IsStore s)
known s e room all follow is same =
    record {
      yes = λ t. follow_holds s (subst (AllFollow s) e (follow.yes all)) (omega arith) (sym is ∙ same.0 t);
      no = λ t k. let u = same.1 (is ∙ holds_again k.1) in let z : ◌≡◌ {A = ℕ} 0 1 = cc in omega arith;
    }
