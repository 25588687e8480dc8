-- What stands at a place of a store, as a look-up tells it. Assumes nothing.
use mathlib.Core.Bool.{Bool, true, false, cond}
use mathlib.Core.List.{List, map}
use mathlib.Core.Path.{◌≡◌, refl, ◌∙◌, ap, subst⁻¹}
use Prim.Native.Nat.{ℕ, ◌+◌, ◌<◌, ◌≤◌}
use native.Mathlib.Omega.{arith}
use lib.Dec.{eqb, ltb}
use lib.ListN.{length}
use borrow.Author.Tests.{lt-ltb, le-ltb, ltb-true, eq-eqb, ne_eqb}
use Rattle.laws.specs.Lists.{below}
use Rattle.laws.proofs.Ranges.{length_map_from, get_or_map_from}
use Rattle.records.specs.declared.Record.{Record}
use Rattle.records.specs.Stores.{FoundRecord, store_length, count_of, record_at, records_of, nth}
use Rattle.records.specs.Answers.{Looked, LentToLook}
use Rattle.store.specs.Places.{looked_at}

pub looked_none : (s : List ℕ) (p : ℕ) → count_of s ≤ p → looked_at s p ≡ FoundRecord.none
unfolding looked_at
looked_none s p l = ap (λ (b : Bool). cond b (FoundRecord.found (record_at s p)) FoundRecord.none) (le-ltb p (count_of s) l)

pub looked_found : (s : List ℕ) (p : ℕ) → p < count_of s → looked_at s p ≡ FoundRecord.found (record_at s p)
unfolding looked_at
looked_found s p l = ap (λ (b : Bool). cond b (FoundRecord.found (record_at s p)) FoundRecord.none) (lt-ltb p (count_of s) l)

-- the n-th record is what stands at place n
pub nth_looked : (s : List ℕ) (n : ℕ) → nth n (records_of s) ≡ looked_at s n
unfolding looked_at records_of
nth_looked s n = rw (length_map_from (record_at s) 0 (count_of s)) (by (ltb n (count_of s)) refl)
  where
    none : Record
    none = record { appliance = 0; time = 0; fail = 0; tablet = 0; reading = 0 }

    by : (b : Bool) → ltb n (count_of s) ≡ b → cond b (FoundRecord.found (lib.ListN.get_or (map (record_at s) (below (count_of s))) n none)) FoundRecord.none ≡ cond b (FoundRecord.found (record_at s n)) FoundRecord.none
    by true e =
        let z : 0 + n ≡ n = omega arith in
        ap FoundRecord.found (get_or_map_from (record_at s) none 0 (count_of s) n (ltb-true n (count_of s) e) ∙ ap (record_at s) z)
    by false e = refl

-- a store lent to look into, by its length
pub lent_look : (s : List ℕ) (P : Looked → Type 0) (l : Looked) → length s ≡ store_length → P l → LentToLook (eqb (length s) store_length) P l
lent_look s P l e h = subst⁻¹ (λ (b : Bool). LentToLook b P l) (eq-eqb (length s) store_length e) h

pub lent_other : (s : List ℕ) (P : Looked → Type 0) → (length s ≡ store_length → ⊥) → LentToLook (eqb (length s) store_length) P (Looked.refused 22)
lent_other s P n = subst⁻¹ (λ (b : Bool). LentToLook b P (Looked.refused 22)) (ne_eqb (length s) store_length n) refl
