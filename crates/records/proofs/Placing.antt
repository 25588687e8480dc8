-- Inserting and looking up at the place that a search finds: the first whose appliance is not smaller.
-- Assumes nothing.
use mathlib.Core.List.{List, [], ◌∷◌, ◌++◌}
use mathlib.Core.Path.{◌≡◌, refl, sym, ◌∙◌, ap, subst⁻¹}
use Prim.Native.Nat.{ℕ, zero, suc, ◌≤◌, ◌<◌, suc-le-suc}
use native.Mathlib.Nat.{not-suc-le-zero, le_of_suc-le-suc, zero-lt-suc}
use native.Mathlib.Omega.{arith}
use lib.Dec.{leb}
use lib.ListN.{length, get_or, take, drop}
use borrow.Author.Tests.{eq-eqb, ne_eqb, lt-ltb, le-ltb, leb-true, leb-false}
use Rattle.laws.specs.Lists.{position}
use Rattle.laws.proofs.Positions.{position_le, position_hit, position_before}
use Rattle.records.specs.declared.Record.{Record}
use Rattle.records.specs.Records.{best}
use Rattle.records.specs.Stores.{FoundRecord, insert, lookup, Above, Rising}
use Rattle.records.proofs.Storing.{above_none, above_rising, lookup_here, lookup_past}

-- ---- rising, by places

above_at : (a : ℕ) (es : List Record) (d : Record) → Above a es → (i : ℕ) → i < length es → a < (get_or es i d).appliance
above_at a [] d h i l = absurd (not-suc-le-zero l)
above_at a (e ∷ es) d h zero l = h.0
above_at a (e ∷ es) d h (suc i) l = above_at a es d h.1 i (le_of_suc-le-suc l)

at_above : (a : ℕ) (es : List Record) (d : Record) → ((i : ℕ) → i < length es → a < (get_or es i d).appliance) → Above a es
at_above a [] d h = tt
at_above a (e ∷ es) d h = (h zero (zero-lt-suc (length es)), at_above a es d (λ i l. h (suc i) (suc-le-suc l)))

pub rising_at : (es : List Record) (d : Record) → Rising es → (i j : ℕ) → i < j → j < length es → (get_or es i d).appliance < (get_or es j d).appliance
rising_at [] d h i j l m = absurd (not-suc-le-zero m)
rising_at (e ∷ es) d h i zero l m = absurd (not-suc-le-zero l)
rising_at (e ∷ es) d h zero (suc j) l m = above_at e.appliance es d h.0 j (le_of_suc-le-suc m)
rising_at (e ∷ es) d h (suc i) (suc j) l m = rising_at es d h.1 i j (le_of_suc-le-suc l) (le_of_suc-le-suc m)

pub at_rising : (es : List Record) (d : Record) → ((i j : ℕ) → i < j → j < length es → (get_or es i d).appliance < (get_or es j d).appliance) → Rising es
at_rising [] d h = tt
at_rising (e ∷ es) d h =
    (at_above e.appliance es d (λ j l. h zero (suc j) (zero-lt-suc j) (suc-le-suc l)), at_rising es d (λ i j l m. h (suc i) (suc j) (suc-le-suc l) (suc-le-suc m)))

-- ---- the place

-- Where a record of appliance a stands or would stand: before the first whose appliance is not smaller.
abbrev pub place_of : ℕ → List Record → ℕ
place_of a es = position (λ e. leb a e.appliance) es

-- All before p are smaller, and the one at p is not: what a search by halves finds of a rising store.
pub record Placed (a : ℕ) (es : List Record) (d : Record) (p : ℕ) : Type 0 where
  pub within : p ≤ length es
  pub before : (i : ℕ) → i < p → (get_or es i d).appliance < a
  pub least : p < length es → a ≤ (get_or es p d).appliance

pub place_is : (a : ℕ) (es : List Record) (d : Record) → Placed a es d (place_of a es)
place_is a es d =
    record {
      within = position_le (λ e. leb a e.appliance) es;
      before = λ i l. leb-false a (get_or es i d).appliance (position_before (λ e. leb a e.appliance) d es i l);
      least = λ l. leb-true a (get_or es (place_of a es) d).appliance (position_hit (λ e. leb a e.appliance) d es l);
    }

pub placed : (a : ℕ) (es : List Record) (d : Record) (p : ℕ) → p ≡ place_of a es → Placed a es d p
placed a es d p e = subst⁻¹ (Placed a es d) e (place_is a es d)

-- the place in what comes after the first record
past : {a : ℕ} {e : Record} {es : List Record} {d : Record} {p : ℕ} → Placed a (e ∷ es) d (suc p) → Placed a es d p
past h =
    record {
      within = le_of_suc-le-suc h.within;
      before = λ i l. h.before (suc i) (suc-le-suc l);
      least = λ l. h.least (suc-le-suc l);
    }

-- ---- inserting and looking up there

-- No record at place p is of appliance a.
abbrev pub Absent : ℕ → List Record → Record → ℕ → Type 0
Absent a es d p = p < length es → (get_or es p d).appliance ≡ a → ⊥

-- a record of a new appliance goes in at its place
pub insert_new : (r : Record) (es : List Record) (d : Record) (p : ℕ) → Placed r.appliance es d p → Absent r.appliance es d p
    → insert r es ≡ take p es ++ (r ∷ drop p es)
insert_new r [] d zero h n = refl
insert_new r [] d (suc p) h n = absurd (not-suc-le-zero h.within)
insert_new r (e ∷ es) d zero h n =
    let l = h.least (zero-lt-suc (length es)) in
    let x = n (zero-lt-suc (length es)) in
    rw (lt-ltb r.appliance e.appliance (omega arith))
insert_new r (e ∷ es) d (suc p) h n =
    let l = h.before zero (zero-lt-suc p) in
    rw (le-ltb r.appliance e.appliance (omega arith), ne_eqb r.appliance e.appliance (λ x. absurd (omega arith)))
    (ap (λ (t : List Record). e ∷ t) (insert_new r es d p (past h) (λ m. n (suc-le-suc m))))

-- one of an appliance that is there takes its place if it wins
pub insert_known : (r : Record) (es : List Record) (d : Record) (p : ℕ) → Placed r.appliance es d p → p < length es → (get_or es p d).appliance ≡ r.appliance
    → insert r es ≡ take p es ++ (best r (get_or es p d) ∷ drop (suc p) es)
insert_known r [] d p h l x = absurd (not-suc-le-zero l)
insert_known r (e ∷ es) d zero h l x = rw (le-ltb r.appliance e.appliance (omega arith), eq-eqb r.appliance e.appliance (sym x))
insert_known r (e ∷ es) d (suc p) h l x =
    let m = h.before zero (zero-lt-suc p) in
    rw (le-ltb r.appliance e.appliance (omega arith), ne_eqb r.appliance e.appliance (λ y. absurd (omega arith)))
    (ap (λ (t : List Record). e ∷ t) (insert_known r es d p (past h) (le_of_suc-le-suc l) x))

-- a new appliance is not found
pub lookup_new : (a : ℕ) (es : List Record) (d : Record) (p : ℕ) → Rising es → Placed a es d p → Absent a es d p → lookup a es ≡ FoundRecord.none
lookup_new a [] d p k h n = refl
lookup_new a (e ∷ es) d zero k h n =
    let l = h.least (zero-lt-suc (length es)) in
    let x = n (zero-lt-suc (length es)) in
    above_none a (e ∷ es) (above_rising a e es (omega arith) k)
lookup_new a (e ∷ es) d (suc p) k h n =
    let l = h.before zero (zero-lt-suc p) in
    lookup_past a e es (λ x. absurd (omega arith)) ∙ lookup_new a es d p k.1 (past h) (λ m. n (suc-le-suc m))

-- one that is there is found at its place
pub lookup_known : (a : ℕ) (es : List Record) (d : Record) (p : ℕ) → Placed a es d p → p < length es → (get_or es p d).appliance ≡ a
    → lookup a es ≡ FoundRecord.found (get_or es p d)
lookup_known a [] d p h l x = absurd (not-suc-le-zero l)
lookup_known a (e ∷ es) d zero h l x = lookup_here a e es x
lookup_known a (e ∷ es) d (suc p) h l x =
    let m = h.before zero (zero-lt-suc p) in
    lookup_past a e es (λ y. absurd (omega arith)) ∙ lookup_known a es d p (past h) (le_of_suc-le-suc l) x
