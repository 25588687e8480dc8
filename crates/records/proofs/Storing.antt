-- What a store holds: inserting keeps it rising and its records' sizes, and a rising store is known by its look-ups.
-- Assumes nothing.
use mathlib.Core.Bool.{Bool, true, false, cond}
use mathlib.Core.List.{List, [], ◌∷◌}
use mathlib.Core.Path.{◌≡◌, refl, sym, ◌∙◌, ap, subst, subst⁻¹}
use Prim.Native.Nat.{ℕ, suc, ◌≤◌, ◌<◌}
use native.Mathlib.Omega.{arith}
use lib.Dec.{eqb, ltb}
use lib.ListN.{length}
use borrow.Author.Tests.{eq-eqb, ne_eqb, eqb-true, eqb-false, ltb-true, ltb-false}
use Rattle.records.specs.declared.Record.{Record}
use Rattle.records.specs.Records.{SizedRecord, best}
use Rattle.records.specs.Stores.{FoundRecord, insert, inserts, lookup, Above, Rising, AllSized}
use Rattle.records.proofs.Order.{best_is}

-- Two numbers compared as a store compares appliances: what holds in each of the three cases holds.
pub by_order :
    {A : Type 0} (P : A → Type 0) (m n : ℕ) {x y z : A} → (m < n → P x) → (m ≡ n → P y) → (n < m → P z)
    → P (cond (ltb m n) x (cond (eqb m n) y z))
by_order P m n {x} {y} {z} f g h = by (ltb m n) refl (eqb m n) refl
  where
    by : (b : Bool) → ltb m n ≡ b → (c : Bool) → eqb m n ≡ c → P (cond b x (cond c y z))
    by true i c j = f (ltb-true m n i)
    by false i true j = g (eqb-true m n j)
    by false i false j = h (let l = ltb-false m n i in let d = eqb-false m n j in omega arith)

pub best_appliance : (r e : Record) → r.appliance ≡ e.appliance → (best r e).appliance ≡ e.appliance
best_appliance r e d = best_is (λ x. x.appliance ≡ e.appliance) r e d refl

-- ---- rising

pub above_less : (a b : ℕ) → a ≤ b → (es : List Record) → Above b es → Above a es
above_less a b l [] h = tt
above_less a b l (e ∷ es) h = (omega (arith, h.0), above_less a b l es h.1)

-- all are above a number that is below the first
pub above_rising : (a : ℕ) (e : Record) (es : List Record) → a < e.appliance → Rising (e ∷ es) → Above a (e ∷ es)
above_rising a e es l h = (l, above_less a e.appliance (omega arith) es h.0)

above_insert : (a : ℕ) (r : Record) → a < r.appliance → (es : List Record) → Above a es → Above a (insert r es)
above_insert a r l [] h = (l, tt)
above_insert a r l (e ∷ es) h =
    by_order (Above a) r.appliance e.appliance (λ m. (l, h)) (λ d. (subst⁻¹ (λ (n : ℕ). a < n) (best_appliance r e d) h.0, h.1))
    (λ m. (h.0, above_insert a r l es h.1))

pub rising_insert : (r : Record) (es : List Record) → Rising es → Rising (insert r es)
rising_insert r [] h = (tt, tt)
rising_insert r (e ∷ es) h =
    by_order Rising r.appliance e.appliance (λ l. (above_rising r.appliance e es l h, h))
    (λ d. (subst⁻¹ (λ (n : ℕ). Above n es) (best_appliance r e d) h.0, h.1))
    (λ l. (above_insert e.appliance r l es h.0, rising_insert r es h.1))

pub rising_inserts : (rs es : List Record) → Rising es → Rising (inserts rs es)
unfolding inserts
rising_inserts [] es h = h
rising_inserts (r ∷ rs) es h = rising_inserts rs (insert r es) (rising_insert r es h)

-- ---- sizes

pub sized_insert : (r : Record) (es : List Record) → SizedRecord r → AllSized es → AllSized (insert r es)
sized_insert r [] h k = (h, tt)
sized_insert r (e ∷ es) h k =
    by_order AllSized r.appliance e.appliance (λ l. (h, k)) (λ d. (best_is SizedRecord r e h k.0, k.1))
    (λ l. (k.0, sized_insert r es h k.1))

pub sized_inserts : (rs es : List Record) → AllSized rs → AllSized es → AllSized (inserts rs es)
unfolding inserts
sized_inserts [] es h k = k
sized_inserts (r ∷ rs) es h k = sized_inserts rs (insert r es) h.1 (sized_insert r es h.0 k)

-- ---- lengths

-- no record is lost
pub insert_longer : (r : Record) (es : List Record) → length es ≤ length (insert r es)
insert_longer r [] = omega arith
insert_longer r (e ∷ es) =
    let k = insert_longer r es in
    by_order (λ (fs : List Record). suc (length es) ≤ length fs) r.appliance e.appliance (λ l. omega arith) (λ d. omega arith) (λ l. omega arith)

pub inserts_longer : (rs es : List Record) → length es ≤ length (inserts rs es)
unfolding inserts
inserts_longer [] es = omega arith
inserts_longer (r ∷ rs) es = omega (arith, inserts_longer rs (insert r es), insert_longer r es)

-- ---- looking up

pub lookup_here : (a : ℕ) (e : Record) (es : List Record) → e.appliance ≡ a → lookup a (e ∷ es) ≡ FoundRecord.found e
lookup_here a e es d = rw (eq-eqb e.appliance a d)

pub lookup_past : (a : ℕ) (e : Record) (es : List Record) → (e.appliance ≡ a → ⊥) → lookup a (e ∷ es) ≡ lookup a es
lookup_past a e es d = rw (ne_eqb e.appliance a d)

pub above_none : (a : ℕ) (es : List Record) → Above a es → lookup a es ≡ FoundRecord.none
above_none a [] h = refl
above_none a (e ∷ es) h = lookup_past a e es (λ d. absurd (omega (arith, h.0))) ∙ above_none a es h.1

-- The better of a newcomer and what was found of its appliance.
abbrev pub best_of : Record → FoundRecord → Record
best_of r FoundRecord.none = r
best_of r (FoundRecord.found e) = best r e

-- what an inserted record's appliance is looked up as
pub lookup_same : (r : Record) (es : List Record) → Rising es → lookup r.appliance (insert r es) ≡ FoundRecord.found (best_of r (lookup r.appliance es))
lookup_same r [] h = lookup_here r.appliance r [] refl
lookup_same r (e ∷ es) h =
    by_order (λ (fs : List Record). lookup r.appliance fs ≡ FoundRecord.found (best_of r (lookup r.appliance (e ∷ es)))) r.appliance e.appliance
    (λ l. lookup_here r.appliance r (e ∷ es) refl ∙ sym (ap found_best (above_none r.appliance (e ∷ es) (above_rising r.appliance e es l h))))
    (λ d. lookup_here r.appliance (best r e) es (best_appliance r e d ∙ sym d) ∙ sym (ap found_best (lookup_here r.appliance e es (sym d))))
    (λ l. lookup_past r.appliance e (insert r es) (λ d. absurd (omega arith)) ∙ lookup_same r es h.1
    ∙ sym (ap found_best (lookup_past r.appliance e es (λ d. absurd (omega arith)))))
  where
    found_best : FoundRecord → FoundRecord
    found_best x = FoundRecord.found (best_of r x)

-- another appliance is looked up as before
pub lookup_other : (a : ℕ) (r : Record) (es : List Record) → (r.appliance ≡ a → ⊥) → lookup a (insert r es) ≡ lookup a es
lookup_other a r [] n = lookup_past a r [] n
lookup_other a r (e ∷ es) n =
    by_order (λ (fs : List Record). lookup a fs ≡ lookup a (e ∷ es)) r.appliance e.appliance (λ l. lookup_past a r (e ∷ es) n)
    (λ d. lookup_past a (best r e) es (λ x. n (d ∙ sym (best_appliance r e d) ∙ x)) ∙ sym (lookup_past a e es (λ x. n (d ∙ x))))
    (λ l. ap (λ (f : FoundRecord). cond (eqb e.appliance a) (FoundRecord.found e) f) (lookup_other a r es n))

-- ---- a store is its look-ups

pub none_found : {x : Record} → FoundRecord.none ≡ FoundRecord.found x → ⊥
none_found e = let z : ◌≡◌ {A = ℕ} 0 1 = cc in omega arith

-- the first of one store is no record of another whose records are all above it
first_apart : (x : Record) (xs ys : List Record) → Above x.appliance ys → lookup x.appliance (x ∷ xs) ≡ lookup x.appliance ys → ⊥
first_apart x xs ys h e = none_found (sym (above_none x.appliance ys h) ∙ sym e ∙ lookup_here x.appliance x xs refl)

pub stores_same : (es fs : List Record) → Rising es → Rising fs → ((a : ℕ) → lookup a es ≡ lookup a fs) → es ≡ fs
stores_same [] [] h k e = refl
stores_same [] (y ∷ ys) h k e = absurd (first_apart y ys [] tt (sym (e y.appliance)))
stores_same (x ∷ xs) [] h k e = absurd (first_apart x xs [] tt (e x.appliance))
stores_same (x ∷ xs) (y ∷ ys) h k e = by (ltb x.appliance y.appliance) refl (ltb y.appliance x.appliance) refl (stores_same xs ys h.1 k.1)
  where
    by :
        (b : Bool) → ltb x.appliance y.appliance ≡ b → (c : Bool) → ltb y.appliance x.appliance ≡ c
        → (((a : ℕ) → lookup a xs ≡ lookup a ys) → xs ≡ ys) → x ∷ xs ≡ y ∷ ys
    by true i c j f = absurd (first_apart x xs (y ∷ ys) (above_rising x.appliance y ys (ltb-true x.appliance y.appliance i) k) (e x.appliance))
    by false i true j f = absurd (first_apart y ys (x ∷ xs) (above_rising y.appliance x xs (ltb-true y.appliance x.appliance j) h) (sym (e y.appliance)))
    by false i false j f =
        let p = ltb-false x.appliance y.appliance i in
        let q = ltb-false y.appliance x.appliance j in
        let d : y.appliance ≡ x.appliance = omega arith in
        let both : FoundRecord.found x ≡ FoundRecord.found y = sym (lookup_here x.appliance x xs refl) ∙ e x.appliance ∙ lookup_here x.appliance y ys d in
        let head : x ≡ y = cc in
        let tail : xs ≡ ys = f (λ a. later a (eqb x.appliance a) refl d) in
        λ i. head i ∷ tail i
      where
        later : (a : ℕ) (b : Bool) → eqb x.appliance a ≡ b → y.appliance ≡ x.appliance → lookup a xs ≡ lookup a ys
        later a true i d =
            let at : x.appliance ≡ a = eqb-true x.appliance a i in
            above_none a xs (subst (λ (n : ℕ). Above n xs) at h.0) ∙ sym (above_none a ys (subst (λ (n : ℕ). Above n ys) (d ∙ at) k.0))
        later a false i d =
            let n = eqb-false x.appliance a i in
            sym (lookup_past a x xs n) ∙ e a ∙ lookup_past a y ys (λ at. n (sym d ∙ at))
