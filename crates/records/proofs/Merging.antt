-- Records one after the other into a store: what is looked up then; and two stores in one pass are the same.
-- Assumes nothing.
use mathlib.Core.Bool.{Bool, true, false, cond}
use mathlib.Core.List.{List, [], ◌∷◌}
use mathlib.Core.Path.{◌≡◌, refl, sym, ◌∙◌, ap, ap₂, subst, subst⁻¹}
use Prim.Native.Nat.{ℕ, ◌<◌}
use native.Mathlib.Omega.{arith}
use lib.Dec.{eqb}
use borrow.Author.Tests.{eqb-true, eqb-false}
use Rattle.records.specs.declared.Record.{Record}
use Rattle.records.specs.Records.{best}
use Rattle.records.specs.Stores.{FoundRecord, insert, inserts, lookup, Above, Rising, beside, joined}
use Rattle.records.proofs.Storing.{by_order, best_appliance, above_rising, rising_insert, rising_inserts, lookup_here, lookup_past, above_none, best_of, lookup_same, lookup_other, stores_same}

-- The better of what was found and what comes.
abbrev pub best_found : FoundRecord → FoundRecord → FoundRecord
best_found x FoundRecord.none = x
best_found x (FoundRecord.found f) = FoundRecord.found (best_of f x)

-- a look-up after a store went into a store is the better of the two stores' own
pub lookup_inserts : (a : ℕ) (es fs : List Record) → Rising es → Rising fs → lookup a (inserts fs es) ≡ best_found (lookup a es) (lookup a fs)
unfolding inserts
lookup_inserts a es [] h k = refl
lookup_inserts a es (f ∷ fs) h k = lookup_inserts a (insert f es) fs (rising_insert f es h) k.1 ∙ by (eqb f.appliance a) refl
  where
    by :
        (b : Bool) → eqb f.appliance a ≡ b
        → best_found (lookup a (insert f es)) (lookup a fs) ≡ best_found (lookup a es) (cond b (FoundRecord.found f) (lookup a fs))
    by true i =
        let at : f.appliance ≡ a = eqb-true f.appliance a i in
        let none-later : lookup a fs ≡ FoundRecord.none = above_none a fs (subst (λ (n : ℕ). Above n fs) at k.0) in
        rw none-later (subst (λ (n : ℕ). lookup n (insert f es) ≡ FoundRecord.found (best_of f (lookup n es))) at (lookup_same f es h))
    by false i = ap (λ (x : FoundRecord). best_found x (lookup a fs)) (lookup_other a f es (eqb-false f.appliance a i))

-- ---- one pass

module _ (e : Record) (es : List Record) (next : List Record → List Record) where
  above_beside : (a : ℕ) → Above a (e ∷ es) → ((fs : List Record) → Above a fs → Above a (next fs)) → (fs : List Record) → Above a fs → Above a (beside e es next fs)
  above_beside a h g [] k = h
  above_beside a h g (f ∷ fs) k =
      by_order (Above a) e.appliance f.appliance (λ l. (h.0, g (f ∷ fs) k))
      (λ d. (subst⁻¹ (λ (n : ℕ). a < n) (best_appliance f e (sym d)) h.0, g fs k.1))
      (λ l. (k.0, above_beside a h g fs k.1))

  -- what is left of the one store and the other, all above n, join to what is above n
  rising_beside :
      Rising (e ∷ es) → ((n : ℕ) (fs : List Record) → Above n es → Above n fs → Above n (next fs)) → ((fs : List Record) → Rising fs → Rising (next fs))
      → (fs : List Record) → Rising fs → Rising (beside e es next fs)
  rising_beside h g r [] k = h
  rising_beside h g r (f ∷ fs) k =
      by_order Rising e.appliance f.appliance
      (λ l. (g e.appliance (f ∷ fs) h.0 (above_rising e.appliance f fs l k), r (f ∷ fs) k))
      (λ d. (subst⁻¹ (λ (n : ℕ). Above n (next fs)) (best_appliance f e (sym d)) (g e.appliance fs h.0 (subst⁻¹ (λ (n : ℕ). Above n fs) d k.0)), r fs k.1))
      (λ l. (above_beside f.appliance (above_rising f.appliance e es l h) (λ gs i. g f.appliance gs (above_rising f.appliance e es l h).1 i) fs k.0, rising_beside h g r fs k.1))

  lookup_beside :
      (a : ℕ) → Rising (e ∷ es) → ((fs : List Record) → Rising fs → lookup a (next fs) ≡ best_found (lookup a es) (lookup a fs))
      → (fs : List Record) → Rising fs → lookup a (beside e es next fs) ≡ best_found (lookup a (e ∷ es)) (lookup a fs)
  lookup_beside a h g [] k = refl
  lookup_beside a h g (f ∷ fs) k =
      by_order (λ (gs : List Record). lookup a gs ≡ best_found (lookup a (e ∷ es)) (lookup a (f ∷ fs))) e.appliance f.appliance
      (λ l. first l (eqb e.appliance a) refl) (λ d. both d (eqb f.appliance a) refl)
      (λ l. second l (eqb f.appliance a) refl (lookup_beside a h g fs k.1))
    where
      first : e.appliance < f.appliance → (b : Bool) → eqb e.appliance a ≡ b → lookup a (e ∷ next (f ∷ fs)) ≡ best_found (lookup a (e ∷ es)) (lookup a (f ∷ fs))
      first l true i =
          let at = eqb-true e.appliance a i in
          lookup_here a e (next (f ∷ fs)) at
          ∙ sym (ap₂ best_found (lookup_here a e es at) (above_none a (f ∷ fs) (above_rising a f fs (omega arith) k)))
      first l false i =
          let n = eqb-false e.appliance a i in
          lookup_past a e (next (f ∷ fs)) n ∙ g (f ∷ fs) k ∙ sym (ap (λ (x : FoundRecord). best_found x (lookup a (f ∷ fs))) (lookup_past a e es n))

      both : e.appliance ≡ f.appliance → (b : Bool) → eqb f.appliance a ≡ b → lookup a (best f e ∷ next fs) ≡ best_found (lookup a (e ∷ es)) (lookup a (f ∷ fs))
      both d true i =
          let at = eqb-true f.appliance a i in
          lookup_here a (best f e) (next fs) (best_appliance f e (sym d) ∙ d ∙ at)
          ∙ sym (ap₂ best_found (lookup_here a e es (d ∙ at)) (lookup_here a f fs at))
      both d false i =
          let n = eqb-false f.appliance a i in
          lookup_past a (best f e) (next fs) (λ x. n (sym d ∙ sym (best_appliance f e (sym d)) ∙ x)) ∙ g fs k.1
          ∙ sym (ap₂ best_found (lookup_past a e es (λ x. n (sym d ∙ x))) (lookup_past a f fs n))

      second :
          f.appliance < e.appliance → (b : Bool) → eqb f.appliance a ≡ b → lookup a (beside e es next fs) ≡ best_found (lookup a (e ∷ es)) (lookup a fs)
          → lookup a (f ∷ beside e es next fs) ≡ best_found (lookup a (e ∷ es)) (lookup a (f ∷ fs))
      second l true i q =
          let at = eqb-true f.appliance a i in
          lookup_here a f (beside e es next fs) at
          ∙ sym (ap₂ best_found (above_none a (e ∷ es) (above_rising a e es (omega arith) h)) (lookup_here a f fs at))
      second l false i q =
          let n = eqb-false f.appliance a i in
          lookup_past a f (beside e es next fs) n ∙ q ∙ sym (ap (best_found (lookup a (e ∷ es))) (lookup_past a f fs n))

above_joined : (a : ℕ) (es fs : List Record) → Above a es → Above a fs → Above a (joined es fs)
above_joined a [] fs h k = k
above_joined a (e ∷ es) fs h k = above_beside e es (joined es) a h (λ gs i. above_joined a es gs h.1 i) fs k

pub rising_joined : (es fs : List Record) → Rising es → Rising fs → Rising (joined es fs)
rising_joined [] fs h k = k
rising_joined (e ∷ es) fs h k =
    rising_beside e es (joined es) h (λ n gs i j. above_joined n es gs i j) (λ gs i. rising_joined es gs h.1 i) fs k

lookup_joined : (a : ℕ) (es fs : List Record) → Rising es → Rising fs → lookup a (joined es fs) ≡ best_found (lookup a es) (lookup a fs)
lookup_joined a [] fs h k = alone (lookup a fs)
  where
    alone : (x : FoundRecord) → x ≡ best_found FoundRecord.none x
    alone FoundRecord.none = refl
    alone (FoundRecord.found f) = refl
lookup_joined a (e ∷ es) fs h k = lookup_beside e es (joined es) a h (λ gs i. lookup_joined a es gs h.1 i) fs k

-- two stores in one pass are the one's records into the other, one after the other
pub joined_is : (es fs : List Record) → Rising es → Rising fs → joined es fs ≡ inserts fs es
joined_is es fs h k =
    stores_same (joined es fs) (inserts fs es) (rising_joined es fs h k) (rising_inserts fs es h)
    (λ a. lookup_joined a es fs h k ∙ sym (lookup_inserts a es fs h k))
