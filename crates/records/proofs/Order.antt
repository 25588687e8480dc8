-- `wins` is a total order on the records of one appliance: one of two wins, what wins over a winner wins, and two that win over each other are
-- the same.
-- Assumes nothing.
use mathlib.Core.Bool.{Bool, true, false, cond, ◌&&◌, false≢true}
use mathlib.Core.List.{List, [], ◌∷◌}
use mathlib.Core.Logic.{◌⊎◌, inl, inr}
use mathlib.Core.Path.{◌≡◌, refl, sym, ◌∙◌, ap, subst}
use Prim.Native.Nat.{ℕ, ◌-◌, ◌<◌, ◌^◌}
use native.Mathlib.Omega.{arith}
use lib.Dec.{eqb, ltb, leb}
use lib.IntN.{ℤ, pos, negsuc}
use lib.Signed.{le_z}
use borrow.Author.Tests.{eq-eqb, ne_eqb, eqb-true, eqb-false, lt-ltb, ltb-true, ltb-false, le-leb, leb-true, leb-false}
use Rattle.language.specs.Instructions.{int64, width, signed}
use Rattle.language.specs.Arithmetic.{meaning}
use Rattle.language.proofs.Widths.{meaning_is}
use Rattle.records.specs.declared.Record.{Record}
use Rattle.records.specs.Records.{SizedRecord, compared, greater, lower, meant, larger, wins, best}

-- ---- whole numbers

leb_either : (m n : ℕ) → (leb m n ≡ true) ⊎ (leb n m ≡ true)
leb_either m n = by (leb m n) refl
  where
    by : (b : Bool) → leb m n ≡ b → (leb m n ≡ true) ⊎ (leb n m ≡ true)
    by true i = inl i
    by false i = inr (let l = leb-false m n i in le-leb n m (omega arith))

leb_onward : (l m n : ℕ) → leb l m ≡ true → leb m n ≡ true → leb l n ≡ true
leb_onward l m n p q = let a = leb-true l m p in let b = leb-true m n q in le-leb l n (omega arith)

leb_same : (m n : ℕ) → leb m n ≡ true → leb n m ≡ true → m ≡ n
leb_same m n p q = let a = leb-true m n p in let b = leb-true n m q in omega arith

le_z_either : (x y : ℤ) → (le_z x y ≡ true) ⊎ (le_z y x ≡ true)
le_z_either (pos m) (pos n) = leb_either m n
le_z_either (pos m) (negsuc n) = inr refl
le_z_either (negsuc m) (pos n) = inl refl
le_z_either (negsuc m) (negsuc n) = leb_either n m

le_z_onward : (x y z : ℤ) → le_z x y ≡ true → le_z y z ≡ true → le_z x z ≡ true
le_z_onward (pos l) (pos m) (pos n) p q = leb_onward l m n p q
le_z_onward (pos l) (pos m) (negsuc n) p q = q
le_z_onward (pos l) (negsuc m) z p q = absurd (false≢true p)
le_z_onward (negsuc l) y (pos n) p q = refl
le_z_onward (negsuc l) (pos m) (negsuc n) p q = absurd (false≢true q)
le_z_onward (negsuc l) (negsuc m) (negsuc n) p q = leb_onward n m l q p

le_z_same : (x y : ℤ) → le_z x y ≡ true → le_z y x ≡ true → x ≡ y
le_z_same (pos m) (pos n) p q = ap pos (leb_same m n p q)
le_z_same (pos m) (negsuc n) p q = absurd (false≢true p)
le_z_same (negsuc m) (pos n) p q = absurd (false≢true q)
le_z_same (negsuc m) (negsuc n) p q = ap negsuc (leb_same m n q p)

pub int64_means : (x : ℕ) → x < 2 ^ 64 → meaning int64 x ≡ cond (leb (2 ^ 63) x) (negsuc (2 ^ 64 - 1 - x)) (pos x)
unfolding width signed
int64_means x l = meaning_is int64 x l

-- two numbers of a type that mean the same are the same
pub meaning_apart : (t x y : ℕ) → x < 2 ^ width t → y < 2 ^ width t → meaning t x ≡ meaning t y → x ≡ y
meaning_apart t x y l m e =
    by (signed t && leb (2 ^ (width t - 1)) x) (signed t && leb (2 ^ (width t - 1)) y) (sym (meaning_is t x l) ∙ e ∙ meaning_is t y m)
  where
    by : (b c : Bool) → cond b (negsuc (2 ^ width t - 1 - x)) (pos x) ≡ cond c (negsuc (2 ^ width t - 1 - y)) (pos y) → x ≡ y
    by true true e = let d : 2 ^ width t - 1 - x ≡ 2 ^ width t - 1 - y = cc in omega arith
    by true false e = absurd (let z : ◌≡◌ {A = ℕ} 0 1 = cc in omega arith)
    by false true e = absurd (let z : ◌≡◌ {A = ℕ} 0 1 = cc in omega arith)
    by false false e = cc

-- ---- one comparison after the other

-- The records agree in these numbers.
abbrev Agree : List (Record → ℕ) → Record → Record → Type 0
Agree [] x y = Unit {0}
Agree (k ∷ ks) x y = (k x ≡ k y) × Agree ks x y

-- One of two wins, what wins over a winner wins, and two that win over each other agree in all that is compared.
record Ordered (ge : Record → Record → Bool) (ks : List (Record → ℕ)) : Type 0 where
  either : (x y : Record) → (ge x y ≡ true) ⊎ (ge y x ≡ true)
  onward : (x y z : Record) → ge x y ≡ true → ge y z ≡ true → ge x z ≡ true
  same : (x y : Record) → SizedRecord x → SizedRecord y → ge x y ≡ true → ge y x ≡ true → Agree ks x y

larger_ordered : Ordered larger ((λ r. r.reading) ∷ [])
unfolding larger meant width
larger_ordered =
    record {
      either = λ x y. le_z_either (meant y) (meant x);
      onward = λ x y z p q. le_z_onward (meant z) (meant y) (meant x) q p;
      same = λ x y h k p q. (meaning_apart _ x.reading y.reading h.reading k.reading (le_z_same (meant x) (meant y) q p), tt);
    }

-- Of two different numbers one is ahead of the other, and not the other of it.
record Strict (ahead : ℕ → ℕ → Bool) : Type 0 where
  either : (m n : ℕ) → (m ≡ n → ⊥) → (ahead m n ≡ true) ⊎ (ahead n m ≡ true)
  onward : (l m n : ℕ) → ahead l m ≡ true → ahead m n ≡ true → ahead l n ≡ true
  one_way : (m n : ℕ) → ahead m n ≡ true → ahead n m ≡ true → ⊥

less_strict : Strict lower
less_strict =
    record {
      either = λ m n d. by m n d (ltb m n) refl;
      onward = λ l m n p q. let a = ltb-true l m p in let b = ltb-true m n q in lt-ltb l n (omega arith);
      one_way = λ m n p q. let a = ltb-true m n p in let b = ltb-true n m q in omega arith;
    }
  where
    by : (m n : ℕ) → (m ≡ n → ⊥) → (b : Bool) → ltb m n ≡ b → (ltb m n ≡ true) ⊎ (ltb n m ≡ true)
    by m n d true i = inl i
    by m n d false i = inr (let l = ltb-false m n i in lt-ltb n m (omega arith))

more_strict : Strict greater
more_strict =
    record {
      either = λ m n d. less_strict.either n m (λ e. d (sym e));
      onward = λ l m n p q. less_strict.onward n m l q p;
      one_way = λ m n p q. less_strict.one_way n m p q;
    }

-- The numbers differ in favour of x, or they are the same and what comes next decides.
abbrev Ahead : (ℕ → ℕ → Bool) → (Record → ℕ) → (Record → Record → Bool) → Record → Record → Type 0
Ahead ahead k next x y = (ahead (k x) (k y) ≡ true) ⊎ ((k x ≡ k y) × (next x y ≡ true))

module _ (ahead : ℕ → ℕ → Bool) (s : Strict ahead) (k : Record → ℕ) (next : Record → Record → Bool) where
  compared_is : (x y : Record) → compared ahead k next x y ≡ true → Ahead ahead k next x y
  unfolding compared
  compared_is x y e = by (eqb (k x) (k y)) refl e
    where
      by : (b : Bool) → eqb (k x) (k y) ≡ b → cond b (next x y) (ahead (k x) (k y)) ≡ true → Ahead ahead k next x y
      by true i e = inr (eqb-true (k x) (k y) i, e)
      by false i e = inl e

  ahead_apart : (m n : ℕ) → ahead m n ≡ true → m ≡ n → ⊥
  ahead_apart m n a e = s.one_way m n a (subst (λ (i : ℕ). ahead n i ≡ true) (sym e) (subst (λ (i : ℕ). ahead i n ≡ true) e a))

  is_compared : (x y : Record) → Ahead ahead k next x y → compared ahead k next x y ≡ true
  unfolding compared
  is_compared x y (inl h) = rw (ne_eqb (k x) (k y) (ahead_apart (k x) (k y) h)) h
  is_compared x y (inr h) = rw (eq-eqb (k x) (k y) h.0) h.1

  module _ {ks : List (Record → ℕ)} (o : Ordered next ks) where
    compared_either : (x y : Record) → (compared ahead k next x y ≡ true) ⊎ (compared ahead k next y x ≡ true)
    compared_either x y = by (eqb (k x) (k y)) refl (o.either x y)
      where
        apart : (ahead (k x) (k y) ≡ true) ⊎ (ahead (k y) (k x) ≡ true) → (compared ahead k next x y ≡ true) ⊎ (compared ahead k next y x ≡ true)
        apart (inl a) = inl (is_compared x y (inl a))
        apart (inr a) = inr (is_compared y x (inl a))

        by :
            (b : Bool) → eqb (k x) (k y) ≡ b → (next x y ≡ true) ⊎ (next y x ≡ true)
            → (compared ahead k next x y ≡ true) ⊎ (compared ahead k next y x ≡ true)
        by true i (inl e) = inl (is_compared x y (inr (eqb-true (k x) (k y) i, e)))
        by true i (inr e) = inr (is_compared y x (inr (sym (eqb-true (k x) (k y) i), e)))
        by false i e = apart (s.either (k x) (k y) (eqb-false (k x) (k y) i))

    ahead_onward : (x y z : Record) → Ahead ahead k next x y → Ahead ahead k next y z → Ahead ahead k next x z
    ahead_onward x y z (inl p) (inl q) = inl (s.onward (k x) (k y) (k z) p q)
    ahead_onward x y z (inl p) (inr q) = inl (subst (λ (n : ℕ). ahead (k x) n ≡ true) q.0 p)
    ahead_onward x y z (inr p) (inl q) = inl (subst (λ (n : ℕ). ahead n (k z) ≡ true) (sym p.0) q)
    ahead_onward x y z (inr p) (inr q) = inr (p.0 ∙ q.0, o.onward x y z p.1 q.1)

    ahead_same : (x y : Record) → SizedRecord x → SizedRecord y → Ahead ahead k next x y → Ahead ahead k next y x → Agree (k ∷ ks) x y
    ahead_same x y h i (inl p) (inl q) = absurd (s.one_way (k x) (k y) p q)
    ahead_same x y h i (inl p) (inr q) = absurd (ahead_apart (k x) (k y) p (sym q.0))
    ahead_same x y h i (inr p) (inl q) = absurd (ahead_apart (k y) (k x) q (sym p.0))
    ahead_same x y h i (inr p) (inr q) = (p.0, o.same x y h i p.1 q.1)

    compared_ordered : Ordered (compared ahead k next) (k ∷ ks)
    compared_ordered =
        record {
          either = compared_either;
          onward = λ x y z p q. is_compared x z (ahead_onward x y z (compared_is x y p) (compared_is y z q));
          same = λ x y h i p q. ahead_same x y h i (compared_is x y p) (compared_is y x q);
        }

-- ---- which of two wins

wins_ordered : Ordered wins ((λ r. r.time) ∷ ((λ r. r.fail) ∷ ((λ r. r.tablet) ∷ ((λ r. r.reading) ∷ []))))
unfolding wins
wins_ordered = search (compared_ordered, more_strict, less_strict, larger_ordered)

pub wins_either : (x y : Record) → (wins x y ≡ true) ⊎ (wins y x ≡ true)
wins_either = wins_ordered.either

pub wins_onward : (x y z : Record) → wins x y ≡ true → wins y z ≡ true → wins x z ≡ true
wins_onward = wins_ordered.onward

pub wins_self : (x : Record) → wins x x ≡ true
wins_self x = by (wins_either x x)
  where
    by : (wins x x ≡ true) ⊎ (wins x x ≡ true) → wins x x ≡ true
    by (inl e) = e
    by (inr e) = e

-- two records of an appliance that win over each other are the same
pub wins_same : (x y : Record) → SizedRecord x → SizedRecord y → x.appliance ≡ y.appliance → wins x y ≡ true → wins y x ≡ true → x ≡ y
wins_same x y h k e p q =
    let s = wins_ordered.same x y h k p q in
    λ i. record { appliance = e i; time = s.0 i; fail = s.1.0 i; tablet = s.1.1.0 i; reading = s.1.1.1.0 i }

-- ---- the winner of two

pub best_left : (x y : Record) → wins (best x y) x ≡ true
unfolding best
best_left x y = by (wins x y) refl (wins_either x y)
  where
    by : (b : Bool) → wins x y ≡ b → (wins x y ≡ true) ⊎ (wins y x ≡ true) → wins (cond b x y) x ≡ true
    by true i e = wins_self x
    by false i (inl e) = absurd (false≢true (sym i ∙ e))
    by false i (inr e) = e

pub best_right : (x y : Record) → wins (best x y) y ≡ true
unfolding best
best_right x y = by (wins x y) refl
  where
    by : (b : Bool) → wins x y ≡ b → wins (cond b x y) y ≡ true
    by true i = i
    by false i = wins_self y

-- the winner is one of the two
pub best_is : (P : Record → Type 0) (x y : Record) → P x → P y → P (best x y)
unfolding best
best_is P x y p q = by (wins x y)
  where
    by : (b : Bool) → P (cond b x y)
    by true = p
    by false = q
