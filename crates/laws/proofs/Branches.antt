-- A value against a definition by cases, one law for each kind of test: where the test is known, the case is.
-- Assumes nothing.
use mathlib.Core.Path.{◌≡◌, refl, ◌∙◌, sym, ap, subst}
use mathlib.Core.Bool.{Bool, true, false, cond}
use Prim.Native.Nat.{ℕ, ◌≤◌, ◌<◌}
use lib.Dec.{T, eqb, leb, ltb}
use borrow.Author.Tests.{lt-ltb, le-ltb, le-leb, lt-leb, eq-eqb, ne_eqb}

-- what holds of both cases, of the first where the test passes
pub choose : {A : Type 0} (P : A → Type 0) (b : Bool) {x y : A} → (T b → P x) → P y → P (cond b x y)
choose P true p q = p tt
choose P false p q = q

-- the test does not matter
pub cond_same : {A : Type 0} (b : Bool) (x : A) → cond b x x ≡ x
cond_same true x = refl
cond_same false x = refl

module _ {A : Type 0} (z x y : A) where
  pub by_true : (b : Bool) → b ≡ true → z ≡ x → z ≡ cond b x y
  by_true b e p = p ∙ sym (ap (λ (c : Bool). cond c x y) e)

  pub by_false : (b : Bool) → b ≡ false → z ≡ y → z ≡ cond b x y
  by_false b e p = p ∙ sym (ap (λ (c : Bool). cond c x y) e)

  module _ (a b : ℕ) where
    pub by_lt : a < b → z ≡ x → z ≡ cond (ltb a b) x y
    by_lt h p = by_true (ltb a b) (lt-ltb a b h) p

    pub by_not_lt : b ≤ a → z ≡ y → z ≡ cond (ltb a b) x y
    by_not_lt h p = by_false (ltb a b) (le-ltb a b h) p

    pub by_le : a ≤ b → z ≡ x → z ≡ cond (leb a b) x y
    by_le h p = by_true (leb a b) (le-leb a b h) p

    pub by_not_le : b < a → z ≡ y → z ≡ cond (leb a b) x y
    by_not_le h p = by_false (leb a b) (lt-leb a b h) p

    pub by_eq : a ≡ b → z ≡ x → z ≡ cond (eqb a b) x y
    by_eq h p = by_true (eqb a b) (eq-eqb a b h) p

    pub by_ne : (a ≡ b → ⊥) → z ≡ y → z ≡ cond (eqb a b) x y
    by_ne h p = by_false (eqb a b) (ne_eqb a b h) p

    -- a is another number k, as in an arm of a `match`
    pub by_other : (k : ℕ) → a ≡ k → eqb k b ≡ false → z ≡ y → z ≡ cond (eqb a b) x y
    by_other k e h p = by_false (eqb a b) (ap (λ (n : ℕ). eqb n b) e ∙ h) p

    -- a is what a call gave
    pub by_lt_of : (r : ℕ) → r ≡ a → r < b → z ≡ x → z ≡ cond (ltb a b) x y
    by_lt_of r e h p = by_true (ltb a b) (lt-ltb a b (subst (λ (n : ℕ). n < b) e h)) p

    pub by_not_lt_of : (r : ℕ) → r ≡ a → b ≤ r → z ≡ y → z ≡ cond (ltb a b) x y
    by_not_lt_of r e h p = by_false (ltb a b) (le-ltb a b (subst (λ (n : ℕ). b ≤ n) e h)) p

pub ruleset branches = (by_true, by_false, by_lt, by_not_lt, by_le, by_not_le, by_eq, by_ne, by_other, by_lt_of, by_not_lt_of)
