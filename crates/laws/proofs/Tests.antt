-- Tests as facts: what a Bool test that passes or fails says of its parts (`and_l`, `and_r`, `and_i`, `is_true` and `is_false` are in
-- the library `lib`).
-- Assumes nothing.
use mathlib.Core.Path.{◌≡◌, refl, sym, ◌∙◌}
use mathlib.Core.Bool.{Bool, true, false, not, ◌&&◌, ◌||◌, beq, true≢false, false≢true}
use Prim.Native.Nat.{ℕ, ◌≤◌, ◌<◌}
use native.Mathlib.Omega.{arith}
use lib.Dec.{T, eqb, leb, ltb}
use borrow.Author.Tests.{leb-true, leb-false, ltb-true, ltb-false, eqb-true, eqb-false, lt-ltb, le-ltb, le-leb, lt-leb, eq-eqb, ne_eqb}

pub of_true : (b : Bool) → b ≡ true → T b
of_true true e = tt
of_true false e = false≢true e

pub of_false : (b : Bool) → b ≡ false → T (not b)
of_false true e = true≢false e
of_false false e = tt

-- a fault that is not found
pub of_not_false : (b : Bool) → not b ≡ false → T b
of_not_false true e = tt
of_not_false false e = true≢false e

pub not_is_false : (b : Bool) → T b → not b ≡ false
not_is_false true h = refl
not_is_false false h = absurd h

pub or_left : (a b : Bool) → (a || b) ≡ false → a ≡ false
or_left true b e = e
or_left false b e = refl

pub or_right : (a b : Bool) → (a || b) ≡ false → b ≡ false
or_right true b e = absurd (true≢false e)
or_right false b e = e

pub or_neither : (a b : Bool) → a ≡ false → b ≡ false → (a || b) ≡ false
or_neither true b e k = e
or_neither false b e k = k

pub beq_eq : (a b : Bool) → T (beq a b) → a ≡ b
beq_eq true true h = refl
beq_eq true false h = absurd h
beq_eq false true h = absurd h
beq_eq false false h = refl

pub eq_beq : (a b : Bool) → a ≡ b → T (beq a b)
eq_beq true true e = tt
eq_beq true false e = true≢false e
eq_beq false true e = false≢true e
eq_beq false false e = tt

-- two tests that hold together are the same
pub same_less : (p q r s : ℕ) → (p < q → r < s) → (q ≤ p → s ≤ r) → ltb p q ≡ ltb r s
same_less p q r s f g = by (ltb p q) refl
  where
    by : (b : Bool) → ltb p q ≡ b → ltb p q ≡ ltb r s
    by true e = e ∙ sym (lt-ltb r s (f (ltb-true p q e)))
    by false e = e ∙ sym (le-ltb r s (g (ltb-false p q e)))

pub same_equal : (p q r s : ℕ) → (p ≡ q → r ≡ s) → (r ≡ s → p ≡ q) → eqb p q ≡ eqb r s
same_equal p q r s f g = by (eqb p q) refl
  where
    by : (b : Bool) → eqb p q ≡ b → eqb p q ≡ eqb r s
    by true e = e ∙ sym (eq-eqb r s (f (eqb-true p q e)))
    by false e = e ∙ sym (ne_eqb r s (λ k. eqb-false p q e (g k)))

-- at most is not more
pub le_not_lt : (a b : ℕ) → leb a b ≡ not (ltb b a)
le_not_lt a b = by (ltb b a) refl
  where
    by : (c : Bool) → ltb b a ≡ c → leb a b ≡ not (ltb b a)
    by true e = rw e (lt-leb a b (ltb-true b a e))
    by false e = rw e (le-leb a b (ltb-false b a e))

-- both at most the other
pub both_le : (a b : ℕ) → (leb a b && leb b a) ≡ eqb a b
both_le a b = by (leb a b) (leb b a) refl refl
  where
    by : (c d : Bool) → leb a b ≡ c → leb b a ≡ d → (leb a b && leb b a) ≡ eqb a b
    by true true e f = rw (e, f) (sym (eq-eqb a b (omega (arith, leb-true a b e, leb-true b a f))))
    by true false e f = rw (e, f) (sym (ne_eqb a b (λ k. omega (arith, leb-false b a f))))
    by false d e f = rw e (sym (ne_eqb a b (λ k. omega (arith, leb-false a b e))))

-- tests that follow from each other are equal
pub both_ways : (a b : Bool) → (T a → T b) → (T b → T a) → a ≡ b
both_ways true true p q = refl
both_ways true false p q = absurd (p tt)
both_ways false true p q = absurd (q tt)
both_ways false false p q = refl
