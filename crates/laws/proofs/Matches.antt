-- A `match` with one arm for the rest: on the numbers 0, 1 and so on, where the rest are the numbers past them, and on any numbers. Assumes nothing.
use mathlib.Core.Path.{◌≡◌, refl, sym}
use mathlib.Core.Bool.{false}
use mathlib.Core.List.{List, [], ◌∷◌}
use Prim.Native.Nat.{ℕ, zero, suc, ◌≤◌, zero-le}
use borrow.Author.Tests.{ne_eqb}
use Rattle.laws.specs.Lists.{member}
use native.Mathlib.Omega.{arith}

-- k is none of the numbers below n
abbrev pub None : (n k : ℕ) → Type 0
None zero k = Unit
None (suc n) k = None n k × (k ≡ n → ⊥)

pub past : (n k : ℕ) → None n k → n ≤ k
past zero k h = zero-le
past (suc n) k h = let l : n ≤ k = past n k h.0 in let m : k ≡ n → ⊥ = h.1 in omega arith

-- k is none of these numbers
abbrev NoneAfter : Type 0 → List ℕ → ℕ → Type 0
NoneAfter P [] k = P
NoneAfter P (n ∷ ns) k = NoneAfter (P × (k ≡ n → ⊥)) ns k

abbrev pub NoneOf : List ℕ → ℕ → Type 0
NoneOf ns k = NoneAfter Unit ns k

none_after : (P : Type 0) (ns : List ℕ) (k : ℕ) → NoneAfter P ns k → P × (member k ns ≡ false)
none_after P [] k h = (h, refl)
none_after P (n ∷ ns) k h =
    let later = none_after (P × (k ≡ n → ⊥)) ns k h in
    (later.0.0, rw (ne_eqb n k (λ e. later.0.1 (sym e))) later.1)

pub none_of : (ns : List ℕ) (k : ℕ) → NoneOf ns k → member k ns ≡ false
none_of ns k h = (none_after Unit ns k h).1
