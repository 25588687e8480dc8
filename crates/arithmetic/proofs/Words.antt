-- Numbers of w = 64 - s bits, computed with 64: w is at most 64, so what is right modulo 2^64 is right modulo 2^w, and a number shifted
-- up by s has its highest bit at the highest of 64.
-- Assumes nothing.
use Rattle.std.proofs.Common.{◌≡◌, ℕ, ◌+◌, ◌-◌, ◌*◌, ◌/◌, ◌%◌, ◌^◌, ◌<◌, ◌≤◌, Bool, true, false, cond, not, eqb, ltb, leb, sym, refl, ap, ◌∙◌, mul-le-mul_right, mod-eq_of_lt, mul_assoc, add-mul, mul-lt-mul_of_pos_right, zero-add, arith, pow_pos, pow_mono, pow-add, shl_lt, shr-shr, ltb-false, ltb-true, le-ltb, lt-ltb}
use native.Mathlib.Nat.{add-mod_right}
use lib.Pow.{shl-shr}
use Rattle.laws.proofs.Modulo.{shifts_keep, shift_ones, mod_within, mod_mul_mod, mod_difference}
use Rattle.laws.proofs.Tests.{same_less, same_equal, le_not_lt}
use Rattle.language.specs.Arithmetic.{Computed, sub, neg, rol, ror, within}
use Rattle.std.specs.Prelude.{Result, Ok, Err, IsErrAnd}
use Rattle.answers.specs.declared.reasons.Stop.{Stop}
use Rattle.answers.specs.declared.reasons.Stop.TheVariants as why
use Rattle.arithmetic.specs.Results.{result_of, rank_of}

-- what wraps at 64 bits, added again
pub taken_away : (a b : ℕ) → a < 2 ^ 64 → b < 2 ^ 64 → ((a + (2 ^ 64 - b)) % 2 ^ 64 + b) % 2 ^ 64 ≡ a
taken_away a b l m = omega arith

-- ---- the order of numbers shifted up

module _ (p q s : ℕ) where
  pub shifted_less : ltb (p * 2 ^ s) (q * 2 ^ s) ≡ ltb p q
  shifted_less = sym (same_less p q (p * 2 ^ s) (q * 2 ^ s) (λ h. mul-lt-mul_of_pos_right h (pow_pos s)) (λ h. mul-le-mul_right (2 ^ s) h))

  pub shifted_equal : eqb (p * 2 ^ s) (q * 2 ^ s) ≡ eqb p q
  shifted_equal =
      sym
      (same_equal p q (p * 2 ^ s) (q * 2 ^ s) (λ h. ap (λ (n : ℕ). n * 2 ^ s) h)
      (λ h. sym (shl-shr p s) ∙ ap (λ (n : ℕ). n / 2 ^ s) h ∙ shl-shr q s))

module _ (s : ℕ) (l : s < 64) where
  whole : 64 - s + s ≡ 64
  whole = omega arith

  pub kept : (x : ℕ) → (x * 2 ^ s) % 2 ^ 64 / 2 ^ s ≡ x % 2 ^ (64 - s)
  kept x = shifts_keep (64 - s) s x whole

  pub ones_kept : (2 ^ 64 - 1) / 2 ^ s ≡ 2 ^ (64 - s) - 1
  ones_kept = shift_ones (64 - s) s whole

  most : 64 - s ≤ 64
  most = omega arith

  pub all_bits : 2 ^ (64 - s) ≤ 2 ^ 64
  all_bits = pow_mono most

  -- r is n modulo 2^w, computed modulo 2^64 first
  pub reduced : (n : ℕ) {m r : ℕ} → m ≡ n % 2 ^ 64 → r ≡ m % 2 ^ (64 - s) → r ≡ n % 2 ^ (64 - s)
  reduced n e f = f ∙ ap (λ (y : ℕ). y % 2 ^ (64 - s)) e ∙ mod_within most n

  pub subtracted : {a b r : ℕ} (m : ℕ) → b < 2 ^ (64 - s) → (m + b) % 2 ^ 64 ≡ a → r ≡ m % 2 ^ (64 - s) → r ≡ sub (64 - s) a b
  subtracted {a} {b} m h e f = f ∙ mod_difference most m a b e (omega arith)

  pub negated : {a r : ℕ} (m : ℕ) → a < 2 ^ (64 - s) → (m + a) % 2 ^ 64 ≡ 0 → r ≡ m % 2 ^ (64 - s) → r ≡ neg (64 - s) a
  negated {a} m h e f = subtracted m h e f ∙ ap (λ (y : ℕ). y % 2 ^ (64 - s)) (zero-add (2 ^ (64 - s) - a))

  -- ---- the highest bit

  -- the least number of w bits that has it
  abbrev half : ℕ
  half = 2 ^ (64 - s - 1)

  pub two_halves : half + half ≡ 2 ^ (64 - s)
  two_halves =
      let e : 64 - s - 1 + 1 ≡ 64 - s = omega arith in
      let f : 2 ^ (64 - s) ≡ half * 2 = ap (λ (n : ℕ). 2 ^ n) (sym e) ∙ pow-add 2 (64 - s - 1) 1 in
      omega arith

  highest : half * 2 ^ s ≡ 2 ^ 63
  highest = let e : 64 - s - 1 + s ≡ 63 = omega arith in sym (pow-add 2 (64 - s - 1) s) ∙ ap (λ (n : ℕ). 2 ^ n) e

  -- no bit is lost
  below_all : {x : ℕ} → x < 2 ^ (64 - s) → x * 2 ^ s < 2 ^ 64
  below_all h = rw whole at (shl_lt (64 - s) s h)

  lifted : {x : ℕ} → x < 2 ^ (64 - s) → (x * 2 ^ s) % 2 ^ 64 ≡ x * 2 ^ s
  lifted h = mod-eq_of_lt (below_all h)

  pub highest_set : {x : ℕ} → x < 2 ^ (64 - s) → leb (2 ^ 63) ((x * 2 ^ s) % 2 ^ 64) ≡ leb half x
  highest_set {x} h =
      rw (lifted h, ← highest)
      (le_not_lt (half * 2 ^ s) (x * 2 ^ s) ∙ ap not (shifted_less x half s) ∙ sym (le_not_lt half x))

  pub highest_alone : {x : ℕ} → x < 2 ^ (64 - s) → eqb ((x * 2 ^ s) % 2 ^ 64) (2 ^ 63) ≡ eqb x half
  highest_alone {x} h = rw (lifted h, ← highest) (shifted_equal x half s)

  -- the highest bit is added to the highest of 64: the halves change places
  pub ranked : {x : ℕ} → x < 2 ^ (64 - s) → ((x * 2 ^ s) % 2 ^ 64 + 2 ^ 63) % 2 ^ 64 ≡ rank_of (64 - s) x * 2 ^ s
  unfolding rank_of
  ranked {x} h = rw (lifted h) (by (ltb x half) refl)
    where
      up : x < half → x * 2 ^ s < half * 2 ^ s
      up g = mul-lt-mul_of_pos_right g (pow_pos s)

      down : half ≤ x → (x - half) * 2 ^ s + half * 2 ^ s ≡ x * 2 ^ s
      down g = let e : x - half + half ≡ x = omega arith in sym (add-mul (x - half) half (2 ^ s)) ∙ ap (λ (n : ℕ). n * 2 ^ s) e

      by : (c : Bool) → ltb x half ≡ c → (x * 2 ^ s + 2 ^ 63) % 2 ^ 64 ≡ cond c (x + half) (x - half) * 2 ^ s
      by true e = mod-eq_of_lt (omega (arith, up (ltb-true x half e), highest)) ∙ omega (arith, add-mul x half (2 ^ s), highest)
      by false e =
          let d : (x - half) * 2 ^ s + half * 2 ^ s ≡ x * 2 ^ s = down (ltb-false x half e) in
          let f : x * 2 ^ s + 2 ^ 63 ≡ (x - half) * 2 ^ s + 2 ^ 64 = omega (arith, highest) in
          ap (λ (n : ℕ). n % 2 ^ 64) f ∙ add-mod_right ((x - half) * 2 ^ s) (2 ^ 64) ∙ mod-eq_of_lt (omega (arith, below_all h))

-- ---- shifts and rotations by k, below the width

module _ (s a k : ℕ) (l : s < 64) (h : k < 64 - s) where
  -- w - k from the two shifts
  counts : 64 - s - 1 - k + 1 ≡ 64 - s - k
  counts = omega arith

  pub turned_left : {m : ℕ} → m ≡ (a * 2 ^ k) % 2 ^ 64 % 2 ^ (64 - s) → m + a / 2 ^ (64 - s - 1 - k) / 2 ≡ rol (64 - s) a k
  turned_left f =
      let g : a / 2 ^ (64 - s - 1 - k) / 2 ≡ a / 2 ^ (64 - s - k) = shr-shr a (64 - s - 1 - k) 1 ∙ ap (λ (n : ℕ). a / 2 ^ n) counts in
      rw (g, reduced s l (a * 2 ^ k) refl f)

  pub turned_right : {m : ℕ} → m ≡ ((a * 2 ^ (64 - s - 1 - k)) % 2 ^ 64 * 2) % 2 ^ 64 % 2 ^ (64 - s) → a / 2 ^ k + m ≡ ror (64 - s) a k
  turned_right f =
      let g : a * 2 ^ (64 - s - 1 - k) * 2 ≡ a * 2 ^ (64 - s - k) = mul_assoc a (2 ^ (64 - s - 1 - k)) 2 ∙ ap (λ (n : ℕ). a * n) (sym (pow-add 2 (64 - s - 1 - k) 1)) ∙ ap (λ (n : ℕ). a * 2 ^ n) counts in
      let e : ((a * 2 ^ (64 - s - 1 - k)) % 2 ^ 64 * 2) % 2 ^ 64 ≡ (a * 2 ^ (64 - s - k)) % 2 ^ 64 = mod_mul_mod (a * 2 ^ (64 - s - 1 - k)) 2 (2 ^ 64) ∙ ap (λ (n : ℕ). n % 2 ^ 64) g in
      rw (reduced s l (a * 2 ^ (64 - s - k)) e f)

-- 41, "shift or rotation by w or more"
module _ (w k x : ℕ) where
  pub runs : {r : ℕ} → k < w → r ≡ x → Computed.value r ≡ within w k x
  unfolding within
  runs h f = rw (lt-ltb k w h, f)

  -- passed on by a `?`
  pub stops : {e : Stop} (r : Result ℕ Stop) → IsErrAnd r (λ y. y ≡ e) → (e ≡ why.ShiftTooFar) × (w ≤ k) → result_of r ≡ within w k x
  unfolding within
  stops (Err y) i h = rw (le-ltb k w h.1, i, h.0)
  stops (Ok v) i h = absurd i
