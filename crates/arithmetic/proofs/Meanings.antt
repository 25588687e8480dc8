-- What a number means, and what whole numbers give modulo 2^w, by their signs and magnitudes.
-- Assumes nothing.
use Rattle.std.proofs.Common.{◌≡◌, ℕ, zero, suc, ◌+◌, ◌-◌, ◌/◌, ◌%◌, ◌^◌, ◌<◌, Bool, true, false, cond, not, ◌&&◌, eqb, ltb, leb, ℤ, pos, negsuc, neg_ℤ, nat_abs, sym, refl, ap, ◌∙◌, mod-eq_of_lt, div-le_self, arith, le-ltb, lt-ltb, ne_eqb, leb-false, leb-true}
use mathlib.Core.Bool.{beq}
use native.Mathlib.Nat.{mod-le, mod_self, zero-mod, sub-zero}
use lib.Pow.{ones_sub-lt}
use lib.Signed.{quot_z, rem_z, shr_z, lt_z, le_z}
use Rattle.language.specs.Instructions.{width, signed}
use Rattle.language.specs.Arithmetic.{Computed, meaning, wrap, neg, flip, overflows, div, rem, shr}
use Rattle.laws.proofs.Tests.{same_less, same_equal, both_le, le_not_lt}
use Rattle.language.proofs.Widths.{powers, meaning_is}
use Rattle.arithmetic.specs.Results.{is_negative, rank_of}
use Rattle.arithmetic.specs.Rooms.{StandFor, reading}
use Rattle.arithmetic.proofs.Words.{two_halves}

-- ---- a number's meaning

-- the width and 64 make each other up
pub width_is : (t : ℕ) {s : ℕ} → s ≡ 64 - width t → 64 - s ≡ width t
width_is t h = omega (arith, powers t)

pub room_below : (t : ℕ) {s : ℕ} → s ≡ 64 - width t → s < 64
room_below t h = omega (arith, powers t)

-- a number of 64 - s bits is read as negative
abbrev pub minus : ℕ → Bool → ℕ → Bool
minus s sign x = sign && leb (2 ^ (64 - s - 1)) x

module _ (s : ℕ) (sign : Bool) (x : ℕ) where
  pub reading_sign : is_negative (reading s sign x) ≡ minus s sign x
  unfolding reading
  reading_sign = by (minus s sign x)
    where
      by : (b : Bool) → is_negative (cond b (negsuc (flip (64 - s) x)) (pos x)) ≡ b
      by true = refl
      by false = refl

  pub reading_negative : is_negative (reading s sign x) ≡ true → reading s sign x ≡ negsuc (flip (64 - s) x)
  unfolding reading
  reading_negative e = rw (sym reading_sign ∙ e)

  pub reading_positive : is_negative (reading s sign x) ≡ false → reading s sign x ≡ pos x
  unfolding reading
  reading_positive e = rw (sym reading_sign ∙ e)

  pub reading_unsigned : sign ≡ false → reading s sign x ≡ pos x
  unfolding reading
  reading_unsigned e = rw e

  -- only 0 means 0
  pub magnitude_positive : (x ≡ 0 → ⊥) → 0 < nat_abs (reading s sign x)
  unfolding reading
  magnitude_positive n = by (minus s sign x)
    where
      by : (b : Bool) → 0 < nat_abs (cond b (negsuc (flip (64 - s) x)) (pos x))
      by true = omega arith
      by false = omega arith

  module _ (m : s < 64) (l : x < 2 ^ (64 - s)) where
    -- the magnitude fits
    pub magnitude_below : nat_abs (reading s sign x) < 2 ^ (64 - s)
    unfolding reading
    magnitude_below = by sign (leb (2 ^ (64 - s - 1)) x) refl
      where
        by : (g b : Bool) → leb (2 ^ (64 - s - 1)) x ≡ b → nat_abs (cond (g && b) (negsuc (flip (64 - s) x)) (pos x)) < 2 ^ (64 - s)
        by true true e = omega (arith, leb-true (2 ^ (64 - s - 1)) x e, two_halves s m)
        by true false e = l
        by false b e = l

    pub magnitude_negative : is_negative (reading s sign x) ≡ true → neg (64 - s) x ≡ nat_abs (reading s sign x)
    magnitude_negative e =
        let f : reading s sign x ≡ negsuc (flip (64 - s) x) = reading_negative e in
        let h : suc (flip (64 - s) x) < 2 ^ (64 - s) = rw f at magnitude_below in
        rw f (mod-eq_of_lt (omega arith) ∙ omega arith)

  -- in a type it is the meaning
  pub meaning_reading : {t : ℕ} → StandFor s sign t → x < 2 ^ (64 - s) → meaning t x ≡ reading s sign x
  unfolding reading
  meaning_reading {t} k l = let e : width t ≡ 64 - s = sym (width_is t k.above) in meaning_is t x (rw e l) ∙ rw (e, ← k.reads)

-- ---- whole numbers modulo 2^w

module _ (w : ℕ) where
  pub wrap_minus : (q : ℕ) → q < 2 ^ w → wrap w (neg_ℤ (pos q)) ≡ neg w q
  unfolding wrap
  wrap_minus zero l = rw sub-zero (zero-mod (2 ^ w) ∙ sym (mod_self (2 ^ w)))
  wrap_minus (suc n) l =
      let e : n % 2 ^ w ≡ n = mod-eq_of_lt (omega arith) in
      let f : (2 ^ w - suc n) % 2 ^ w ≡ 2 ^ w - suc n = mod-eq_of_lt (omega arith) in
      omega arith

  pub wrap_plus : (q : ℕ) → q < 2 ^ w → wrap w (pos q) ≡ q
  unfolding wrap
  wrap_plus q l = mod-eq_of_lt l

  -- "Division truncates toward zero": the quotient of the magnitudes, negated if the signs differ
  pub quotient : (z d : ℤ) → nat_abs z < 2 ^ w → wrap w (quot_z z d)
      ≡ cond (not (beq (is_negative z) (is_negative d))) (neg w (nat_abs z / nat_abs d)) (nat_abs z / nat_abs d)
  quotient (pos a) (pos b) l = let h = div-le_self a b in wrap_plus (a / b) (omega arith)
  quotient (pos a) (negsuc b) l = let h = div-le_self a (suc b) in wrap_minus (a / suc b) (omega arith)
  quotient (negsuc a) (pos b) l = let h = div-le_self (suc a) b in wrap_minus (suc a / b) (omega arith)
  quotient (negsuc a) (negsuc b) l = let h = div-le_self (suc a) (suc b) in wrap_plus (suc a / suc b) (omega arith)

  -- "the remainder has the dividend's sign"
  pub remainder : (z d : ℤ) → nat_abs z < 2 ^ w → wrap w (rem_z z d) ≡ cond (is_negative z) (neg w (nat_abs z % nat_abs d)) (nat_abs z % nat_abs d)
  remainder (pos a) d l = let h = mod-le a (nat_abs d) in wrap_plus (a % nat_abs d) (omega arith)
  remainder (negsuc a) d l = let h = mod-le (suc a) (nat_abs d) in wrap_minus (suc a % nat_abs d) (omega arith)

  -- "`shr` fills with the sign"
  pub shift_negative : (n k : ℕ) → n < 2 ^ w → wrap w (shr_z (negsuc n) (2 ^ k)) ≡ flip w (n / 2 ^ k)
  unfolding wrap
  shift_negative n k l =
      let h = div-le_self n (2 ^ k) in
      let e : n / 2 ^ k % 2 ^ w ≡ n / 2 ^ k = mod-eq_of_lt (omega arith) in
      rw e

  pub shift_positive : (n k : ℕ) → n < 2 ^ w → wrap w (shr_z (pos n) (2 ^ k)) ≡ n / 2 ^ k
  shift_positive n k l = let h = div-le_self n (2 ^ k) in wrap_plus (n / 2 ^ k) (omega arith)

-- ---- the order of meanings

module _ {s : ℕ} {sign : Bool} {t : ℕ} (k : StandFor s sign t) (a b : ℕ) (l : a < 2 ^ (64 - s)) (m : b < 2 ^ (64 - s)) where
  abbrev h : ℕ
  h = 2 ^ (64 - s - 1)

  pub less_by_rank : sign ≡ true → lt_z (meaning t a) (meaning t b) ≡ ltb (rank_of (64 - s) a) (rank_of (64 - s) b)
  unfolding rank_of reading
  less_by_rank z = rw (meaning_reading s sign a k l, meaning_reading s sign b k m, z) (by (leb h a) (leb h b) refl refl)
    where
      mean : Bool → ℕ → ℤ
      mean g x = cond g (negsuc (flip (64 - s) x)) (pos x)

      rank : ℕ → ℕ
      rank x = cond (ltb x h) (x + h) (x - h)

      by : (p q : Bool) → leb h a ≡ p → leb h b ≡ q → lt_z (mean p a) (mean q b) ≡ ltb (rank a) (rank b)
      by true true e f =
          rw (le-ltb a h (leb-true h a e), le-ltb b h (leb-true h b f))
          (same_less (flip (64 - s) b) (flip (64 - s) a) (a - h) (b - h) (λ k. omega (arith, leb-true h a e, leb-true h b f)) (λ k. omega (arith, leb-true h a e, leb-true h b f)))
      by true false e f =
          rw (le-ltb a h (leb-true h a e), lt-ltb b h (leb-false h b f))
          (sym (lt-ltb (a - h) (b + h) (omega (arith, two_halves s (room_below t k.above)))))
      by false true e f =
          rw (lt-ltb a h (leb-false h a e), le-ltb b h (leb-true h b f))
          (sym (le-ltb (a + h) (b - h) (omega (arith, two_halves s (room_below t k.above)))))
      by false false e f =
          rw (lt-ltb a h (leb-false h a e), lt-ltb b h (leb-false h b f))
          (same_less a b (a + h) (b + h) (λ k. omega arith) (λ k. omega arith))

  pub less_unsigned : sign ≡ false → lt_z (meaning t a) (meaning t b) ≡ ltb a b
  less_unsigned z = rw (meaning_reading s sign a k l ∙ reading_unsigned s sign a z, meaning_reading s sign b k m ∙ reading_unsigned s sign b z)

-- equal meanings have equal numbers
module _ (t a b : ℕ) (l : a < 2 ^ width t) (m : b < 2 ^ width t) where
  pub same_meaning : (le_z (meaning t a) (meaning t b) && le_z (meaning t b) (meaning t a)) ≡ eqb a b
  same_meaning = rw (meaning_is t a l, meaning_is t b m) (by (signed t) (leb h a) (leb h b) refl refl)
    where
      h : ℕ
      h = 2 ^ (width t - 1)

      mean : ℕ → Bool → ℤ
      mean x g = cond g (negsuc (flip (width t) x)) (pos x)

      by : (g p q : Bool) → leb h a ≡ p → leb h b ≡ q → (le_z (mean a (g && p)) (mean b (g && q)) && le_z (mean b (g && q)) (mean a (g && p))) ≡ eqb a b
      by true true true e f = both_le (flip (width t) b) (flip (width t) a) ∙ same_equal (flip (width t) b) (flip (width t) a) a b (λ k. omega arith) (λ k. omega arith)
      by true true false e f = sym (ne_eqb a b (λ k. omega (arith, leb-true h a e, leb-false h b f)))
      by true false true e f = sym (ne_eqb a b (λ k. omega (arith, leb-true h b f, leb-false h a e)))
      by true false false e f = both_le a b
      by false p q e f = both_le a b

-- not less is at least
pub least_or_less : (z d : ℤ) → le_z z d ≡ not (lt_z d z)
least_or_less (pos a) (pos b) = le_not_lt a b
least_or_less (pos a) (negsuc b) = refl
least_or_less (negsuc a) (pos b) = refl
least_or_less (negsuc a) (negsuc b) = le_not_lt b a

-- ---- the instructions

module _ {s : ℕ} {sign : Bool} {t : ℕ} (k : StandFor s sign t) (a b : ℕ) where
  pub overflows_is : overflows t a b ≡ (sign && eqb a (2 ^ (64 - s - 1)) && eqb b (2 ^ (64 - s) - 1))
  unfolding overflows
  overflows_is = let e : width t ≡ 64 - s = sym (width_is t k.above) in rw (e, ← k.reads)

  module _ (l : a < 2 ^ (64 - s)) (m : b < 2 ^ (64 - s)) (z : b ≡ 0 → ⊥) where
    pub divided : {p q r : ℕ} {c d : Bool} → overflows t a b ≡ false → p ≡ nat_abs (reading s sign a) → q ≡ nat_abs (reading s sign b)
        → c ≡ is_negative (reading s sign a) → d ≡ is_negative (reading s sign b) → r ≡ cond (not (beq c d)) (neg (64 - s) (p / q)) (p / q)
        → Computed.value r ≡ div t a b
    unfolding div
    divided o e f g h i =
        rw (i, e, f, g, h, ne_eqb b 0 z, o, sym (width_is t k.above), meaning_reading s sign a k l, meaning_reading s sign b k m)
        (ap Computed.value (sym (quotient (64 - s) (reading s sign a) (reading s sign b) (magnitude_below s sign a (room_below t k.above) l))))

    pub left_over : {p q r : ℕ} {c : Bool} → p ≡ nat_abs (reading s sign a) → q ≡ nat_abs (reading s sign b) → c ≡ is_negative (reading s sign a)
        → r ≡ cond c (neg (64 - s) (p % q)) (p % q) → Computed.value r ≡ rem t a b
    unfolding rem
    left_over e f g i =
        rw (i, e, f, g, ne_eqb b 0 z, sym (width_is t k.above), meaning_reading s sign a k l, meaning_reading s sign b k m)
        (ap Computed.value (sym (remainder (64 - s) (reading s sign a) (reading s sign b) (magnitude_below s sign a (room_below t k.above) l))))

    -- without a sign the numbers are their own magnitudes
    module _ (u : sign ≡ false) where
      pub divided_unsigned : Computed.value (a / b) ≡ div t a b
      divided_unsigned =
          let e = sym (reading_unsigned s sign a u) in
          let f = sym (reading_unsigned s sign b u) in
          divided (overflows_is ∙ rw u) (ap nat_abs e) (ap nat_abs f) (ap is_negative e) (ap is_negative f) refl

      pub left_over_unsigned : Computed.value (a % b) ≡ rem t a b
      left_over_unsigned =
          let e = sym (reading_unsigned s sign a u) in
          left_over (ap nat_abs e) (ap nat_abs (sym (reading_unsigned s sign b u))) (ap is_negative e) refl

module _ {s : ℕ} {sign : Bool} {t : ℕ} (k : StandFor s sign t) (x : ℕ) (l : x < 2 ^ (64 - s)) where
  pub shifted_negative : (n : ℕ) {m r : ℕ} → is_negative (reading s sign x) ≡ true → m ≡ flip (64 - s) x → r ≡ flip (64 - s) (m / 2 ^ n) → r ≡ shr t x n
  shifted_negative n e f g =
      rw (g, f, meaning_reading s sign x k l, reading_negative s sign x e, sym (width_is t k.above))
      (sym (shift_negative (64 - s) (flip (64 - s) x) n (ones_sub-lt (64 - s) x)))

  pub shifted_positive : (n : ℕ) → is_negative (reading s sign x) ≡ false → x / 2 ^ n ≡ shr t x n
  shifted_positive n e = rw (meaning_reading s sign x k l, reading_positive s sign x e, sym (width_is t k.above)) (sym (shift_positive (64 - s) x n l))

  -- to a target of w bits
  pub converted_negative : (w : ℕ) {m n r : ℕ} → is_negative (reading s sign x) ≡ true → m ≡ flip (64 - s) x → n ≡ m % 2 ^ w → r ≡ flip w n → r ≡ wrap w (meaning t x)
  unfolding wrap
  converted_negative w e f g h = rw (h, g, f, meaning_reading s sign x k l, reading_negative s sign x e)

  pub converted_positive : (w : ℕ) {r : ℕ} → is_negative (reading s sign x) ≡ false → r ≡ x % 2 ^ w → r ≡ wrap w (meaning t x)
  unfolding wrap
  converted_positive w e h = rw (h, meaning_reading s sign x k l, reading_positive s sign x e)
