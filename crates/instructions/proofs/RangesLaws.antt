-- The ranges of the types, as the code tests them, and what a number in range is modulo 2^w. Assumes nothing.
use mathlib.Core.Bool.{Bool, true, false, cond}
use mathlib.Core.Path.{◌≡◌, refl, sym, ◌∙◌}
use Prim.Native.Nat.{ℕ, ◌+◌, ◌-◌, ◌/◌, ◌^◌, ◌≤◌, ◌<◌}
use native.Mathlib.Nat.{mod_self, mod-eq_of_lt}
use native.Mathlib.Numerals.{add-one}
use native.Mathlib.Omega.{arith}
use lib.Dec.{T, eqb, leb, ltb, eqb→eq, leb→le, leb-suc-suc}
use borrow.Author.Tests.{le-ltb, lt-leb, ne_eqb}
use Rattle.language.specs.Instructions.{width, signed}
use Rattle.language.specs.Reading.{number_in_range, bits_of}
use Rattle.language.proofs.Widths.{widths, Powers, powers}

-- a width that is none of the smaller three
pub width_last : (t : ℕ) → (width t ≡ 8 → ⊥) → (width t ≡ 16 → ⊥) → (width t ≡ 32 → ⊥) → width t ≡ 64
width_last t =
    widths (λ w. (w ≡ 8 → ⊥) → (w ≡ 16 → ⊥) → (w ≡ 32 → ⊥) → w ≡ 64)
    (λ a b c. absurd (a refl))
    (λ a b c. absurd (b refl))
    (λ a b c. absurd (c refl))
    (λ a b c. refl)
    t

module _ (t v most : ℕ) (e : most + 1 ≡ 2 ^ width t) where
  pub signed_negative : signed t ≡ true → leb v (most / 2 + 1) ≡ number_in_range t true v
  unfolding number_in_range
  signed_negative g =
      let h : 2 ^ (width t - 1) ≡ most / 2 + 1 = omega (arith, powers t) in
      rw (g, h)

  pub signed_positive : signed t ≡ true → leb v (most / 2) ≡ number_in_range t false v
  unfolding number_in_range
  signed_positive g =
      let h : 2 ^ (width t - 1) ≡ most / 2 + 1 = omega (arith, powers t) in
      rw (g, h, add-one) (sym (leb-suc-suc v (most / 2)))

  pub unsigned_negative : signed t ≡ false → eqb v 0 ≡ number_in_range t true v
  unfolding number_in_range
  unsigned_negative g = rw g

  pub unsigned_positive : signed t ≡ false → leb v most ≡ number_in_range t false v
  unfolding number_in_range
  unsigned_positive g = rw (g, ← e, add-one) (sym (leb-suc-suc v most))

-- no number from 2^64 on is in range
pub range_large : (t : ℕ) (neg : Bool) (n : ℕ) → 18446744073709551616 ≤ n → number_in_range t neg n ≡ false
unfolding number_in_range
range_large t neg n h = by (signed t) neg
  where
    p : Powers t
    p = powers t

    by : (g neg : Bool) → cond g (cond neg (leb n (2 ^ (width t - 1))) (ltb n (2 ^ (width t - 1)))) (cond neg (eqb n 0) (ltb n (2 ^ width t))) ≡ false
    by true true = lt-leb n (2 ^ (width t - 1)) (omega (arith, p))
    by true false = le-ltb n (2 ^ (width t - 1)) (omega (arith, p))
    by false true = ne_eqb n 0 (λ e. omega arith)
    by false false = le-ltb n (2 ^ width t) (omega (arith, p))

-- a negative number in range is at most 2^w
pub range_most : (t v : ℕ) → T (number_in_range t true v) → v ≤ 2 ^ width t
unfolding number_in_range
range_most t v h = by (signed t) h
  where
    p : Powers t
    p = powers t

    by : (g : Bool) → T (cond g (leb v (2 ^ (width t - 1))) (eqb v 0)) → v ≤ 2 ^ width t
    by true k = omega (arith, p, leb→le v (2 ^ (width t - 1)) k)
    by false k = omega (arith, eqb→eq v 0 k)

-- what a register holds of -v
pub bits_zero : (t : ℕ) → 0 ≡ bits_of t true 0
unfolding bits_of
bits_zero t = let e : 2 ^ width t - 0 ≡ 2 ^ width t = omega arith in rw e (sym (mod_self (2 ^ width t)))

pub bits_negative : (t v most : ℕ) → most + 1 ≡ 2 ^ width t → (v ≡ 0 → ⊥) → v ≤ 2 ^ width t → most - (v - 1) ≡ bits_of t true v
unfolding bits_of
bits_negative t v most e some h =
    let small : 2 ^ width t - v < 2 ^ width t = omega arith in
    let same : most - (v - 1) ≡ 2 ^ width t - v = omega arith in
    same ∙ sym (mod-eq_of_lt small)
