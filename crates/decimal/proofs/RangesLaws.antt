-- What a number of a type means, by its sign and its magnitude. Assumes nothing.
use mathlib.Core.Bool.{true, false}
use mathlib.Core.Path.{◌≡◌}
use Prim.Native.Nat.{ℕ, suc, ◌+◌, ◌-◌, ◌/◌, ◌^◌, ◌≤◌, ◌<◌}
use native.Mathlib.Numerals.{add-one}
use native.Mathlib.Omega.{arith}
use borrow.Author.Tests.{le-leb, lt-leb}
use Rattle.language.specs.Instructions.{width, signed}
use Rattle.language.specs.Arithmetic.{meaning}
use Rattle.language.proofs.Widths.{powers}
use Rattle.decimal.specs.declared.ranges.Meant.{Meant}
use Rattle.decimal.specs.Meanings.{meant_by}

module _ (t x most : ℕ) (e : most + 1 ≡ 2 ^ width t) where
  half_is : 2 ^ (width t - 1) ≡ most / 2 + 1
  half_is = omega (arith, powers t)

  pub means_unsigned : signed t ≡ false → ◌≡◌ {A = Meant} (record { negative = false; magnitude = x }) (meant_by (meaning t x))
  unfolding meaning
  means_unsigned g = rw g

  pub means_positive : signed t ≡ true → x ≤ most / 2 → ◌≡◌ {A = Meant} (record { negative = false; magnitude = x }) (meant_by (meaning t x))
  unfolding meaning
  means_positive g h = rw (g, lt-leb (2 ^ (width t - 1)) x (omega (arith, half_is)))

  pub means_negative : signed t ≡ true → most / 2 < x → x < 2 ^ width t → ◌≡◌ {A = Meant} (record { negative = true; magnitude = most - x + 1 }) (meant_by (meaning t x))
  unfolding meaning
  means_negative g h l =
      let rest : 2 ^ width t - x ≡ suc (most - x) = omega arith in
      rw (g, le-leb (2 ^ (width t - 1)) x (omega (arith, half_is)), rest, add-one)
