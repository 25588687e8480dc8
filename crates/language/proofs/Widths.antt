-- Every type has one of four widths.
-- Assumes nothing.
use mathlib.Core.Path.{◌≡◌, refl}
use mathlib.Core.Bool.{Bool, true, false, cond, ◌&&◌}
use Prim.Native.Nat.{ℕ, zero, suc, ◌-◌, ◌*◌, ◌%◌, ◌^◌, ◌≤◌, ◌<◌}
use native.Mathlib.Nat.{mod-lt, zero-lt-suc}
use native.Mathlib.Omega.{arith}
use lib.IntN.{pos, negsuc}
use lib.Dec.{ltb, leb, lit≤}
use Rattle.language.specs.Instructions.{width, signed}
use Rattle.language.specs.Arithmetic.{meaning}

-- what holds of the four widths holds of every type's
pub widths : (P : ℕ → Type 0) → P 8 → P 16 → P 32 → P 64 → (t : ℕ) → P (width t)
unfolding width
widths P a b c d t = by (ltb t 8) (t % 4) (mod-lt t (zero-lt-suc 3))
  where
    by : (g : Bool) (k : ℕ) → k < 4 → P (cond g (8 * 2 ^ k) 64)
    by true zero l = a
    by true (suc zero) l = b
    by true (suc (suc zero)) l = c
    by true (suc (suc (suc zero))) l = d
    by true (suc (suc (suc (suc k)))) l = absurd (omega arith)
    by false k l = d

-- the width of a type, 2 to it, and half of that
pub record Powers (t : ℕ) : Type 0 where
  pub least : 8 ≤ width t
  pub most : width t ≤ 64
  pub half : 2 * 2 ^ (width t - 1) ≡ 2 ^ width t
  pub low : 256 ≤ 2 ^ width t
  pub high : 2 ^ width t ≤ 18446744073709551616

pub powers : (t : ℕ) → Powers t
powers t =
    record {
      least = widths (λ w. 8 ≤ w) (lit≤ tt) (lit≤ tt) (lit≤ tt) (lit≤ tt) t;
      most = widths (λ w. w ≤ 64) (lit≤ tt) (lit≤ tt) (lit≤ tt) (lit≤ tt) t;
      half = widths (λ w. 2 * 2 ^ (w - 1) ≡ 2 ^ w) refl refl refl refl t;
      low = widths (λ w. 256 ≤ 2 ^ w) (lit≤ tt) (lit≤ tt) (lit≤ tt) (lit≤ tt) t;
      high = widths (λ w. 2 ^ w ≤ 18446744073709551616) (lit≤ tt) (lit≤ tt) (lit≤ tt) (lit≤ tt) t;
    }

-- what a number of a type means: a negative one is counted down from -1
pub meaning_is :
    (t x : ℕ) → x < 2 ^ width t → meaning t x ≡ cond (signed t && leb (2 ^ (width t - 1)) x) (negsuc (2 ^ width t - 1 - x)) (pos x)
unfolding meaning
meaning_is t x l = let e : 2 ^ width t - x ≡ suc (2 ^ width t - 1 - x) = omega arith in rw e
