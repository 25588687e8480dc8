-- Numbers of any size, digit by digit: what is kept of a number gives what is kept of it with one digit more.
-- Assumes nothing.
use mathlib.Core.Bool.{Bool, true, false, cond}
use mathlib.Core.Path.{◌≡◌, refl, ap}
use Prim.Native.Nat.{ℕ, ◌+◌, ◌*◌, ◌≤◌, ◌<◌}
use native.Mathlib.Nat.{mul_comm, mul-le-mul_right}
use native.Mathlib.Omega.{arith}
use lib.Dec.{ltb}
use borrow.Author.Tests.{lt-ltb, le-ltb, ltb-false}
use Rattle.std.specs.Prelude.{Option, Some, None, unwrap_or, is_some, is_none, IfSome, SomeIff}
use Rattle.instructions.specs.Ranges.{beyond}
use Rattle.lexer.specs.Numbers.{amount_of, amount_said, grown_at}

-- one digit more
pub grown_amount : (v : Option ℕ) (n base d : ℕ) → 0 < base → v ≡ amount_of n → grown_at v base d ≡ amount_of (base * n + d)
unfolding amount_of
grown_amount v n base d pos e = rw e (by (ltb n beyond) refl)
  where
    many : 18446744073709551616 ≤ n → 18446744073709551616 ≤ base * n + d
    many h = omega (arith, mul-le-mul_right n pos)

    by : (t : Bool) → ltb n beyond ≡ t
        → grown_at (cond t (Some n) None) base d ≡ cond (ltb (base * n + d) beyond) (Some (base * n + d)) None
    by true q = refl
    by false q = rw (le-ltb (base * n + d) beyond (many (ltb-false n beyond q)))

-- a digit's value is below 16, and another byte's is 16
pub hex_test : (o : Option ℕ) (n : ℕ) → unwrap_or o 16 ≡ n → IfSome o (λ d. d < 16) → ltb n 16 ≡ is_some o
hex_test None n e h = rw (← e)
hex_test (Some d) n e h = rw (← e, lt-ltb d 16 h)

-- one digit more, as the code computes it: the product is too large, or the sum is kept if it is not
module _ (v base d : ℕ) where
  pub product_over : (v * base < 18446744073709551616 → ⊥) → None ≡ amount_of (base * v + d)
  unfolding amount_of
  product_over h = rw (le-ltb (base * v + d) beyond (omega (arith, mul_comm base v, h)))

  pub sum_kept : (m : ℕ) (r : Option ℕ) → (v * base < 18446744073709551616) × (m ≡ v * base) → SomeIff r (m + d < 18446744073709551616) (m + d)
      → r ≡ amount_of (base * v + d)
  unfolding amount_of
  sum_kept m None p h = rw (le-ltb (base * v + d) beyond (omega (arith, mul_comm base v, p.1, h)))
  sum_kept m (Some x) p h = rw (lt-ltb (base * v + d) beyond (omega (arith, mul_comm base v, p.1, h.0))) (ap Some (omega (arith, mul_comm base v, p.1, h.1)))

-- what a number's value and flag say is the number again
pub amount_back : (v : Option ℕ) → amount_said (unwrap_or v 0) (is_none v) ≡ v
amount_back None = refl
amount_back (Some n) = refl
