-- Two readings compared by meaning, as numbers below 2^64: those below 2^63 are not negative, and larger than the others.
-- Assumes nothing.
use mathlib.Core.Bool.{true, false}
use mathlib.Core.Path.{◌≡◌, ◌∙◌}
use Prim.Native.Nat.{ℕ, ◌-◌, ◌≤◌, ◌<◌, ◌^◌}
use native.Mathlib.Omega.{arith}
use lib.Dec.{leb, leb→le, le→leb}
use lib.IntN.{pos, negsuc}
use lib.Signed.{le_z}
use borrow.Author.Tests.{le-leb, lt-leb}
use Rattle.laws.proofs.Tests.{both_ways}
use Rattle.language.specs.Instructions.{int64}
use Rattle.language.specs.Arithmetic.{meaning}
use Rattle.records.proofs.Order.{int64_means}

low : (x : ℕ) → x < 2 ^ 63 → meaning int64 x ≡ pos x
low x l = int64_means x (omega arith) ∙ rw (lt-leb (2 ^ 63) x l)

high : (x : ℕ) → 2 ^ 63 ≤ x → x < 2 ^ 64 → meaning int64 x ≡ negsuc (2 ^ 64 - 1 - x)
high x l m = int64_means x m ∙ rw (le-leb (2 ^ 63) x l)

pub both_low : (a b : ℕ) → a < 2 ^ 63 → b < 2 ^ 63 → leb b a ≡ le_z (meaning int64 b) (meaning int64 a)
both_low a b l m = rw (low a l, low b m)

pub low_over_high : (a b : ℕ) → a < 2 ^ 63 → 2 ^ 63 ≤ b → b < 2 ^ 64 → true ≡ le_z (meaning int64 b) (meaning int64 a)
low_over_high a b l m n = rw (low a l, high b m n)

pub high_under_low : (a b : ℕ) → 2 ^ 63 ≤ a → a < 2 ^ 64 → b < 2 ^ 63 → false ≡ le_z (meaning int64 b) (meaning int64 a)
high_under_low a b l m n = rw (high a l m, low b n)

pub both_high : (a b : ℕ) → 2 ^ 63 ≤ a → a < 2 ^ 64 → 2 ^ 63 ≤ b → b < 2 ^ 64 → leb b a ≡ le_z (meaning int64 b) (meaning int64 a)
both_high a b l m n k =
    rw (high a l m, high b n k)
    (both_ways (leb b a) (leb (2 ^ 64 - 1 - a) (2 ^ 64 - 1 - b))
    (λ h. let g = leb→le b a h in le→leb (2 ^ 64 - 1 - a) (2 ^ 64 - 1 - b) (omega arith))
    (λ h. let g = leb→le (2 ^ 64 - 1 - a) (2 ^ 64 - 1 - b) h in le→leb b a (omega arith)))
