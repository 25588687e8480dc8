-- Numbers modulo 2^w, and what shifts, sums and products of n bits are modulo it, w at most n.
-- Assumes nothing.
use mathlib.Core.Path.{◌≡◌, refl, sym, ap, ◌∙◌, subst}
use Prim.Native.Nat.{ℕ, ◌+◌, ◌-◌, ◌*◌, ◌/◌, ◌%◌, ◌^◌, ◌≤◌, ◌<◌}
use native.Mathlib.Nat.{add_assoc, add_comm, add_left_comm, mul_assoc, mul_comm, mul_left_comm, mul-add, add-mul, mod-add-mod, add-mod_right, mod-lt, mul-mod_left, div-add-mod', mul-add-mod_self_right, sub-add_cancel, add-sub_of_le, add-zero, le_of_lt, lt_of_le_of_lt, mul-le-mul_left, mul-lt-mul_of_pos_right}
use lib.Arith.{digits_lt}
use lib.Pow.{pow_pos, pow-add, field, shl-shr, shr_lt, mod-mod-pow, mod-pow-add, ones_split, ones_lt, high}

-- two shifts keep the lowest w bits
pub shifts_keep : {n : ℕ} (w s x : ℕ) → w + s ≡ n → (x * 2 ^ s) % 2 ^ n / 2 ^ s ≡ x % 2 ^ w
shifts_keep w s x e =
    subst (λ (n : ℕ). (x * 2 ^ s) % 2 ^ n / 2 ^ s ≡ x % 2 ^ w) e
    (field (x * 2 ^ s) w s ∙ ap (λ (y : ℕ). y % 2 ^ w) (shl-shr x s))

-- a shift leaves the lowest w of n ones
pub shift_ones : {n : ℕ} (w s : ℕ) → w + s ≡ n → (2 ^ n - 1) / 2 ^ s ≡ 2 ^ w - 1
shift_ones w s e =
    subst (λ (n : ℕ). (2 ^ n - 1) / 2 ^ s ≡ 2 ^ w - 1) e
    (ap (λ (y : ℕ). y / 2 ^ s) (ones_split w s) ∙ high (2 ^ w - 1) s (ones_lt s))

-- modulo 2^n first changes nothing modulo 2^w
pub mod_within : {n w : ℕ} → w ≤ n → (x : ℕ) → x % 2 ^ n % 2 ^ w ≡ x % 2 ^ w
mod_within {n} {w} h x =
    subst (λ (m : ℕ). x % 2 ^ m % 2 ^ w ≡ x % 2 ^ w) (sub-add_cancel h) (mod-mod-pow x (n - w) w)

-- a factor may be taken modulo m first
pub mod_mul_mod : (x k m : ℕ) → (x % m * k) % m ≡ (x * k) % m
mod_mul_mod x k m =
    sym
    (ap (λ (y : ℕ). (y * k) % m) (sym (div-add-mod' x m))
    ∙ ap (λ (y : ℕ). y % m) (apart (x / m) (x % m))
    ∙ mul-add-mod_self_right (x / m * k) m (x % m * k))
  where
    apart : (q r : ℕ) → (q * m + r) * k ≡ q * k * m + r * k
    apart q r = simp (add-mul, mul_assoc, mul_comm m k)

-- what b added to gives a, modulo 2^n, is a - b modulo 2^w
pub mod_difference : {n w : ℕ} → w ≤ n → (r a b : ℕ) → (r + b) % 2 ^ n ≡ a → b ≤ 2 ^ w → r % 2 ^ w ≡ (a + (2 ^ w - b)) % 2 ^ w
mod_difference {n} {w} h r a b e l =
    sym
    (ap (λ (y : ℕ). (y + (m - b)) % m) (sym e)
    ∙ sym (mod-add-mod ((r + b) % 2 ^ n) m (m - b))
    ∙ ap (λ (y : ℕ). (y + (m - b)) % m) (mod_within h (r + b))
    ∙ mod-add-mod (r + b) m (m - b)
    ∙ ap (λ (y : ℕ). y % m) (add_assoc r b (m - b) ∙ ap (λ (y : ℕ). r + y) (add-sub_of_le l))
    ∙ add-mod_right r m)
  where
    m : ℕ
    m = 2 ^ w

-- the product of two numbers of k bits
pub product_below : (k : ℕ) {a b : ℕ} → a < 2 ^ k → b < 2 ^ k → a * b < 2 ^ (k + k)
product_below k {a} {b} h l =
    subst (λ (n : ℕ). a * b < n) (sym (pow-add 2 k k))
    (lt_of_le_of_lt (mul-le-mul_left a (le_of_lt l)) (mul-lt-mul_of_pos_right h (pow_pos k)))

-- the product of numbers of two digits to the base m, modulo m * m: that of the high digits falls out
module _ (m : ℕ) (a1 a0 b1 b0 : ℕ) where
  apart : (a1 * m + a0) * (b1 * m + b0) ≡ a1 * b1 * (m * m) + ((a1 * b0 + a0 * b1) * m + a0 * b0)
  apart =
      simp (mul-add, add-mul, mul_assoc, mul_comm, mul_left_comm, add_assoc, add_comm, add_left_comm) refl

  pub digits_product : ((a1 * b0 + a0 * b1) % (m * m) * m % (m * m) + a0 * b0) % (m * m) ≡ (a1 * m + a0) * (b1 * m + b0) % (m * m)
  digits_product =
      ap (λ (y : ℕ). (y + a0 * b0) % (m * m)) (mod_mul_mod (a1 * b0 + a0 * b1) m (m * m))
      ∙ mod-add-mod ((a1 * b0 + a0 * b1) * m) (m * m) (a0 * b0)
      ∙ sym (ap (λ (y : ℕ). y % (m * m)) apart ∙ mul-add-mod_self_right (a1 * b1) (m * m) ((a1 * b0 + a0 * b1) * m + a0 * b0))

-- from the halves of h bits
pub halves_product : (h a b : ℕ) → let m = 2 ^ h in ((a / m * (b % m) + a % m * (b / m)) % (m * m) * m % (m * m) + a % m * (b % m)) % (m * m) ≡ a * b % (m * m)
halves_product h a b =
    let m = 2 ^ h in
    digits_product m (a / m) (a % m) (b / m) (b % m)
    ∙ ap (λ (y : ℕ). y * (b / m * m + b % m) % (m * m)) (div-add-mod' a m)
    ∙ ap (λ (y : ℕ). a * y % (m * m)) (div-add-mod' b m)

-- j bits below k bits change places: no sum passes 2^(j + k)
pub turned_below : (j k a : ℕ) → a < 2 ^ (k + j) → (a * 2 ^ k) % 2 ^ (j + k) + a / 2 ^ j < 2 ^ (j + k)
turned_below j k a h =
    subst (λ (y : ℕ). y + a / 2 ^ j < 2 ^ (j + k)) (sym moved)
    (subst (λ (y : ℕ). a % 2 ^ j * 2 ^ k + a / 2 ^ j < y) (sym (pow-add 2 j k)) (digits_lt (mod-lt a (pow_pos j)) (shr_lt k j h)))
  where
    moved : (a * 2 ^ k) % 2 ^ (j + k) ≡ a % 2 ^ j * 2 ^ k
    moved =
        mod-pow-add (a * 2 ^ k) j k
        ∙ ap (λ (y : ℕ). y % 2 ^ j * 2 ^ k + a * 2 ^ k % 2 ^ k) (shl-shr a k)
        ∙ ap (λ (y : ℕ). a % 2 ^ j * 2 ^ k + y) (mul-mod_left a (2 ^ k))
        ∙ add-zero (a % 2 ^ j * 2 ^ k)
