-- Numbers in the text: shortest decimals; and a load's number, written by meaning, is read as itself. Assumes nothing.
use mathlib.Core.Bool.{Bool, true, false, cond}
use mathlib.Core.List.{List, [], ◌∷◌, foldl}
use mathlib.Core.Path.{◌≡◌, refl, subst}
use Prim.Native.Nat.{ℕ, zero, suc, ◌+◌, ◌-◌, ◌*◌, ◌%◌, ◌^◌, ◌≤◌, ◌<◌}
use native.Mathlib.Nat.{not-suc-le-zero, mod-eq_of_lt, mod-lt, zero-add, add-zero}
use native.Mathlib.Omega.{arith}
use lib.Dec.{T, ltb, leb, le→leb, lt→ltb, ltb→lt, lit<}
use lib.Ieee.Fits.{and_l, and_r, and_i}
use lib.ListN.{length, length-append}
use lib.IntN.{pos, neg_ℤ}
use lib.Pow.{pow_pos}
use borrow.Author.Tests.{lt-ltb, le-leb, leb-true, leb-false}
use Rattle.laws.specs.Lists.{all}
use Rattle.laws.proofs.Appending.{all_snoc}
use Rattle.language.specs.Bytes.{digit_zero}
use Rattle.language.specs.Instructions.{width, signed}
use Rattle.language.specs.Arithmetic.{meaning}
use Rattle.language.specs.Tokens.{Token}
use Rattle.language.specs.Reading.{number_in_range, bits_of}
use Rattle.language.specs.Listing.{digits}
use Rattle.language.specs.Writing.{meant_token, number_token}
use Rattle.language.proofs.Digits.{digits_by, value_digits, digits_short}
use Rattle.theorems.specs.RoundTrip.{is_decimal, worth, ShortestNumbers}

-- ---- shortest decimals

-- digits stand for a number below the power of ten of their count
worth_below : (ds : List ℕ) → T (all is_decimal ds) → (v m : ℕ) → v < 10 ^ m → foldl (λ v b. 10 * v + (b - digit_zero)) v ds < 10 ^ (m + length ds)
worth_below [] h v m l = rw add-zero l
worth_below (b ∷ ds) h v m l =
    let d : b - digit_zero < 10 =
    omega (arith, ltb→lt b (digit_zero + 10) (and_r (leb digit_zero b) (ltb b (digit_zero + 10)) (and_l (is_decimal b) (all is_decimal ds) h))) in
    let later : foldl (λ v b. 10 * v + (b - digit_zero)) (10 * v + (b - digit_zero)) ds < 10 ^ (suc m + length ds) =
    worth_below ds (and_r (is_decimal b) (all is_decimal ds) h) (10 * v + (b - digit_zero)) (suc m) (omega arith) in
    let count : suc m + length ds ≡ m + suc (length ds) = omega arith in
    rw count at later

one_decimal : (d : ℕ) → d < 10 → T (is_decimal (digit_zero + d))
one_decimal d h =
    and_i (leb digit_zero (digit_zero + d)) (ltb (digit_zero + d) (digit_zero + 10)) (le→leb digit_zero (digit_zero + d) (omega arith)) (lt→ltb (digit_zero + d) (digit_zero + 10) (omega arith))

pub shortest_numbers : ShortestNumbers
shortest_numbers n =
    record {
      some = digits_by (λ n ds. 0 < length ds) (λ d h. lit< tt) (λ n ds big h. rw (length-append ds ((digit_zero + n % 10) ∷ [])) (omega arith)) n;
      decimal =
          digits_by (λ n ds. T (all is_decimal ds)) (λ d h. and_i (is_decimal (digit_zero + d)) true (one_decimal d h) tt)
          (λ n ds big h. all_snoc is_decimal ds (digit_zero + n % 10) h (one_decimal (n % 10) (mod-lt n (lit< tt))))
          n;
      stands = value_digits n;
      fewest = fewest;
    }
  where
    fewest : (ds : List ℕ) → 0 < length ds → T (all is_decimal ds) → worth ds ≡ n → length (digits n) ≤ length ds
    fewest [] l h e = absurd (not-suc-le-zero l)
    fewest (d ∷ ds) l h e =
        let below : worth (d ∷ ds) < 10 ^ suc (length ds) =
        subst (λ (k : ℕ). worth (d ∷ ds) < 10 ^ k) (zero-add (suc (length ds))) (worth_below (d ∷ ds) h 0 0 (omega arith)) in
        digits_short (length ds) n (subst (λ (v : ℕ). v < 10 ^ suc (length ds)) e below)

-- ---- loads

-- the sign and the magnitude that stand for it
pub record Meant (t n : ℕ) : Type 0 where
  pub negative : Bool
  pub magnitude : ℕ
  pub spelled : number_token t n ≡ Token.number negative magnitude
  pub fits : number_in_range t negative magnitude ≡ true
  pub worth : bits_of t negative magnitude ≡ n

double : (w : ℕ) → 0 < w → 2 ^ w ≡ 2 * 2 ^ (w - 1)
double zero h = absurd (omega arith)
double (suc k) h = let e : suc k - 1 ≡ k = omega arith in rw e (omega arith)

width_pos : (t : ℕ) → 0 < width t
unfolding width
width_pos t = by (ltb t 8)
  where
    by : (b : Bool) → 0 < cond b (8 * 2 ^ (t % 4)) 64
    by true = omega (arith, pow_pos (t % 4))
    by false = omega arith

-- A negative meaning is written as a minus and its size.
minus_token : (m : ℕ) → 0 < m → meant_token (neg_ℤ (pos m)) ≡ Token.number true m
minus_token zero h = absurd (omega arith)
minus_token (suc m) h = refl

pub meant : (t n : ℕ) → n < 2 ^ width t → Meant t n
unfolding number_token meaning number_in_range bits_of
meant t n h = by (signed t) refl (leb (2 ^ (width t - 1)) n) refl
  where
    half : 2 ^ width t ≡ 2 * 2 ^ (width t - 1)
    half = double (width t) (width_pos t)

    by : (s : Bool) → signed t ≡ s → (b : Bool) → leb (2 ^ (width t - 1)) n ≡ b → Meant t n
    by false e b d = record { negative = false; magnitude = n; spelled = rw e; fits = rw e (lt-ltb n (2 ^ width t) h); worth = refl }
    by true e false d =
        record { negative = false; magnitude = n; spelled = rw (e, d); fits = rw e (lt-ltb n (2 ^ (width t - 1)) (leb-false (2 ^ (width t - 1)) n d)); worth = refl }
    by true e true d =
        let big : 2 ^ (width t - 1) ≤ n = leb-true (2 ^ (width t - 1)) n d in
        let back : 2 ^ width t - (2 ^ width t - n) ≡ n = omega arith in
        record {
          negative = true;
          magnitude = 2 ^ width t - n;
          spelled = rw (e, d) (minus_token (2 ^ width t - n) (omega arith));
          fits = rw e (le-leb (2 ^ width t - n) (2 ^ (width t - 1)) (omega (arith, half)));
          worth = rw back (mod-eq_of_lt h);
        }
