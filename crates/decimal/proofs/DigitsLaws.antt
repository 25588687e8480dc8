-- The digits of a number: those of a tenth of it, then the last; how many they are. Assumes nothing.
use mathlib.Core.Bool.{Bool, true, false}
use mathlib.Core.List.{List, [], ◌∷◌, ◌++◌}
use mathlib.Core.Path.{◌≡◌, refl, sym, ap, ◌∙◌}
use Prim.Native.Nat.{ℕ, zero, suc, ◌+◌, ◌/◌, ◌%◌, ◌^◌, ◌≤◌, ◌<◌}
use native.Mathlib.Omega.{arith}
use lib.Dec.{ltb}
use lib.ListN.{length, length-append}
use borrow.Author.Tests.{lt-ltb, le-ltb, ltb-false}
use Rattle.language.specs.Bytes.{digit_zero}
use Rattle.language.specs.Listing.{digits, digits_within}
use Rattle.language.proofs.Digits.{digits_short}

-- one step of the definition, by whether one digit is left
abbrev step : Bool → ℕ → List ℕ → List ℕ
step true n ds = (digit_zero + n) ∷ []
step false n ds = ds ++ ((digit_zero + n % 10) ∷ [])

step_is : (k n : ℕ) → digits_within (suc k) n ≡ step (ltb n 10) n (digits_within k (n / 10))
step_is k n = by (ltb n 10)
  where
    by : (t : Bool) → ◌≡◌ {A = List ℕ} (elim t [ true ↦ (digit_zero + n) ∷ [] | false ↦ digits_within k (n / 10) ++ ((digit_zero + n % 10) ∷ []) ]) (step t n (digits_within k (n / 10)))
    by true = refl
    by false = refl

-- with an allowance of the number or more, the digits are the same
within : (k m n : ℕ) → n ≤ k → n ≤ m → digits_within k n ≡ digits_within m n
within zero zero n h l = refl
within zero (suc m) n h l = let z : n ≡ 0 = omega arith in rw z
within (suc k) zero n h l = let z : n ≡ 0 = omega arith in rw z
within (suc k) (suc m) n h l =
    step_is k n ∙ by (ltb n 10) refl (λ p. within k m (n / 10) (omega arith) (omega arith)) ∙ sym (step_is m n)
  where
    by : (t : Bool) → ltb n 10 ≡ t → (10 ≤ n → digits_within k (n / 10) ≡ digits_within m (n / 10)) → step t n (digits_within k (n / 10)) ≡ step t n (digits_within m (n / 10))
    by true e r = refl
    by false e r = ap (step false n) (r (ltb-false n 10 e))

pub digits_one : (n : ℕ) → n < 10 → digits n ≡ (digit_zero + n) ∷ []
unfolding digits
digits_one zero h = refl
digits_one (suc n) h = step_is n (suc n) ∙ ap (λ (t : Bool). step t (suc n) (digits_within n (suc n / 10))) (lt-ltb (suc n) 10 h)

pub digits_more : (n : ℕ) → 10 ≤ n → digits n ≡ digits (n / 10) ++ ((digit_zero + n % 10) ∷ [])
unfolding digits
digits_more zero h = absurd (omega arith)
digits_more (suc n) h =
    step_is n (suc n)
    ∙ ap (λ (t : Bool). step t (suc n) (digits_within n (suc n / 10))) (le-ltb (suc n) 10 h)
    ∙ ap (step false (suc n)) (within n (suc n / 10) (suc n / 10) (omega arith) (omega arith))

-- a number of 64 bits has at most 20
pub digits_twenty : (n : ℕ) → n < 2 ^ 64 → length (digits n) ≤ 20
digits_twenty n h = digits_short 19 n (omega arith)

-- how many they are, step by step
pub count_one : (n : ℕ) → n < 10 → length (digits n) ≡ 1
count_one n h = ap length (digits_one n h)

pub count_more : (n : ℕ) → 10 ≤ n → length (digits n) ≡ length (digits (n / 10)) + 1
count_more n h = ap length (digits_more n h) ∙ length-append (digits (n / 10)) ((digit_zero + n % 10) ∷ [])
