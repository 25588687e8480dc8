-- The digits of a number, one by one: what they stand for, how many they are, and that each is a byte and a name character. Assumes nothing.
use mathlib.Core.Bool.{Bool, true, false}
use mathlib.Core.List.{List, [], ◌∷◌, ◌++◌, foldl, foldl-append}
use mathlib.Core.Path.{◌≡◌, refl, sym, ◌∙◌, ap}
use Prim.Native.Nat.{ℕ, zero, suc, ◌+◌, ◌-◌, ◌*◌, ◌/◌, ◌%◌, ◌^◌, ◌≤◌, ◌<◌}
use native.Mathlib.Nat.{div-add-mod, div-lt_self, div-lt_iff_lt-mul, mod-lt}
use native.Mathlib.Omega.{arith}
use lib.Dec.{T, ltb, lit<}
use lib.ListN.{length, length-append}
use borrow.Author.Tests.{ltb-true, ltb-false}
use Rattle.laws.specs.Lists.{all}
use Rattle.laws.specs.Sections.{Bytes}
use Rattle.laws.proofs.Appending.{all_append}
use Rattle.laws.proofs.Sections.{bytes_append}
use Rattle.language.specs.Bytes.{Class, class_of, name_byte, digit_zero}
use Rattle.language.specs.Listing.{digits, digits_within}

-- The number that digits stand for.
abbrev pub value : List ℕ → ℕ
value ds = foldl (λ v b. 10 * v + (b - digit_zero)) 0 ds

-- What holds of the digits of a tenth and of one digit more holds of all digits.
module _ (P : ℕ → List ℕ → Type 0) (one : (n : ℕ) → n < 10 → P n ((digit_zero + n) ∷ [])) (more : (n : ℕ) (ds : List ℕ) → 10 ≤ n → P (n / 10) ds → P n (ds ++ ((digit_zero + n % 10) ∷ []))) where
  within : (k n : ℕ) → n ≤ k → P n (digits_within k n)
  within zero n h = one n (omega arith)
  within (suc k) n h = by (ltb n 10) refl (within k)
    where
      by :
          (t : Bool)
          → ltb n 10 ≡ t
          → ((n : ℕ) → n ≤ k → P n (digits_within k n))
          → P n (elim t [ true ↦ (digit_zero + n) ∷ [] | false ↦ digits_within k (n / 10) ++ ((digit_zero + n % 10) ∷ []) ])
      by true e ih = one n (ltb-true n 10 e)
      by false e ih =
          let big : 10 ≤ n = ltb-false n 10 e in
          let less : n / 10 < n = div-lt_self (omega arith) (lit< tt) in
          more n (digits_within k (n / 10)) big (ih (n / 10) (omega arith))

  pub digits_by : (n : ℕ) → P n (digits n)
  unfolding digits
  digits_by n = within n n (omega arith)

pub value_digits : (n : ℕ) → value (digits n) ≡ n
value_digits =
    digits_by (λ n ds. value ds ≡ n) (λ n h. omega arith)
    (λ n ds h e. foldl-append (λ v b. 10 * v + (b - digit_zero)) 0 ds ((digit_zero + n % 10) ∷ []) ∙ omega (arith, e, div-add-mod n 10))

pub digits_apart : (i j : ℕ) → digits i ≡ digits j → i ≡ j
digits_apart i j e = sym (value_digits i) ∙ ap value e ∙ value_digits j

-- a number below 10^(m + 1) has at most m + 1 digits
pub digits_short : (m n : ℕ) → n < 10 ^ suc m → length (digits n) ≤ suc m
digits_short m n h = digits_by (λ n ds. (m : ℕ) → n < 10 ^ suc m → length ds ≤ suc m) (λ n l m h. omega arith) longer n m h
  where
    longer :
        (n : ℕ) (ds : List ℕ)
        → 10 ≤ n
        → ((m : ℕ) → n / 10 < 10 ^ suc m → length ds ≤ suc m)
        → (m : ℕ)
        → n < 10 ^ suc m
        → length (ds ++ ((digit_zero + n % 10) ∷ [])) ≤ suc m
    longer n ds b ih zero h = absurd (omega arith)
    longer n ds b ih (suc m) h =
        let tenth : n / 10 < 10 ^ suc m = (div-lt_iff_lt-mul (lit< tt)).1 (omega arith) in
        let r = ih m tenth in
        simp length-append (omega arith)

-- ---- each of them

pub digit_class : (d : ℕ) → d < 10 → class_of (digit_zero + d) ≡ Class.digit
unfolding class_of
digit_class zero h = refl
digit_class (suc zero) h = refl
digit_class (suc (suc zero)) h = refl
digit_class (suc (suc (suc zero))) h = refl
digit_class (suc (suc (suc (suc zero)))) h = refl
digit_class (suc (suc (suc (suc (suc zero))))) h = refl
digit_class (suc (suc (suc (suc (suc (suc zero)))))) h = refl
digit_class (suc (suc (suc (suc (suc (suc (suc zero))))))) h = refl
digit_class (suc (suc (suc (suc (suc (suc (suc (suc zero)))))))) h = refl
digit_class (suc (suc (suc (suc (suc (suc (suc (suc (suc zero))))))))) h = refl
digit_class (suc (suc (suc (suc (suc (suc (suc (suc (suc (suc d)))))))))) h = absurd (omega arith)

pub digits_bytes : (n : ℕ) → Bytes (digits n)
digits_bytes =
    digits_by (λ n ds. Bytes ds) one
    (λ n ds h k. bytes_append ds ((digit_zero + n % 10) ∷ []) k (one (n % 10) (mod-lt n (lit< tt))))
  where
    one : (d : ℕ) → d < 10 → Bytes ((digit_zero + d) ∷ [])
    one d h = (omega arith, tt)

pub digits_in_name : (n : ℕ) → T (all name_byte (digits n))
digits_in_name =
    digits_by (λ n ds. T (all name_byte ds)) one
    (λ n ds h t. all_append name_byte ds ((digit_zero + n % 10) ∷ []) t (one (n % 10) (mod-lt n (lit< tt))))
  where
    one : (d : ℕ) → d < 10 → T (all name_byte ((digit_zero + d) ∷ []))
    one d h = rw (digit_class d h) tt
