-- Bytes as one number: names of one length that have one number are the same, and a shift takes the first bytes away. Assumes nothing.
use mathlib.Core.Bool.{◌&&◌}
use mathlib.Core.Path.{◌≡◌, refl, sym, ap, ◌∙◌}
use mathlib.Core.List.{List, [], ◌∷◌}
use Prim.Native.Nat.{ℕ, zero, suc, ◌+◌, ◌-◌, ◌*◌, ◌/◌, ◌%◌, ◌^◌, ◌≤◌, ◌<◌}
use native.Mathlib.Decide.{ℕ_discrete}
use native.Mathlib.Omega.{arith}
use native.Mathlib.Nat.{zero-div, div-one, add-zero}
use lib.Dec.{eqb}
use lib.ListN.{length, drop, get_or, length-drop}
use lib.Pow.{shr-shr}
use lib.Seq.{get_or-drop, drop-drop}
use borrow.Author.Tests.{eq-eqb, ne_eqb}
use Rattle.laws.specs.Lists.{same}
use Rattle.laws.specs.Sections.{Bytes}
use Rattle.laws.proofs.Tests.{same_equal}
use Rattle.language.specs.Table.{two, four}
use Rattle.vocabulary.specs.Packed.{packed}

pub bytes_each : (xs : List ℕ) → ((k : ℕ) → get_or xs k 0 < 256) → Bytes xs
bytes_each [] h = tt
bytes_each (x ∷ xs) h = (h 0, bytes_each xs (λ k. h (suc k)))

bytes_drop : (k : ℕ) (xs : List ℕ) → Bytes xs → Bytes (drop k xs)
bytes_drop zero xs h = h
bytes_drop (suc k) [] h = tt
bytes_drop (suc k) (x ∷ xs) h = bytes_drop k xs h.1

pub same_packed : (xs ys : List ℕ) → length xs ≡ length ys → Bytes xs → Bytes ys → eqb (packed xs) (packed ys) ≡ same xs ys
same_packed [] [] l a b = refl
same_packed [] (y ∷ ys) l a b = absurd (omega arith)
same_packed (x ∷ xs) [] l a b = absurd (omega arith)
same_packed (x ∷ xs) (y ∷ ys) l a b = by (ℕ_discrete x y) (same_packed xs ys (omega arith) a.1 b.1)
  where
    by : Dec (x ≡ y) → eqb (packed xs) (packed ys) ≡ same xs ys → eqb (x + 256 * packed xs) (y + 256 * packed ys) ≡ eqb x y && same xs ys
    by (yes e) ih =
        rw (eq-eqb x y e, ← ih)
        (same_equal (x + 256 * packed xs) (y + 256 * packed ys) (packed xs) (packed ys) (λ h. omega (arith, e)) (λ h. omega (arith, e)))
    by (no e) ih = rw (ne_eqb x y e) (ne_eqb (x + 256 * packed xs) (y + 256 * packed ys) (λ h. e (omega (arith, h, a.0, b.0))))

-- the bytes past the first k
packed_drop : (k : ℕ) (xs : List ℕ) → Bytes xs → packed xs / 2 ^ (8 * k) ≡ packed (drop k xs)
packed_drop zero xs h = div-one (packed xs)
packed_drop (suc k) [] h = zero-div (2 ^ (8 * suc k))
packed_drop (suc k) (x ∷ xs) h =
    let first : (x + 256 * packed xs) / 2 ^ 8 ≡ packed xs = omega (arith, h.0) in
    let more : 8 * suc k ≡ 8 + 8 * k = omega arith in
    rw (more, ← shr-shr (x + 256 * packed xs) 8 (8 * k), first) (packed_drop k xs h.1)

-- and the first of them
pub packed_at : (k : ℕ) (xs : List ℕ) → Bytes xs → packed xs / 2 ^ (8 * k) % 256 ≡ get_or xs k 0
packed_at k xs h =
    rw (packed_drop k xs h) (first (drop k xs) (bytes_drop k xs h) ∙ get_or-drop k xs 0 0 ∙ ap (λ n. get_or xs n 0) (add-zero k))
  where
    first : (ys : List ℕ) → Bytes ys → packed ys % 256 ≡ get_or ys 0 0
    first [] b = refl
    first (y ∷ ys) b = omega (arith, b.0)

-- ---- the last bytes of a name

last_two : (xs : List ℕ) → length xs ≡ 2 → two xs 0 ≡ packed xs
last_two [] h = absurd (omega arith)
last_two (a ∷ []) h = absurd (omega arith)
last_two (a ∷ b ∷ []) h = omega arith
last_two (a ∷ b ∷ c ∷ xs) h = absurd (omega arith)

last_four : (xs : List ℕ) → length xs ≡ 4 → four xs 0 ≡ packed xs
last_four [] h = absurd (omega arith)
last_four (a ∷ []) h = absurd (omega arith)
last_four (a ∷ b ∷ []) h = absurd (omega arith)
last_four (a ∷ b ∷ c ∷ []) h = absurd (omega arith)
last_four (a ∷ b ∷ c ∷ d ∷ []) h = omega arith
last_four (a ∷ b ∷ c ∷ d ∷ e ∷ xs) h = absurd (omega arith)

two_drop : (k : ℕ) (xs : List ℕ) → two (drop k xs) 0 ≡ two xs k
two_drop k xs = rw (get_or-drop k xs 0 0, get_or-drop k xs 1 0) (ap (λ n. get_or xs n 0 + 256 * get_or xs (k + 1) 0) (omega arith))

four_drop : (k : ℕ) (xs : List ℕ) → four (drop k xs) 0 ≡ four xs k
four_drop k xs =
    rw (two_drop k xs, get_or-drop k xs 2 0, get_or-drop k xs 3 0)
    (ap (λ n. two xs k + 65536 * (get_or xs (k + 2) 0 + 256 * get_or xs n 0)) (omega arith))

module _ (n : List ℕ) (b : Bytes n) where
  -- shifted to their place: of a name of at most k bytes the last w, which stand at its end, become those from k - w on
  shifted : (w k v : ℕ) → w ≤ length n → length n ≤ k → v ≡ packed (drop (length n - w) n) → v / 2 ^ (8 * (k - length n)) ≡ packed (drop (k - w) n)
  shifted w k v l u e =
      let at = length n - w in
      let all : at + (k - length n) ≡ k - w = omega arith in
      rw (e, packed_drop (k - length n) (drop at n) (bytes_drop at n b), drop-drop (k - length n) at n, all)

  end : (w : ℕ) → w ≤ length n → length (drop (length n - w) n) ≡ w
  end w l = simp length-drop (omega arith)

  pub rest_short :
      3 ≤ length n → length n < 5 → get_or n 1 0 + 256 * (two n (length n - 2) / 2 ^ (8 * (4 - length n))) ≡ packed (drop 1 n)
  rest_short l u =
      let at = length n - 2 in
      let last : two n at ≡ packed (drop at n) = sym (two_drop at n) ∙ last_two (drop at n) (end 2 (omega arith)) in
      rw (shifted 2 4 (two n at) (omega arith) (omega arith) last) (second n l)
    where
      second : (n : List ℕ) → 3 ≤ length n → get_or n 1 0 + 256 * packed (drop 2 n) ≡ packed (drop 1 n)
      second [] l = absurd (omega arith)
      second (x ∷ []) l = absurd (omega arith)
      second (x ∷ y ∷ n) l = refl

  pub rest_long :
      5 ≤ length n → length n ≤ 9 → four n 1 + 4294967296 * (four n (length n - 4) / 2 ^ (8 * (9 - length n))) ≡ packed (drop 1 n)
  rest_long l u =
      let at = length n - 4 in
      let last : four n at ≡ packed (drop at n) = sym (four_drop at n) ∙ last_four (drop at n) (end 4 (omega arith)) in
      rw (shifted 4 9 (four n at) (omega arith) u last) (next_four n l)
    where
      next_four : (n : List ℕ) → 5 ≤ length n → four n 1 + 4294967296 * packed (drop 5 n) ≡ packed (drop 1 n)
      next_four [] l = absurd (omega arith)
      next_four (x ∷ []) l = absurd (omega arith)
      next_four (x ∷ y ∷ []) l = absurd (omega arith)
      next_four (x ∷ y ∷ z ∷ []) l = absurd (omega arith)
      next_four (x ∷ y ∷ z ∷ v ∷ []) l = absurd (omega arith)
      next_four (x ∷ y ∷ z ∷ v ∷ w ∷ n) l = omega arith
