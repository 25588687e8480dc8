-- The end of a name of at most eight bytes has all of them, and what a longer one has before it is compared in eights. Assumes nothing.
use mathlib.Core.List.{List}
use mathlib.Core.Path.{◌≡◌, sym, ap, ◌∙◌}
use Prim.Native.Nat.{ℕ, ◌+◌, ◌-◌, ◌*◌, ◌/◌, ◌≤◌, ◌<◌}
use native.Mathlib.Decide.{ℕ_discrete, dec_lt}
use native.Mathlib.Omega.{arith}
use borrow.Author.Tests.{le-leb, lt-leb}
use lib.ListN.{length, get_or}
use lib.Seq.{ext_get_or}
use Rattle.language.specs.Table.{four, eight}
use Rattle.table.specs.Named.{CellsAgree}
use Rattle.table.proofs.Digits.{four_like, eight_like}
use Rattle.name_index.specs.Hashes.{end_of}

-- the end by the length
module _ (s : List ℕ) where
  pub end_eight : 8 ≤ length s → end_of s ≡ eight s (length s - 8)
  unfolding end_of
  end_eight h = rw (le-leb 8 (length s) h)

  end_four : length s < 8 → 4 ≤ length s → end_of s ≡ four s 0 + 4294967296 * four s (length s - 4)
  unfolding end_of
  end_four l h = rw (lt-leb 8 (length s) l, le-leb 4 (length s) h)

  end_one : length s < 4 → 1 ≤ length s → end_of s ≡ get_or s 0 0 + 256 * get_or s (length s / 2) 0 + 65536 * get_or s (length s - 1) 0
  unfolding end_of
  end_one l h = rw (lt-leb 8 (length s) (omega arith), lt-leb 4 (length s) l, le-leb 1 (length s) h)

module _ (a b : List ℕ) (u : (k : ℕ) → get_or a k 0 < 256) (v : (k : ℕ) → get_or b k 0 < 256) (m : length a ≡ length b) (short : length a ≤ 8) (e : end_of a ≡ end_of b) where
  cells_eight : 8 ≤ length a → (i : ℕ) → i < length a → get_or a i 0 ≡ get_or b i 0
  cells_eight h i l =
      let k = length a - 8 in
      let equal : eight a k ≡ eight b k = sym (end_eight a h) ∙ e ∙ end_eight b (omega arith) ∙ ap (λ (n : ℕ). eight b (n - 8)) (sym m) in
      eight_like a b u v k equal i (omega arith) (omega arith)

  cells_four : length a < 8 → 4 ≤ length a → (i : ℕ) → i < length a → get_or a i 0 ≡ get_or b i 0
  cells_four s h i l =
      let k = length a - 4 in
      let equal : four a 0 + 4294967296 * four a k ≡ four b 0 + 4294967296 * four b k =
      sym (end_four a s h) ∙ e ∙ end_four b (omega arith) (omega arith) ∙ ap (λ (n : ℕ). four b 0 + 4294967296 * four b (n - 4)) (sym m) in
      let low : four a 0 ≡ four b 0 = omega (arith, equal, u 0, v 0, u (0 + 1), v (0 + 1), u (0 + 2), v (0 + 2), u (0 + 2 + 1), v (0 + 2 + 1)) in
      let high : four a k ≡ four b k = omega (arith, equal, low) in
      elim (dec_lt i 4) [ yes q ↦ four_like a b u v 0 low i (omega arith) (omega arith) | no q ↦ four_like a b u v k high i (omega arith) (omega arith) ]

  cells_one : length a < 4 → (i : ℕ) → i < length a → get_or a i 0 ≡ get_or b i 0
  cells_one s i l = by (ℕ_discrete i 0) (ℕ_discrete i (length a - 1))
    where
      equal : get_or a 0 0 + 256 * get_or a (length a / 2) 0 + 65536 * get_or a (length a - 1) 0 ≡ get_or b 0 0 + 256 * get_or b (length a / 2) 0 + 65536 * get_or b (length a - 1) 0
      equal =
          sym (end_one a s (omega arith)) ∙ e ∙ end_one b (omega arith) (omega arith)
          ∙ ap (λ (n : ℕ). get_or b 0 0 + 256 * get_or b (n / 2) 0 + 65536 * get_or b (n - 1) 0) (sym m)

      at : (k : ℕ) → i ≡ k → get_or a k 0 ≡ get_or b k 0 → get_or a i 0 ≡ get_or b i 0
      at k q p = ap (λ (n : ℕ). get_or a n 0) q ∙ p ∙ ap (λ (n : ℕ). get_or b n 0) (sym q)

      by : Dec (i ≡ 0) → Dec (i ≡ length a - 1) → get_or a i 0 ≡ get_or b i 0
      by (yes q) d = at 0 q (omega (arith, equal, u 0, v 0, u (length a / 2), v (length a / 2)))
      by (no q) (yes d) = at (length a - 1) d (omega (arith, equal, u 0, v 0, u (length a / 2), v (length a / 2)))
      by (no q) (no d) = at (length a / 2) (omega arith) (omega (arith, equal, u 0, v 0, u (length a / 2), v (length a / 2)))

  pub ends_same : a ≡ b
  ends_same = ext_get_or 0 a b m (λ i l. elim (dec_lt (length a) 4) [ yes p ↦ cells_one p i l | no p ↦ larger (omega arith) i l ])
    where
      larger : 4 ≤ length a → (i : ℕ) → i < length a → get_or a i 0 ≡ get_or b i 0
      larger h i l = elim (dec_lt (length a) 8) [ yes p ↦ cells_four p h i l | no p ↦ cells_eight (omega arith) i l ]

-- the bytes up to the last eight, or further, and these
pub starts_same : (a b : List ℕ) → ((k : ℕ) → get_or a k 0 < 256) → ((k : ℕ) → get_or b k 0 < 256) → length a ≡ length b → eight a (length a - 8) ≡ eight b (length b - 8)
    → {i : ℕ} → CellsAgree a b i → length a - 8 ≤ i → a ≡ b
starts_same a b u v m e {i} p h =
    let k = length a - 8 in
    let equal : eight a k ≡ eight b k = e ∙ ap (λ (n : ℕ). eight b (n - 8)) (sym m) in
    ext_get_or 0 a b m (λ j l. elim (dec_lt j i) [ yes q ↦ p.cells j q | no q ↦ eight_like a b u v k equal j (omega arith) (omega arith) ])
