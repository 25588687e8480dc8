-- A number of two, four or eight bytes fixes each of them.
-- Assumes nothing.
use mathlib.Core.Path.{◌≡◌, sym, ap, ◌∙◌}
use native.Mathlib.Decide.{dec_lt}
use mathlib.Core.List.{List}
use Prim.Native.Nat.{ℕ, ◌+◌, ◌≤◌, ◌<◌}
use native.Mathlib.Omega.{arith}
use lib.ListN.{length, get_or}
use Rattle.language.specs.Table.{two, four, eight}
use Rattle.table.specs.Named.{CellsAgree}

-- by whether j is below n
either : {A : Type 0} (j n : ℕ) → (j < n → A) → (n ≤ j → A) → A
either j n f g = elim (dec_lt j n) [ yes h ↦ f h | no h ↦ g (omega arith) ]

module _ (s t : List ℕ) where
  -- the n cells from k on are the same
  abbrev pub Like : ℕ → ℕ → Type 0
  Like k n = (j : ℕ) → k ≤ j → j < k + n → get_or s j 0 ≡ get_or t j 0

  like_more : (k n m : ℕ) {l : ℕ} → l ≡ k + n → Like k n → Like l m → Like k (n + m)
  like_more k n m e p q j b h = either j (k + n) (λ c. p j b c) (λ c. q j (omega arith) (omega arith))

  module _ (u : (k : ℕ) → get_or s k 0 < 256) (v : (k : ℕ) → get_or t k 0 < 256) where
    one_like : (k : ℕ) → get_or s k 0 ≡ get_or t k 0 → Like k 1
    one_like k e j b h = let i : j ≡ k = omega arith in ap (λ (n : ℕ). get_or s n 0) i ∙ e ∙ ap (λ (n : ℕ). get_or t n 0) (sym i)

    pub two_like : (k : ℕ) → two s k ≡ two t k → Like k 2
    two_like k e =
        let low : get_or s k 0 ≡ get_or t k 0 = omega (arith, u k, v k) in
        let high : get_or s (k + 1) 0 ≡ get_or t (k + 1) 0 = omega (arith, u k, v k) in
        like_more k 1 1 (omega arith) (one_like k low) (one_like (k + 1) high)

    pub four_like : (k : ℕ) → four s k ≡ four t k → Like k 4
    four_like k e =
        let low : two s k ≡ two t k = omega (arith, u k, v k, u (k + 1), v (k + 1)) in
        let high : two s (k + 2) ≡ two t (k + 2) = omega arith in
        like_more k 2 2 (omega arith) (two_like k low) (two_like (k + 2) high)

    pub eight_like : (k : ℕ) → eight s k ≡ eight t k → Like k 8
    eight_like k e =
        let low : four s k ≡ four t k =
        omega (arith, u k, v k, u (k + 1), v (k + 1), u (k + 2), v (k + 2), u (k + 2 + 1), v (k + 2 + 1)) in
        let high : four s (k + 4) ≡ four t (k + 4) = omega arith in
        like_more k 4 4 (omega arith) (four_like k low) (four_like (k + 4) high)

-- n cells that agree, and m more
pub agree_more : (a b : List ℕ) {n : ℕ} (m : ℕ) → CellsAgree a b n → n + m ≤ length a → Like a b n m → CellsAgree a b (n + m)
agree_more a b {n} m p h q = record { within = h; cells = λ k c. either k n (λ l. p.cells k l) (λ l. q k l c) }
