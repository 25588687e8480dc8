-- A test of the images of n numbers from k on, one by one.
-- Assumes nothing.
use mathlib.Core.Path.{◌≡◌, sym, ap, ◌∙◌}
use mathlib.Core.Bool.{Bool, true, false, ◌&&◌, and-false}
use mathlib.Core.List.{List, [], ◌∷◌, map}
use Prim.Native.Nat.{ℕ, zero, suc, ◌+◌, ◌<◌}
use native.Mathlib.Nat.{not-suc-le-zero, le_of_suc-le-suc}
use lib.ListN.{length, get_or}
use Rattle.laws.specs.Lists.{all, from}
use Rattle.laws.proofs.Appending.{all_map}
use Rattle.laws.proofs.Ranges.{all_from, length_map_from, get_or_map_from}

-- one that fails is enough
pub all_fails : {A : Type 0} (p : A → Bool) (xs : List A) (i : ℕ) (d : A) → i < length xs → p (get_or xs i d) ≡ false → all p xs ≡ false
all_fails p [] i d l e = absurd (not-suc-le-zero l)
all_fails p (x ∷ xs) zero d l e = ap (λ b. b && all p xs) e
all_fails p (x ∷ xs) (suc i) d l e = ap (λ b. p x && b) (all_fails p xs i d (le_of_suc-le-suc l) e) ∙ and-false (p x)

module _ (g : ℕ → ℕ) (q : ℕ → Bool) (k n : ℕ) where
  pub images_pass : ((i : ℕ) → i < n → q (g (k + i)) ≡ true) → true ≡ all q (map g (from k n))
  images_pass h = sym (all_map q g (from k n) ∙ all_from (λ i. q (g i)) k n h)

  pub image_fails : (i : ℕ) → i < n → q (g (k + i)) ≡ false → false ≡ all q (map g (from k n))
  image_fails i l e =
      sym (all_fails q (map g (from k n)) i 0 (rw (length_map_from g k n) l) (ap q (get_or_map_from g 0 k n i l) ∙ e))
