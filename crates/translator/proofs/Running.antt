-- A list taken together with as many numbers.
-- Assumes nothing.
use mathlib.Core.Path.{◌≡◌, sym, ap, ◌∙◌}
use mathlib.Core.List.{List, [], ◌∷◌}
use Prim.Native.Nat.{ℕ, zero, suc, ◌+◌, ◌<◌}
use native.Mathlib.Nat.{not-suc-le-zero, le_of_suc-le-suc, add-zero, add-suc, suc-add}
use lib.ListN.{length, get_or}
use Rattle.laws.specs.Lists.{together, from}

pub get_d_numbered : {A B : Type 0} (g : ℕ → A → B) (k : ℕ) (xs : List A) (i : ℕ) (d : A) (e : B) → i < length xs
    → get_or (together g (from k (length xs)) xs) i e ≡ g (k + i) (get_or xs i d)
get_d_numbered g k [] i d e h = absurd (not-suc-le-zero h)
get_d_numbered g k (x ∷ xs) zero d e h = ap (λ (n : ℕ). g n x) (sym (add-zero k))
get_d_numbered g k (x ∷ xs) (suc i) d e h =
    get_d_numbered g (suc k) xs i d e (le_of_suc-le-suc h) ∙ ap (λ (n : ℕ). g n (get_or xs i d)) (suc-add k i ∙ sym (add-suc k i))
