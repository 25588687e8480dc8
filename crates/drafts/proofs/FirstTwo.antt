-- The first two of a list, as a draft's numbers hold them, and how many they are: sources, and names mentioned.
-- Assumes nothing.
use mathlib.Core.Path.{◌≡◌, refl}
use mathlib.Core.List.{List, [], ◌∷◌, ◌++◌}
use Prim.Native.Nat.{ℕ, min}
use native.Mathlib.Omega.{arith}
use lib.ListN.{length, get_or, length-append}

pub record Firsts (xs : List ℕ) (a b k : ℕ) : Type 0 where
  pub first : a ≡ get_or xs 0 0
  pub second : b ≡ get_or xs 1 0
  pub count : k ≡ min (length xs) 2

pub no_firsts : Firsts [] 0 0 0
no_firsts = record { first = refl; second = refl; count = refl }

-- one more element r takes a, b and k to a', b' and k'
abbrev pub Pushed : (r a b k a' b' k' : ℕ) → Type 0
Pushed r a b k a' b' k' = (xs : List ℕ) → Firsts xs a b k → Firsts (xs ++ (r ∷ [])) a' b' k'

module _ (r a b k : ℕ) where
  pub first_pushed : k ≡ 0 → Pushed r a b k r b 1
  first_pushed e [] f = record { first = refl; second = f.second; count = refl }
  first_pushed e (x ∷ xs) f = absurd (omega (arith, f.count))

  pub second_pushed : k ≡ 1 → Pushed r a b k a r 2
  second_pushed e [] f = absurd (omega (arith, f.count))
  second_pushed e (x ∷ []) f = record { first = f.first; second = refl; count = refl }
  second_pushed e (x ∷ y ∷ xs) f = absurd (omega (arith, f.count))

  pub none_pushed : (k ≡ 0 → ⊥) → (k ≡ 1 → ⊥) → Pushed r a b k a b k
  none_pushed n m [] f = absurd (n f.count)
  none_pushed n m (x ∷ []) f = absurd (m f.count)
  none_pushed n m (x ∷ y ∷ xs) f = record { first = f.first; second = f.second; count = omega (arith, f.count, length-append xs (r ∷ [])) }
