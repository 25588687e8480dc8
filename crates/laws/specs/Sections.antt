-- Sections: lists laid out at fixed places of a longer one.
-- Assumes nothing.
use Rattle.std.specs.Prelude.{◌⊎◌, ◌≡◌, List, [], ◌∷◌, ◌++◌, ℕ, suc, ◌+◌, ◌-◌, ◌<◌, length, drop, replicate}

-- xs, then as many zeros as make it n cells
unfoldable pub pad : ℕ → List ℕ → List ℕ
pad n xs = xs ++ replicate (n - length xs) 0

-- the lists f gives for the elements, one after the other, each told its place: n and the sizes of those before it
abbrev pub gather_from : {A B : Type 0} → (A → ℕ) → (ℕ → A → List B) → ℕ → List A → List B
gather_from size f n [] = []
gather_from size f n (x ∷ xs) = f n x ++ gather_from size f (n + size x) xs

-- every cell is a byte
abbrev pub Bytes : List ℕ → Type 0
Bytes [] = Unit {0}
Bytes (x ∷ xs) = (x < 256) × Bytes xs

-- each cell, the first of them at place k, is 0 or stands at a place of P
abbrev pub ZeroOr : (ℕ → Type 0) → ℕ → List ℕ → Type 0
ZeroOr P k [] = Unit {0}
ZeroOr P k (x ∷ xs) = ((x ≡ 0) ⊎ P k) × ZeroOr P (suc k) xs

-- from place k on, t holds xs
pub record At {A : Type 0} (t : List A) (k : ℕ) (xs : List A) : Type 0 where
  pub rest : List A
  pub holds : drop k t ≡ xs ++ rest
