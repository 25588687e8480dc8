-- Names by their hash, in chains of numbers: 0 ends a chain, and suc j stands for name j, behind which its chain goes on at `before` j.
-- Assumes nothing.
use Rattle.std.specs.Prelude.{Bool, true, false, List, [], ◌∷◌, ◌++◌, ◌≡◌, ℕ, suc, ◌≤◌, ◌<◌, length, get_or}
use Rattle.laws.specs.Lists.{empty, position, same}
use Rattle.language.specs.Checking.{distinct}
use Rattle.language.specs.Programs.{max_registers}
use Rattle.name_index.specs.Hashes.{heads, hash_of}

-- j is in the chain from x on
pub data Chained (before : List ℕ) : ℕ → ℕ → Type 0 where
  here : (j : ℕ) → Chained before (suc j) j
  on : (x j : ℕ) → Chained before (get_or before x 0) j → Chained before (suc x) j

-- chains go to earlier names
pub record Falling (before : List ℕ) : Type 0 where
  pub falls : (x : ℕ) → get_or before x 0 ≤ x

-- No name of one byte or more stands twice among these, and each is in the chain that begins at `last` of its hash.
pub record Indexed (names : List (List ℕ)) (last before : List ℕ) : Type 0 where
  pub lasts : length last ≡ heads
  pub befores : length before ≡ max_registers
  pub few : length names ≤ max_registers
  pub once : distinct names ≡ true
  pub falling : Falling before
  pub within : (h : ℕ) → get_or last h 0 ≤ length names
  pub finds : (j : ℕ) → j < length names → empty (get_or names j []) ≡ false → Chained before (get_or last (hash_of (get_or names j [])) 0) j

-- Chains that have n names, of which none is `name`, become chains that have this one too.
abbrev pub Adds : (n : ℕ) (name last before last' before' : List ℕ) → Type 0
Adds n name last before last' before' =
    (names : List (List ℕ)) → Indexed names last before → n ≡ length names → position (λ m. same m name) names ≡ length names
    → Indexed (names ++ (name ∷ [])) last' before'

-- r tells whether no name of one byte or more stands twice; if so, the chains have them.
pub record IndexedIf (names : List (List ℕ)) (last before : List ℕ) (r : Bool) : Type 0 where
  pub tells : r ≡ distinct names
  pub indexed : r ≡ true → Indexed names last before
