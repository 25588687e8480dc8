-- The tests of a name's contents, one by one. Assumes nothing.
use mathlib.Core.Bool.{Bool, true, false, not, and-true, and-false}
use mathlib.Core.List.{List, [], ◌∷◌}
use mathlib.Core.Path.{◌≡◌, refl}
use Prim.Native.Nat.{ℕ, zero, suc, ◌-◌, ◌≤◌, ◌<◌}
use native.Mathlib.Omega.{arith}
use lib.Dec.{eqb, ltb}
use lib.ListN.{length, get_or}
use borrow.Author.Tests.{lt-ltb, le-leb, lt-leb}
use Rattle.laws.specs.Lists.{all}
use Rattle.laws.proofs.Indexing.{empty_some}
use Rattle.language.specs.Bytes.{backslash}
use Rattle.language.specs.Names.{slash_last, spellable}
use Rattle.language.specs.Checking.{spellable_or_none}
use Rattle.language.specs.Programs.{max_name}

all_bytes : (n : List ℕ) → ((i : ℕ) → get_or n i 0 < 256) → all (λ b. ltb b 256) n ≡ true
all_bytes [] h = refl
all_bytes (b ∷ n) h = rw (lt-ltb b 256 (h zero)) (all_bytes n (λ i. h (suc i)))

pub no_bytes : (n : List ℕ) → length n ≡ 0 → false ≡ spellable n
unfolding spellable
no_bytes [] e = refl
no_bytes (b ∷ n) e = absurd (omega arith)

module _ (n : List ℕ) where
  pub too_long : max_name < length n → false ≡ spellable n
  unfolding spellable
  too_long h = rw (lt-leb (length n) max_name h) (simp and-false)

  pub by_last : (length n ≡ 0 → ⊥) → length n ≤ max_name → ((i : ℕ) → get_or n i 0 < 256) → not (eqb (get_or n (length n - 1) 0) backslash) ≡ spellable n
  unfolding spellable slash_last
  by_last some short bytes = rw (empty_some n some, le-leb (length n) max_name short, all_bytes n bytes) (simp and-true)

-- "a name of no bytes", or a spellable one
pub none : (n : List ℕ) → length n ≡ 0 → true ≡ spellable_or_none n
unfolding spellable_or_none
none [] e = refl
none (b ∷ n) e = absurd (omega arith)

pub some : (n : List ℕ) {r : Bool} → (length n ≡ 0 → ⊥) → r ≡ spellable n → r ≡ spellable_or_none n
unfolding spellable_or_none
some [] h e = absurd (h refl)
some (b ∷ n) h e = e
