-- Names compared, and one looked for among names that stand in a table at one distance from each other.
-- Assumes nothing.
use Rattle.std.specs.Prelude.{Bool, Option, MatchOption, List, ◌≡◌, ℕ, ◌+◌, ◌-◌, ◌*◌, ◌≤◌, ◌<◌, length, get_or}
use Rattle.laws.specs.Lists.{same, position, below}
use Rattle.language.specs.Table.{eight, name_at}

-- A name may be read from cell k on in any table: its length says at most 255, and so many cells stand behind it.
abbrev pub name_reach : ℕ
name_reach = 256

abbrev pub NameWithin : List ℕ → ℕ → Type 0
NameWithin t k = k + name_reach ≤ length t

-- So may `count` names, whose length cells stand `stride` apart from cell `at` on.
abbrev pub NamesWithin : List ℕ → (at stride count : ℕ) → Type 0
NamesWithin t at stride count = at + stride * count + name_reach ≤ length t + stride

-- the first n cells of a and b are the same
pub record CellsAgree (a b : List ℕ) (n : ℕ) : Type 0 where
  pub within : n ≤ length a
  pub cells : (k : ℕ) → k < n → get_or a k 0 ≡ get_or b k 0

-- a name of 8 to 255 bytes has x as its last eight
abbrev pub HasTail : List ℕ → ℕ → Type 0
HasTail name x = (8 ≤ length name) × (length name ≤ 255) × (x ≡ eight name (length name - 8))

-- name i, whose length is the cell `at + stride * i`, is `name`
abbrev pub is_named : List ℕ → ℕ → ℕ → List ℕ → ℕ → Bool
is_named t at stride name i = same (name_at t (at + stride * i)) name

-- the first of `count` names that is `name`, or `count`
unfoldable pub first_named : List ℕ → ℕ → ℕ → ℕ → List ℕ → ℕ
first_named t at stride count name = position (is_named t at stride name) (below count)

-- r is the first of `count` names that is `name`, or none of them is
abbrev pub FindsName : List ℕ → (at stride count : ℕ) → List ℕ → Option ℕ → Type 0
FindsName t at stride count name r =
    MatchOption r (count ≡ first_named t at stride count name) (λ i. (i ≡ first_named t at stride count name) × (i < count))
