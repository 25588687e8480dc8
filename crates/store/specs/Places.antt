-- Where a record stands in the bytes of a store. Assumes nothing.
use Rattle.std.specs.Prelude.{Bool, cond, ◌&&◌, List, ◌≡◌, ℕ, ◌+◌, ◌<◌, ◌≤◌, ltb, leb, eqb}
use Rattle.laws.specs.Lists.{position, below}
use Rattle.records.specs.Stores.{FoundRecord, record_at, count_of}

-- The first n appliance numbers rise.
abbrev pub Sorted : List ℕ → ℕ → Type 0
Sorted s n = (i j : ℕ) → i < j → j < n → (record_at s i).appliance < (record_at s j).appliance

-- Past place m where the number there is smaller than a, else still lo.
unfoldable pub past_of : List ℕ → ℕ → ℕ → ℕ → ℕ
past_of s lo m a = cond (ltb (record_at s m).appliance a) (m + 1) lo

-- r is the first place whose appliance number is not smaller than a; of numbers that do not rise only that it is a place or n.
pub record FirstPlace (s : List ℕ) (n a r : ℕ) : Type 0 where
  pub within : r ≤ n
  pub first : Sorted s n → r ≡ position (λ i. leb a (record_at s i).appliance) (below n)

-- Of n records the one at place p is of appliance a.
unfoldable pub stands_at : List ℕ → ℕ → ℕ → ℕ → Bool
stands_at s n p a = ltb p n && eqb (record_at s p).appliance a

-- What a place says: a record, or from the count on none.
unfoldable pub looked_at : List ℕ → ℕ → FoundRecord
looked_at s p = cond (ltb p (count_of s)) (FoundRecord.found (record_at s p)) FoundRecord.none
