-- "for so many at most, any order and grouping of merges gives the same record, and a record merged twice changes nothing. A store, begun empty
-- and handed on unchanged, answers for an appliance the winner of its accepted records, or none." (document 02, A8)
-- Assumes nothing.
use Rattle.std.specs.Prelude.{true, List, [], ◌⊎◌, ◌↔◌, ◌≡◌, ℕ, ◌≤◌, T, length}
use Rattle.laws.specs.Lists.{member}
use Rattle.records.specs.declared.Record.{Record}
use Rattle.records.specs.Records.{SizedRecord, wins}
use Rattle.records.specs.Stores.{FoundRecord, insert, inserts, lookup, capacity}

-- "any order and grouping of merges": nothing yet; a record merged into what is there; a store merged into it.
pub data Tree : Type 0 where
  empty : Tree
  add : Record → Tree → Tree
  join : Tree → Tree → Tree

-- The record is one of those merged.
abbrev pub In : Record → Tree → Type 0
In r Tree.empty = ⊥
In r (Tree.add x t) = (r ≡ x) ⊎ In r t
In r (Tree.join t u) = In r t ⊎ In r u

-- What the merges leave, had a store room for all: the second store's records go into the first.
unfoldable pub store_of : Tree → List Record
store_of Tree.empty = []
store_of (Tree.add x t) = insert x (store_of t)
store_of (Tree.join t u) = inserts (store_of u) (store_of t)

-- The winner of the records of appliance a: one of them that wins over each, or none where there are none.
abbrev pub Winner : Tree → ℕ → FoundRecord → Type 0
Winner t a FoundRecord.none = (r : Record) → In r t → r.appliance ≡ a → ⊥
Winner t a (FoundRecord.found w) =
    In w t × (w.appliance ≡ a) × ((r : Record) → In r t → r.appliance ≡ a → wins w r ≡ true)

-- ---- the laws

-- "each below 2^64"
abbrev pub SizedIn : Tree → Type 0
SizedIn t = (r : Record) → In r t → SizedRecord r

-- The same set of records, merged in any order, grouping and repetition.
abbrev pub SameRecords : Tree → Tree → Type 0
SameRecords t u = (r : Record) → In r t ↔ In r u

-- "any order and grouping of merges gives the same record": the same store.
abbrev pub AnyOrder : Type 0
AnyOrder = (t u : Tree) → SizedIn t → SameRecords t u → store_of t ≡ store_of u

-- "a record merged twice changes nothing"
abbrev pub MergedTwice : Type 0
MergedTwice = (x : Record) (t : Tree) → SizedIn t → In x t → store_of (Tree.add x t) ≡ store_of t

-- "answers for an appliance the winner of its accepted records, or none"; there is one winner alone.
abbrev pub AnswersWinner : Type 0
AnswersWinner = (t : Tree) (a : ℕ) → Winner t a (lookup a (store_of t))

abbrev pub OneWinner : Type 0
OneWinner = (t : Tree) (a : ℕ) (x y : FoundRecord) → SizedIn t → Winner t a x → Winner t a y → x ≡ y

-- "for so many at most" there is room, whatever the grouping.
abbrev pub RoomForSoMany : Type 0
RoomForSoMany =
    (t : Tree) (appliances : List ℕ)
    → ((r : Record) → In r t → T (member r.appliance appliances))
    → length appliances ≤ capacity
    → length (store_of t) ≤ capacity
