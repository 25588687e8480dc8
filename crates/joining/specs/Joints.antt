-- Two stores on the way to being joined: what is written, what comes next, and what is still to come.
-- Assumes nothing.
use Rattle.std.specs.Prelude.{Bool, true, cond, List, ◌++◌, map, ◌≡◌, ℕ, ◌+◌, ◌-◌, ◌<◌, ◌≤◌, eqb, ltb, leb, length}
use Rattle.std.proofs.lemmas.List.Edits.{sets}
use Rattle.laws.specs.Lists.{from, gather}
use Rattle.laws.specs.Sections.{pad}
use Rattle.language.specs.Table.{eight_bytes}
use Rattle.records.specs.declared.Record.{Record}
use Rattle.records.specs.Records.{best}
use Rattle.records.specs.Stores.{capacity, store_length, record_cells, store_cells, record_at, records_of, joined, record_offset}
use Rattle.joining.specs.declared.Joint.{Joint}

-- The records of s from place i on up to place n.
unfoldable pub records_from : List ℕ → ℕ → ℕ → List Record
records_from s i n = map (record_at s) (from i (n - i))

-- What comes first of record e of the one store and record f of the other.
unfoldable pub first : Record → Record → Record
first e f = cond (ltb e.appliance f.appliance) e (cond (eqb e.appliance f.appliance) (best f e) f)

abbrev pub joint : ℕ → ℕ → ℕ → Joint
joint i j w = record { i = i; j = j; w = w }

-- How far that brings the join.
unfoldable pub next_joint : Record → Record → ℕ → ℕ → ℕ → Joint
next_joint e f i j w =
    cond (ltb e.appliance f.appliance) (joint (i + 1) j (w + 1))
    (cond (eqb e.appliance f.appliance) (joint (i + 1) (j + 1) (w + 1)) (joint i (j + 1) (w + 1)))

-- The bytes of a store with these records, but that its count is not put yet.
unfoldable pub begun_store : List Record → List ℕ
begun_store es = pad store_length (eight_bytes 0 ++ gather record_cells es)

-- One record more is written.
pub record JoinStepped (e f : Record) (i j w : ℕ) (out : List ℕ) (r : Joint) (out' : List ℕ) : Type 0 where
  pub bytes : out' ≡ sets out (record_offset w) (record_cells (first e f))
  pub reached : r ≡ next_joint e f i j w

-- The first i records of s and j of u have made the first w of out: with what is to come of both they are all of them joined.
pub record Joining (s u : List ℕ) (n k i j w : ℕ) (out : List ℕ) : Type 0 where
  pub i_within : i ≤ n
  pub j_within : j ≤ k
  pub room : w ≤ capacity
  pub written : List Record
  pub count : length written ≡ w
  pub bytes : out ≡ begun_store written
  pub coming : written ++ joined (records_from s i n) (records_from u j k) ≡ joined (records_from s 0 n) (records_from u 0 k)

-- One of the two stores is used up, or there is no room for more.
pub record Walked (s u : List ℕ) (n k : ℕ) (r : Joint) (out : List ℕ) : Type 0 where
  pub joining : Joining s u n k r.i r.j r.w out
  pub stop : r.i < n → r.j < k → capacity ≤ r.w

-- Whether there is room for all, and their bytes if there is.
pub record JoinFilled (s u : List ℕ) (b : Bool) (out : List ℕ) : Type 0 where
  pub room : b ≡ leb (length (joined (records_of s) (records_of u))) capacity
  pub bytes : b ≡ true → out ≡ store_cells (joined (records_of s) (records_of u))
