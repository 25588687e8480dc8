-- A store: of each appliance the winner, by rising appliance numbers; and its bytes. docs/STORE.md states the layout.
-- Assumes nothing.
use Rattle.std.specs.Prelude.{cond, ◌⊎◌, ◌≡◌, ℕ, ◌+◌, ◌*◌, ◌<◌, ◌≤◌, eqb, ltb, length, get_or}
use mathlib.Core.List.{List, [], ◌∷◌, ◌++◌, foldl, map}
use Rattle.laws.specs.Lists.{below, gather}
use Rattle.laws.specs.Sections.{pad}
use Rattle.language.specs.Table.{eight, eight_bytes}
use Rattle.records.specs.declared.Record.{Record}
use Rattle.records.specs.Records.{SizedRecord, best}

-- ---- What a store holds.

-- A record, or none.
pub data FoundRecord : Type 0 where
  none : FoundRecord
  found : Record → FoundRecord

-- A record comes to its place; where its appliance has one already, the winner of the two stays.
abbrev pub insert : Record → List Record → List Record
insert r [] = r ∷ []
insert r (e ∷ es) =
    cond (ltb r.appliance e.appliance) (r ∷ (e ∷ es))
    (cond (eqb r.appliance e.appliance) (best r e ∷ es) (e ∷ insert r es))

-- Records one after the other; so also a store into a store.
unfoldable pub inserts : List Record → List Record → List Record
inserts rs es = foldl (λ s r. insert r s) es rs

-- "answers for an appliance"
abbrev pub lookup : ℕ → List Record → FoundRecord
lookup a [] = FoundRecord.none
lookup a (e ∷ es) = cond (eqb e.appliance a) (FoundRecord.found e) (lookup a es)

-- The n-th record in order, counted from 0.
abbrev pub nth : ℕ → List Record → FoundRecord
nth n es = cond (ltb n (length es)) (FoundRecord.found (get_or es n (record { appliance = 0; time = 0; fail = 0; tablet = 0; reading = 0 }))) FoundRecord.none

-- All appliance numbers are greater than a; they rise.
abbrev pub Above : ℕ → List Record → Type 0
Above a [] = Unit {0}
Above a (e ∷ es) = (a < e.appliance) × Above a es

abbrev pub Rising : List Record → Type 0
Rising [] = Unit {0}
Rising (e ∷ es) = Above e.appliance es × Rising es

-- The record is one of these.
abbrev pub Among : Record → List Record → Type 0
Among r [] = ⊥
Among r (e ∷ es) = (r ≡ e) ⊎ Among r es

abbrev pub AllSized : List Record → Type 0
AllSized [] = Unit {0}
AllSized (e ∷ es) = SizedRecord e × AllSized es

-- ---- Its bytes: the count of its records and their numbers, eight bytes each, low byte first; the rest is 0.

-- "A store holds 1,024 appliances"
abbrev pub capacity : ℕ
capacity = 1024

-- The layout, every offset and length from the parts: the count, then records of five numbers. No other page says these numbers.
abbrev pub number_length : ℕ
number_length = 8

abbrev pub record_length : ℕ
record_length = 5 * number_length

abbrev pub store_length : ℕ
store_length = number_length + capacity * record_length

-- The columns: where the number of the first record stands.
abbrev pub appliances_offset : ℕ
appliances_offset = number_length

abbrev pub times_offset : ℕ
times_offset = appliances_offset + number_length

abbrev pub fails_offset : ℕ
fails_offset = times_offset + number_length

abbrev pub tablets_offset : ℕ
tablets_offset = fails_offset + number_length

abbrev pub readings_offset : ℕ
readings_offset = tablets_offset + number_length

-- Where record i begins, and that n records lie within these bytes.
abbrev pub record_offset : ℕ → ℕ
record_offset i = appliances_offset + record_length * i

abbrev pub HasRoom : List ℕ → ℕ → Type 0
HasRoom s n = record_offset n ≤ length s

unfoldable pub record_cells : Record → List ℕ
record_cells r =
    eight_bytes r.appliance ++ (eight_bytes r.time ++ (eight_bytes r.fail ++ (eight_bytes r.tablet ++ eight_bytes r.reading)))

unfoldable pub store_cells : List Record → List ℕ
store_cells es = pad store_length (eight_bytes (length es) ++ gather record_cells es)

-- These bytes are those of a store with these records.
pub record StoreHolds (s : List ℕ) (es : List Record) : Type 0 where
  pub rising : Rising es
  pub sized : AllSized es
  pub room : length es ≤ capacity
  pub bytes : s ≡ store_cells es

-- ---- Bytes to records: of any bytes, one past the end counting as 0; a count above 1,024 counts as 1,024.

abbrev pub record_at : List ℕ → ℕ → Record
record_at s i =
    record {
      appliance = eight s (appliances_offset + record_length * i);
      time = eight s (times_offset + record_length * i);
      fail = eight s (fails_offset + record_length * i);
      tablet = eight s (tablets_offset + record_length * i);
      reading = eight s (readings_offset + record_length * i);
    }

unfoldable pub count_of : List ℕ → ℕ
count_of s = cond (ltb capacity (eight s 0)) capacity (eight s 0)

unfoldable pub records_of : List ℕ → List Record
records_of s = map (record_at s) (below (count_of s))

-- ---- Two stores in one pass: from the front, the record with the lower appliance number, or of two for one appliance the winner.

-- The first of the one store and what is left of it beside the other; `next` joins what is left.
abbrev pub beside : Record → List Record → (List Record → List Record) → List Record → List Record
beside e es next [] = e ∷ es
beside e es next (f ∷ fs) =
    cond (ltb e.appliance f.appliance) (e ∷ next (f ∷ fs))
    (cond (eqb e.appliance f.appliance) (best f e ∷ next fs) (f ∷ beside e es next fs))

abbrev pub joined : List Record → List Record → List Record
joined [] fs = fs
joined (e ∷ es) fs = beside e es (joined es) fs
