-- The lines of the merge: a test as it is told in a file of records, and a record as it is shown.
-- Assumes nothing.
use Rattle.std.specs.Prelude.{cond, List, [], ◌∷◌, ◌++◌, ℕ, eqb, Option, Some, None}
use Rattle.language.specs.Bytes.{bytes_of}
use Rattle.language.specs.Instructions.{int64, uint64}
use Rattle.language.specs.Listing.{tab, digits}
use Rattle.language.specs.Writing.{bytes_for, number_token}
use Rattle.decimal.specs.Meanings.{bits_from}
use Rattle.decimal.specs.Numbers.{number_of}
use Rattle.records.specs.declared.Record.{Record}
use Rattle.merge_lines.specs.declared.told.Line.{Line}

-- ---- A line that is told: records are lines of four decimal numbers parted by tabs (document 02, A8: appliance, time and tablet are "each below
-- 2^64", the reading is an `int64` by meaning). A number's form is that of the tool's other words: a minus may stand before the digits, leading
-- zeros are free, `-0` is 0.

-- The bytes from one tab to the next.
abbrev pub longer : ℕ → List (List ℕ) → List (List ℕ)
longer b [] = (b ∷ []) ∷ []
longer b (w ∷ ws) = (b ∷ w) ∷ ws

abbrev pub line_words : List ℕ → List (List ℕ)
line_words [] = [] ∷ []
line_words (b ∷ bs) = cond (eqb b tab) ([] ∷ line_words bs) (longer b (line_words bs))

-- A number in the range of a type, as a register would hold it.
unfoldable pub number_in : (type : ℕ) (word : List ℕ) → Option ℕ
number_in t w = bits_from t (number_of w)

-- What follows a number, if it is one.
abbrev pub if_fits : Option ℕ → (ℕ → Option Line) → Option Line
if_fits (Some x) next = next x
if_fits None next = None

-- The reading from -2^63 to 2^63 - 1, and nothing after it.
abbrev pub line_with : (appliance time tablet reading : ℕ) → Option Line
line_with a t b r = Some (record { appliance = a; time = t; tablet = b; reading = r })

abbrev pub with_reading : (appliance time tablet : ℕ) → List (List ℕ) → Option Line
with_reading a t b [] = None
with_reading a t b (w ∷ []) = if_fits (number_in int64 w) (line_with a t b)
with_reading a t b (w ∷ v ∷ ws) = None

-- A number from 0 to 2^64 - 1, and what follows it.
abbrev pub number_then : (ℕ → List (List ℕ) → Option Line) → List (List ℕ) → Option Line
number_then next [] = None
number_then next (w ∷ ws) = if_fits (number_in uint64 w) (λ x. next x ws)

abbrev pub with_tablet : (appliance time : ℕ) → List (List ℕ) → Option Line
with_tablet a t = number_then (with_reading a t)

abbrev pub with_time : (appliance : ℕ) → List (List ℕ) → Option Line
with_time a = number_then (with_tablet a)

-- Appliance, time, tablet, reading.
unfoldable pub line_of : List ℕ → Option Line
line_of l = number_then with_time (line_words l)

-- ---- A line that is shown, tabs between: appliance, time, tablet, the reading by meaning, `pass` or `fail`.

abbrev pub field_shown : ℕ → List ℕ
field_shown n = digits n ++ (tab ∷ [])

-- As a load's number is written.
unfoldable pub reading_shown : ℕ → List ℕ
reading_shown x = bytes_for (number_token int64 x)

abbrev pub verdict_shown : (fail : ℕ) → List ℕ
verdict_shown f = cond (eqb f 0) (bytes_of "\tpass\n") (bytes_of "\tfail\n")

-- How many bytes the line of a record takes at most: four numbers, a sign, the verdict and what stands between.
abbrev pub record_most : ℕ
record_most = 90

unfoldable pub record_line : Record → List ℕ
record_line r = field_shown r.appliance ++ field_shown r.time ++ field_shown r.tablet ++ reading_shown r.reading ++ verdict_shown r.fail
