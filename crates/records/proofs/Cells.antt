-- The bytes of a store: what stands where, that they are read back, and what a record stored over another leaves.
-- Assumes nothing.
use mathlib.Core.List.{List, [], ◌∷◌, ◌++◌, map, append_assoc}
use mathlib.Core.Path.{◌≡◌, refl, sym, ◌∙◌, ap}
use Prim.Native.Nat.{ℕ, zero, suc, ◌+◌, ◌-◌, ◌*◌, ◌≤◌, ◌<◌}
use native.Mathlib.Nat.{mod-eq_of_lt, not-suc-le-zero, le_of_suc-le-suc}
use native.Mathlib.Omega.{arith}
use lib.ListN.{length, get_or, replicate, length-append, replicate-append-replicate}
use lib.Seq.{sets}
use borrow.Author.Tests.{le-ltb}
use Rattle.laws.specs.Lists.{below, gather}
use Rattle.laws.specs.Sections.{pad, At}
use Rattle.laws.proofs.Ranges.{map_from}
use Rattle.laws.proofs.Sections.{at_move, at_self, at_left, at_right, at_pad, length_pad}
use Rattle.laws.proofs.Storing.{Stored, sets_middle, stored_pad, pad_is, length_each, at_each}
use Rattle.laws.proofs.Appending.{gather_append}
use Rattle.language.specs.Answers.{zeros}
use Rattle.language.specs.Table.{eight, eight_bytes}
use Rattle.theorems.proofs.TableParts.{eight_back}
use Rattle.records.specs.declared.Record.{Record}
use Rattle.records.specs.Records.{SizedRecord}
use Rattle.records.specs.Stores.{Rising, AllSized, capacity, store_length, record_cells, store_cells, StoreHolds, record_at, count_of, records_of, record_offset, record_length, times_offset, fails_offset, tablets_offset, readings_offset}

-- what is read past the records of a list
abbrev pub no_record : Record
no_record = record { appliance = 0; time = 0; fail = 0; tablet = 0; reading = 0 }

-- ---- lengths

pub length_record : (r : Record) → length (record_cells r) ≡ record_length
unfolding record_cells
length_record r = refl

pub length_records : (es : List Record) → length (gather record_cells es) ≡ record_length * length es
length_records es = length_each record_cells record_length no_record es (λ i b. length_record _)

-- a count and records
pub length_before : (n : ℕ) (xs : List Record) → length (eight_bytes n ++ gather record_cells xs) ≡ record_offset (length xs)
length_before n xs = length-append (eight_bytes n) (gather record_cells xs) ∙ ap (λ (m : ℕ). 8 + m) (length_records xs)

-- the count and the records, without the zeros behind them
abbrev pub front : List Record → List ℕ
front es = eight_bytes (length es) ++ gather record_cells es

pub length_front : (es : List Record) → length (front es) ≡ record_offset (length es)
length_front es = length_before (length es) es

pub length_store : (es : List Record) → length es ≤ capacity → length (store_cells es) ≡ store_length
unfolding store_cells
length_store es h = length_pad store_length (front es) (omega (arith, length_front es))

-- ---- read back

module _ (t : List ℕ) (i : ℕ) (r : Record) (s : SizedRecord r) (h : At t (record_offset i) (record_cells r)) where
  -- the numbers of a record, one behind the other
  pub record_back : record_at t i ≡ r
  unfolding record_cells
  record_back =
      let a = eight_bytes r.appliance in
      let b = eight_bytes r.time in
      let c = eight_bytes r.fail in
      let d = eight_bytes r.tablet in
      let e = eight_bytes r.reading in
      let h1 : At t (times_offset + record_length * i) (b ++ (c ++ (d ++ e))) = at_move (omega arith) (at_right a (b ++ (c ++ (d ++ e))) h) in
      let h2 : At t (fails_offset + record_length * i) (c ++ (d ++ e)) = at_move (omega arith) (at_right b (c ++ (d ++ e)) h1) in
      let h3 : At t (tablets_offset + record_length * i) (d ++ e) = at_move (omega arith) (at_right c (d ++ e) h2) in
      let h4 : At t (readings_offset + record_length * i) e = at_move (omega arith) (at_right d e h3) in
      let p : eight t (record_offset i) ≡ r.appliance = eight_back r.appliance (at_left a (b ++ (c ++ (d ++ e))) h) refl ∙ mod-eq_of_lt s.appliance in
      let q : eight t (times_offset + record_length * i) ≡ r.time = eight_back r.time (at_left b (c ++ (d ++ e)) h1) refl ∙ mod-eq_of_lt s.time in
      let u : eight t (fails_offset + record_length * i) ≡ r.fail = eight_back r.fail (at_left c (d ++ e) h2) refl ∙ mod-eq_of_lt (omega (arith, s.fail)) in
      let v : eight t (tablets_offset + record_length * i) ≡ r.tablet = eight_back r.tablet (at_left d e h3) refl ∙ mod-eq_of_lt s.tablet in
      let w : eight t (readings_offset + record_length * i) ≡ r.reading = eight_back r.reading h4 refl ∙ mod-eq_of_lt s.reading in
      λ j. record { appliance = p j; time = q j; fail = u j; tablet = v j; reading = w j }

at_front : (es : List Record) → At (store_cells es) 0 (front es)
unfolding store_cells
at_front es = at_pad store_length (front es) at_self

at_records : (es : List Record) → At (store_cells es) 8 (gather record_cells es)
at_records es = at_right (eight_bytes (length es)) (gather record_cells es) (at_front es)

pub sized_at : (es : List Record) (d : Record) → AllSized es → (i : ℕ) → i < length es → SizedRecord (get_or es i d)
sized_at [] d h i l = absurd (not-suc-le-zero l)
sized_at (e ∷ es) d h zero l = h.0
sized_at (e ∷ es) d h (suc i) l = sized_at es d h.1 i (le_of_suc-le-suc l)

-- the number of the first eight bytes is the count
pub number_stored : (es : List Record) → length es ≤ capacity → eight (store_cells es) 0 ≡ length es
number_stored es h =
    eight_back (length es) (at_left (eight_bytes (length es)) (gather record_cells es) (at_front es)) refl ∙ mod-eq_of_lt (omega arith)

pub count_stored : (es : List Record) → length es ≤ capacity → count_of (store_cells es) ≡ length es
unfolding count_of
count_stored es h = rw (number_stored es h, le-ltb capacity (length es) h)

pub record_stored : (es : List Record) (d : Record) → AllSized es → (i : ℕ) → i < length es → record_at (store_cells es) i ≡ get_or es i d
record_stored es d h i l =
    record_back (store_cells es) i (get_or es i d) (sized_at es d h i l) (at_each record_cells record_length d es (λ j b. length_record _) i l (at_records es))

-- ---- what bytes hold

module _ {s : List ℕ} {es : List Record} (h : StoreHolds s es) where
  pub held_length : length s ≡ store_length
  held_length = ap length h.bytes ∙ length_store es h.room

  pub held_count : count_of s ≡ length es
  held_count = ap count_of h.bytes ∙ count_stored es h.room

  pub held_record : (d : Record) (i : ℕ) → i < length es → record_at s i ≡ get_or es i d
  held_record d i l = ap (λ (t : List ℕ). record_at t i) h.bytes ∙ record_stored es d h.sized i l

  pub held_records : records_of s ≡ es
  unfolding records_of
  held_records =
      ap (λ (n : ℕ). map (record_at s) (below n)) held_count
      ∙ map_from (record_at s) no_record 0 es (λ i l. ap (record_at s) (let z : 0 + i ≡ i = omega arith in z) ∙ held_record no_record i l)

-- they hold one list of records alone
pub held_alone : {s : List ℕ} {es fs : List Record} → StoreHolds s es → StoreHolds s fs → es ≡ fs
held_alone h k = sym (held_records h) ∙ held_records k

pub stored_holds : (es : List Record) → Rising es → AllSized es → length es ≤ capacity → StoreHolds (store_cells es) es
stored_holds es r s l = record { rising = r; sized = s; room = l; bytes = refl }

pub empty_holds : StoreHolds (store_cells []) []
empty_holds = stored_holds [] tt tt (omega arith)

-- An empty store is all zero.
zeros_padded : (n : ℕ) → 8 ≤ n → zeros n ≡ pad n (front [])
unfolding zeros
zeros_padded n h =
    let k : ℕ = n - 8 in
    let e : n ≡ 8 + k = omega arith in
    ap (λ (m : ℕ). replicate m 0) e ∙ sym (replicate-append-replicate 8 k 0) ∙ sym (pad_is n (front []) k (omega arith))

pub empty_zeros : zeros store_length ≡ store_cells []
unfolding store_cells
empty_zeros = zeros_padded store_length (omega arith)

-- ---- a record stored over another

module _ (xs ys : List Record) where
  -- the bytes before a record between them, and behind it
  pub front_between : (e : Record) → front (xs ++ (e ∷ ys)) ≡ eight_bytes (length xs + suc (length ys)) ++ gather record_cells xs ++ (record_cells e ++ gather record_cells ys)
  front_between e =
      rw (length-append xs (e ∷ ys), gather_append record_cells xs (e ∷ ys))
      (sym (append_assoc (eight_bytes (length xs + suc (length ys))) (gather record_cells xs) (record_cells e ++ gather record_cells ys)))

  pub replaced : (e r : Record) → sets (store_cells (xs ++ (e ∷ ys))) (record_offset (length xs)) (record_cells r) ≡ store_cells (xs ++ (r ∷ ys))
  unfolding store_cells
  replaced e r =
      let n : ℕ = length xs + suc (length ys) in
      let before : List ℕ = eight_bytes n ++ gather record_cells xs in
      let over : Stored (front (xs ++ (e ∷ ys))) (record_offset (length xs)) (record_cells r) (front (xs ++ (r ∷ ys))) =
      record {
        cells =
            front_between r
            ∙ sym (sets_middle (record_cells r) before (record_cells e) (gather record_cells ys) (length_record e ∙ sym (length_record r)) (sym (length_before n xs)))
            ∙ ap (λ (t : List ℕ). sets t (record_offset (length xs)) (record_cells r)) (sym (front_between e));
      } in
      let fits : record_offset (length xs) + length (record_cells r) ≤ length (front (xs ++ (e ∷ ys))) =
      omega (arith, length_front (xs ++ (e ∷ ys)), length-append xs (e ∷ ys), length_record r) in
      sym (stored_pad over store_length fits).cells
