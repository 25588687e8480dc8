-- The end of a join: one of the two stores is used up, so that what is to come is the rest of the other; or there is no room.
-- Assumes nothing.
use mathlib.Core.Bool.{Bool, true, false, false≢true}
use mathlib.Core.List.{List, [], ◌∷◌, ◌++◌, append_assoc, append-nil}
use mathlib.Core.Path.{◌≡◌, refl, sym, ◌∙◌, ap}
use Prim.Native.Nat.{ℕ, ◌+◌, ◌-◌, ◌≤◌, ◌<◌}
use native.Mathlib.Decide.{dec_lt}
use native.Mathlib.Omega.{arith}
use lib.ListN.{length, length-append}
use lib.Seq.{sets}
use borrow.Author.Tests.{le-leb, lt-leb}
use Rattle.laws.specs.Lists.{gather}
use Rattle.language.specs.Table.{eight_bytes}
use Rattle.records.specs.declared.Record.{Record}
use Rattle.records.specs.Stores.{capacity, record_cells, store_cells, count_of, records_of, joined, record_offset}
use Rattle.records.specs.Answers.{kept, kept_as}
use Rattle.joining.specs.declared.Joint.{Joint}
use Rattle.joining.specs.Joints.{records_from, begun_store, Walked, JoinFilled}
use Rattle.joining.proofs.Begun.{begun_more, begun_counted}
use Rattle.joining.proofs.Parts.{records_none, records_all, length_records_from}
use Rattle.joining.proofs.Steps.{joined_some}

joined_nil : (es : List Record) → joined es [] ≡ es
joined_nil [] = refl
joined_nil (e ∷ es) = refl

module _ (s u : List ℕ) (n k : ℕ) {x : Joint} {out : List ℕ} (h : Walked s u n k x out) where
  abbrev es : List Record
  es = records_from s x.i n

  abbrev fs : List Record
  fs = records_from u x.j k

  abbrev all : List Record
  all = joined (records_from s 0 n) (records_from u 0 k)

  -- what is to come is what is left of both, unless there is no room for it
  coming_both : x.w + (n - x.i) + (k - x.j) ≤ capacity → joined es fs ≡ es ++ fs
  coming_both r = by (dec_lt x.i n) (dec_lt x.j k)
    where
      by : Dec (x.i < n) → Dec (x.j < k) → joined es fs ≡ es ++ fs
      by (no a) d = rw (records_none s x.i n (omega arith))
      by (yes a) (no b) = rw (records_none u x.j k (omega arith)) (joined_nil es ∙ sym (append-nil es))
      by (yes a) (yes b) = absurd (omega (arith, h.stop a b))

  -- all of them
  all_length : length all ≡ x.w + length (joined es fs)
  all_length = ap length (sym h.joining.coming) ∙ length-append h.joining.written (joined es fs) ∙ ap (λ (m : ℕ). m + length (joined es fs)) h.joining.count

  pub no_room : capacity < x.w + (n - x.i) + (k - x.j) → capacity < length all
  no_room r = by (dec_lt x.i n) (dec_lt x.j k)
    where
      by : Dec (x.i < n) → Dec (x.j < k) → capacity < length all
      by (no a) d =
          let e : length (joined es fs) ≡ k - x.j = ap (λ (l : List Record). length (joined l fs)) (records_none s x.i n (omega arith)) ∙ length_records_from u x.j k in
          omega (arith, all_length)
      by (yes a) (no b) =
          let e : length (joined es fs) ≡ n - x.i = ap (λ (l : List Record). length (joined es l)) (records_none u x.j k (omega arith)) ∙ ap length (joined_nil es) ∙ length_records_from s x.i n in
          omega (arith, all_length)
      by (yes a) (yes b) = omega (arith, all_length, h.stop a b, joined_some s u n k x.i x.j a b)

  module _ (r : x.w + (n - x.i) + (k - x.j) ≤ capacity) where
    all_is : all ≡ h.joining.written ++ es ++ fs
    all_is =
        sym h.joining.coming ∙ ap (λ (l : List Record). h.joining.written ++ l) (coming_both r) ∙ sym (append_assoc h.joining.written es fs)

    count_is : length all ≡ x.w + (n - x.i) + (k - x.j)
    count_is =
        let e : length es ≡ n - x.i = length_records_from s x.i n in
        let f : length fs ≡ k - x.j = length_records_from u x.j k in
        let c : length h.joining.written ≡ x.w = h.joining.count in
        ap length all_is ∙ simp length-append (omega arith)

    pub room : length all ≤ capacity
    room = omega (arith, count_is)

    -- the rest of both is put behind what is written, and then the count
    pub all_put :
        {a b c : List ℕ} → a ≡ sets out (record_offset x.w) (gather record_cells es) → b ≡ sets a (record_offset (x.w + (n - x.i))) (gather record_cells fs)
        → c ≡ sets b 0 (eight_bytes (x.w + (n - x.i) + (k - x.j))) → c ≡ store_cells all
    all_put {a} {b} {c} p q o =
        let ws : List Record = h.joining.written in
        let ew : length ws ≡ x.w = h.joining.count in
        let ee : length es ≡ n - x.i = length_records_from s x.i n in
        let ef : length fs ≡ k - x.j = length_records_from u x.j k in
        let em : length (ws ++ es) ≡ x.w + (n - x.i) = length-append ws es ∙ omega arith in
        let p' : a ≡ begun_store (ws ++ es) =
        p ∙ ap (λ (t : List ℕ). sets t (record_offset x.w) (gather record_cells es)) h.joining.bytes ∙ begun_more ws es (omega arith) (omega arith) in
        let q' : b ≡ begun_store (ws ++ es ++ fs) =
        q ∙ ap (λ (t : List ℕ). sets t (record_offset (x.w + (n - x.i))) (gather record_cells fs)) p' ∙ begun_more (ws ++ es) fs (omega arith) (omega arith) in
        o ∙ ap (λ (m : ℕ). sets b 0 (eight_bytes m)) (sym count_is)
        ∙ ap (λ (t : List ℕ). sets t 0 (eight_bytes (length all))) (q' ∙ ap begun_store (sym all_is)) ∙ begun_counted all

-- ---- for all the records of both

module _ (s u : List ℕ) where
  abbrev together : List Record
  together = joined (records_of s) (records_of u)

  module _ {n k : ℕ} (p : n ≡ count_of s) (q : k ≡ count_of u) where
    all_records : together ≡ joined (records_from s 0 n) (records_from u 0 k)
    all_records = rw (p, q, records_all s, records_all u)

    pub filled_not : {out : List ℕ} → capacity < length (joined (records_from s 0 n) (records_from u 0 k)) → JoinFilled s u false out
    filled_not h = record { room = sym (lt-leb (length together) capacity (rw all_records h)); bytes = λ e. absurd (false≢true e) }

    pub filled :
        {out : List ℕ} → length (joined (records_from s 0 n) (records_from u 0 k)) ≤ capacity
        → out ≡ store_cells (joined (records_from s 0 n) (records_from u 0 k)) → JoinFilled s u true out
    filled h e = record { room = sym (le-leb (length together) capacity (rw all_records h)); bytes = λ z. e ∙ ap store_cells (sym all_records) }

  -- the answer, with the store as it is then
  pub kept_not : {b : Bool} {out : List ℕ} → JoinFilled s u b out → b ≡ false → kept_as false s ≡ kept s together
  unfolding kept
  kept_not h e = rw (sym h.room ∙ e)

  pub kept_all : {b : Bool} {out t : List ℕ} → JoinFilled s u b out → b ≡ true → t ≡ out → kept_as true t ≡ kept s together
  unfolding kept
  kept_all h e o = rw (sym h.room ∙ e, o ∙ h.bytes e)
