-- The records of a store from a place on, one fewer or one more of them, and of two records the one that a test chooses.
-- Assumes nothing.
use mathlib.Core.Bool.{Bool, true, false, cond}
use mathlib.Core.List.{List, [], ◌∷◌, ◌++◌, map, append-nil}
use mathlib.Core.Path.{◌≡◌, refl, sym, ◌∙◌, ap}
use Prim.Native.Nat.{ℕ, suc, ◌+◌, ◌-◌, ◌≤◌, ◌<◌}
use native.Mathlib.Numerals.{add-one}
use native.Mathlib.Omega.{arith}
use lib.ListN.{length}
use lib.Seq.{sets}
use Rattle.laws.specs.Lists.{from, gather}
use Rattle.laws.proofs.Cells.{sets_then}
use Rattle.laws.proofs.Ranges.{length_map_from, map_from_append}
use Rattle.laws.proofs.Appending.{gather_append}
use Rattle.records.specs.declared.Record.{Record}
use Rattle.records.specs.Records.{wins, best}
use Rattle.records.specs.Stores.{record_cells, count_of, record_at, records_of, record_offset, HasRoom}
use Rattle.records.proofs.Cells.{length_records}
use Rattle.joining.specs.Joints.{records_from}

module _ (s : List ℕ) where
  pub records_cons : (i n : ℕ) → i < n → records_from s i n ≡ record_at s i ∷ records_from s (i + 1) n
  unfolding records_from
  records_cons i n h =
      let e : n - i ≡ suc (n - (i + 1)) = omega arith in
      ap (λ (m : ℕ). map (record_at s) (from i m)) e
      ∙ ap (λ (k : ℕ). record_at s i ∷ map (record_at s) (from k (n - (i + 1)))) (sym (add-one i))

  pub records_none : (i n : ℕ) → n ≤ i → records_from s i n ≡ []
  unfolding records_from
  records_none i n h = let e : n - i ≡ 0 = omega arith in ap (λ (m : ℕ). map (record_at s) (from i m)) e

  pub records_snoc : (i d : ℕ) → records_from s i (i + (d + 1)) ≡ records_from s i (i + d) ++ (record_at s (i + d) ∷ [])
  unfolding records_from
  records_snoc i d =
      let e : i + (d + 1) - i ≡ d + 1 = omega arith in
      let f : i + d - i ≡ d = omega arith in
      ap (λ (m : ℕ). map (record_at s) (from i m)) e ∙ map_from_append (record_at s) i d 1
      ∙ ap (λ (m : ℕ). map (record_at s) (from i m) ++ (record_at s (i + d) ∷ [])) (sym f)

  pub records_all : records_of s ≡ records_from s 0 (count_of s)
  unfolding records_of records_from
  records_all = let e : count_of s - 0 ≡ count_of s = omega arith in ap (λ (m : ℕ). map (record_at s) (from 0 m)) (sym e)

  pub length_records_from : (i n : ℕ) → length (records_from s i n) ≡ n - i
  unfolding records_from
  length_records_from i n = length_map_from (record_at s) i (n - i)

-- ---- records put one behind the other: the first d from place i on, at place w of out

module _ (s out : List ℕ) (i w : ℕ) where
  abbrev pub Put : ℕ → List ℕ → Type 0
  Put d out' = out' ≡ sets out (record_offset w) (gather record_cells (records_from s i (i + d)))

  pub put_none : Put 0 out
  put_none = ap (λ (es : List Record). sets out (record_offset w) (gather record_cells es)) (sym (records_none s i (i + 0) (omega arith)))

  pub put_more :
      (d : ℕ) {x : Record} {t t' : List ℕ} → Put d t → x ≡ record_at s (i + d) → t' ≡ sets t (record_offset (w + d)) (record_cells x) → Put (d + 1) t'
  put_more d {x} {t} {t'} p q o =
      let es : List Record = records_from s i (i + d) in
      let size : length es ≡ i + d - i = length_records_from s i (i + d) in
      let behind : record_offset (w + d) ≡ record_offset w + length (gather record_cells es) = omega (arith, length_records es) in
      let grown : gather record_cells es ++ record_cells x ≡ gather record_cells (records_from s i (i + (d + 1))) =
      ap (λ (l : List ℕ). gather record_cells es ++ l) (sym (append-nil (record_cells x)))
      ∙ sym (gather_append record_cells es (x ∷ []))
      ∙ ap (λ (y : Record). gather record_cells (es ++ (y ∷ []))) q
      ∙ ap (gather record_cells) (sym (records_snoc s i d)) in
      sets_then out (gather record_cells es) (record_cells x) (record_offset w) behind p o ∙ ap (sets out (record_offset w)) grown

  pub put_all : (d n : ℕ) {t : List ℕ} → Put d t → i + d ≡ n → t ≡ sets out (record_offset w) (gather record_cells (records_from s i n))
  put_all d n p e = p ∙ ap (λ (m : ℕ). sets out (record_offset w) (gather record_cells (records_from s i m))) e

-- ---- the one or the other, of store and place

module _ (s u : List ℕ) (i j : ℕ) where
  pub chosen_room :
      (b : Bool) {t : List ℕ} {k : ℕ} → HasRoom s (i + 1) → HasRoom u (j + 1) → t ≡ cond b u s → k ≡ cond b j i → HasRoom t (k + 1)
  chosen_room true h l e f = rw (e, f) l
  chosen_room false h l e f = rw (e, f) h

  record_chosen : (b : Bool) → record_at (cond b u s) (cond b j i) ≡ cond b (record_at u j) (record_at s i)
  record_chosen true = refl
  record_chosen false = refl

  -- the winner, if the test says which wins
  pub chosen_best :
      {b : Bool} {t : List ℕ} {k : ℕ} {x y r : Record} → t ≡ cond b u s → k ≡ cond b j i
      → x ≡ record_at u j → y ≡ record_at s i → b ≡ wins x y → r ≡ record_at t k → r ≡ best (record_at u j) (record_at s i)
  unfolding best
  chosen_best {b} {y = y} e f p q c g =
      let which : b ≡ wins (record_at u j) (record_at s i) = c ∙ ap (λ (z : Record). wins z y) p ∙ ap (wins (record_at u j)) q in
      g ∙ rw (e, f) (record_chosen b) ∙ ap (λ (d : Bool). cond d (record_at u j) (record_at s i)) which
