-- What an insertion leaves: the bytes of the store with the record, or no room and nothing changed. Assumes nothing.
use mathlib.Core.Bool.{Bool, true, false, cond}
use mathlib.Core.List.{List, ◌∷◌, ◌++◌}
use mathlib.Core.Logic.{inl, inr}
use mathlib.Core.Path.{◌≡◌, refl, sym, ◌∙◌, ap}
use Prim.Native.Nat.{ℕ, suc, ◌+◌, ◌<◌, ◌≤◌}
use native.Mathlib.Omega.{arith}
use lib.ListN.{length, get_or, take, drop, length-append, length-drop, take-append-drop}
use lib.Seq.{sets, length-sets, split_at, length-take-le}
use borrow.Author.Tests.{le-leb, lt-leb}
use Rattle.language.specs.Checking.{Verdict}
use Rattle.language.specs.Table.{eight_bytes}
use Rattle.numbers.specs.Moving.{moved}
use Rattle.numbers.proofs.MovesLaws.{moved_length}
use Rattle.records.specs.declared.Record.{Record}
use Rattle.records.specs.Records.{wins, best}
use Rattle.records.specs.Stores.{insert, capacity, store_length, record_cells, store_cells, StoreHolds, record_at, count_of, record_offset, HasRoom, record_length}
use Rattle.records.specs.Answers.{unchanged, kept, kept_as, Kept}
use Rattle.records.proofs.Placing.{Absent, insert_new, insert_known}
use Rattle.records.proofs.Cells.{no_record, held_count, held_record, replaced}
use Rattle.store.specs.Places.{FirstPlace, stands_at}
use Rattle.store.specs.Inserting.{over_at, inserted_at}
use Rattle.store.proofs.Finding.{stands_yes, stands_no, placed_held}
use Rattle.store.proofs.Between.{between}

-- ---- room, and none

kept_room : (s : List ℕ) (es : List Record) → length es ≤ capacity → record { answer = Verdict.accepted; store = store_cells es } ≡ kept s es
unfolding kept
kept_room s es l = rw (le-leb (length es) capacity l)

kept_none : (s : List ℕ) (es : List Record) → capacity < length es → unchanged s 60 0 ≡ kept s es
unfolding kept
kept_none s es l = rw (lt-leb (length es) capacity l)

-- ---- lengths

length_over : (s : List ℕ) (p : ℕ) (r : Record) → length (over_at s p r) ≡ length s
unfolding over_at
length_over s p r = by (wins r (record_at s p))
  where
    by : (b : Bool) → length (cond b (sets s (record_offset p) (record_cells r)) s) ≡ length s
    by true = length-sets s (record_offset p) (record_cells r)
    by false = refl

length_between : (s : List ℕ) (n p : ℕ) (r : Record) → p ≤ n → HasRoom s (n + 1) → length (inserted_at s n p r) ≡ length s
unfolding inserted_at
length_between s n p r l m =
    let t = moved s (record_offset p) (record_offset n) record_length in
    length-sets (sets t (record_offset p) (record_cells r)) 0 (eight_bytes (n + 1)) ∙ length-sets t (record_offset p) (record_cells r)
    ∙ moved_length s (record_offset p) (record_offset n) record_length (omega arith) (omega arith)

-- ---- the bytes

-- at the place of a record of its appliance the winner stays
over_held : {s : List ℕ} {es : List Record} → StoreHolds s es → (p : ℕ) (r : Record) → p < length es
    → over_at s p r ≡ store_cells (take p es ++ (best r (get_or es p no_record) ∷ drop (suc p) es))
unfolding over_at best
over_held {s} {es} h p r l = rw (held_record h no_record p l) (by (wins r e))
  where
    e : Record
    e = get_or es p no_record

    whole : s ≡ store_cells (take p es ++ (e ∷ drop (suc p) es))
    whole = h.bytes ∙ ap store_cells (split_at es p no_record l)

    at : record_offset p ≡ record_offset (length (take p es))
    at = omega (arith, length-take-le p es (omega arith))

    by : (b : Bool) → cond b (sets s (record_offset p) (record_cells r)) s ≡ store_cells (take p es ++ (cond b r e ∷ drop (suc p) es))
    by true =
        ap (λ (k : ℕ). sets s k (record_cells r)) at ∙ ap (λ (t : List ℕ). sets t (record_offset (length (take p es))) (record_cells r)) whole
        ∙ replaced (take p es) (drop (suc p) es) e r
    by false = whole

-- a record of a new appliance goes between the others
between_held : {s : List ℕ} {es : List Record} → StoreHolds s es → (n p : ℕ) (r : Record) → n ≡ length es → p ≤ n → n < capacity
    → inserted_at s n p r ≡ store_cells (take p es ++ (r ∷ drop p es))
between_held {s} {es} h n p r e l m =
    let front : length (take p es) ≡ p = length-take-le p es (omega arith) in
    let both : length (take p es) + length (drop p es) ≡ n = omega (arith, length-drop p es) in
    ap (λ (t : List ℕ). inserted_at t n p r) (h.bytes ∙ ap store_cells (sym (take-append-drop p es)))
    ∙ ap (λ (k : ℕ). inserted_at (store_cells (take p es ++ drop p es)) k p r) (sym both)
    ∙ ap (λ (k : ℕ). inserted_at (store_cells (take p es ++ drop p es)) (length (take p es) + length (drop p es)) k r) (sym front)
    ∙ between (take p es) (drop p es) r (omega arith)

-- ---- the three outcomes

module _ (s : List ℕ) (n p : ℕ) (r : Record) (c : n ≡ count_of s) (k : FirstPlace s n r.appliance p) where
  pub kept_over : stands_at s n p r.appliance ≡ true → (t : List ℕ) → t ≡ over_at s p r → Kept s (insert r) (kept_as true t)
  kept_over y t e =
      let there = stands_yes s n p r.appliance y in
      record {
        held = λ es h.
            let l : p < length es = omega (arith, there.0, held_count h) in
            let x = held_record h no_record p l in
            let fs : List Record = take p es ++ (best r (get_or es p no_record) ∷ drop (suc p) es) in
            let is : insert r es ≡ fs =
            insert_known r es no_record p (placed_held h n r.appliance p c k) l (ap (λ (z : Record). z.appliance) (sym x) ∙ there.1) in
            let size : length fs ≤ capacity =
            omega (arith, length-append (take p es) (best r (get_or es p no_record) ∷ drop (suc p) es), length-take-le p es (omega arith), length-drop (suc p) es, h.room) in
            ap (λ (u : List ℕ). record { answer = Verdict.accepted; store = u }) (e ∙ over_held h p r l)
            ∙ kept_room s fs size ∙ ap (kept s) (sym is);
        harmless = record { size = ap length e ∙ length_over s p r; either = inl refl };
      }

  module _ (y : stands_at s n p r.appliance ≡ false) where
    new : (es : List Record) → StoreHolds s es → insert r es ≡ take p es ++ (r ∷ drop p es)
    new es h =
        let absent : Absent r.appliance es no_record p = λ m g.
        stands_no s n p r.appliance y (omega (arith, held_count h)) (ap (λ (z : Record). z.appliance) (held_record h no_record p m) ∙ g) in
        insert_new r es no_record p (placed_held h n r.appliance p c k) absent

    length_new : (es : List Record) → StoreHolds s es → length (take p es ++ (r ∷ drop p es)) ≡ suc n
    length_new es h =
        let l : p ≤ length es = omega (arith, k.within, held_count h) in
        omega (arith, length-append (take p es) (r ∷ drop p es), length-take-le p es l, length-drop p es, held_count h)

    pub kept_full : n ≡ capacity → Kept s (insert r) (kept_as false s)
    kept_full f =
        record {
          held = λ es h. kept_none s (take p es ++ (r ∷ drop p es)) (omega (arith, length_new es h)) ∙ ap (kept s) (sym (new es h));
          harmless = record { size = refl; either = inr refl };
        }

    pub kept_between : length s ≡ store_length → n < capacity → (t : List ℕ) → t ≡ inserted_at s n p r → Kept s (insert r) (kept_as true t)
    kept_between z m t e =
        record {
          held = λ es h.
              ap (λ (u : List ℕ). record { answer = Verdict.accepted; store = u })
              (e ∙ between_held h n p r (c ∙ held_count h) k.within m)
              ∙ kept_room s (take p es ++ (r ∷ drop p es)) (omega (arith, length_new es h)) ∙ ap (kept s) (sym (new es h));
          harmless = record { size = ap length e ∙ length_between s n p r k.within (omega arith); either = inl refl };
        }
