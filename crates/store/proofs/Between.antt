-- A record put between those of a store: the bytes are those of the store with it. Assumes nothing.
use mathlib.Core.List.{List, ◌∷◌, ◌++◌, append_assoc}
use mathlib.Core.Path.{◌≡◌, refl, sym, ◌∙◌, ap}
use Prim.Native.Nat.{ℕ, suc, ◌+◌, ◌-◌, ◌<◌}
use native.Mathlib.Omega.{arith}
use lib.ListN.{length, replicate, length-append, length-replicate, replicate-append-replicate}
use lib.Seq.{sets}
use Rattle.laws.specs.Lists.{gather}
use Rattle.laws.proofs.Storing.{sets_over, pad_is}
use Rattle.laws.proofs.Appending.{gather_append}
use Rattle.language.specs.Table.{eight_bytes}
use Rattle.numbers.proofs.MovesLaws.{inserted}
use Rattle.records.specs.declared.Record.{Record}
use Rattle.records.specs.Stores.{capacity, store_length, record_cells, store_cells, record_offset, record_length}
use Rattle.records.proofs.Cells.{length_record, length_records, length_before, length_front, front, front_between}
use Rattle.store.specs.Inserting.{inserted_at}

module _ (xs ys : List Record) (r : Record) (room : length xs + length ys < capacity) where
  abbrev n : ℕ
  n = length xs + length ys

  -- zeros behind the records: those that the newcomer takes, and the rest
  abbrev rest : List ℕ
  rest = replicate (store_length - (record_offset (n + 1))) 0

  abbrev before : List ℕ
  before = eight_bytes n ++ gather record_cells xs

  abbrev behind : List ℕ
  behind = gather record_cells ys

  front_parts : front (xs ++ ys) ≡ before ++ behind
  front_parts =
      rw (length-append xs ys, gather_append record_cells xs ys) (sym (append_assoc (eight_bytes n) (gather record_cells xs) (gather record_cells ys)))

  parts : store_cells (xs ++ ys) ≡ before ++ (behind ++ (replicate record_length 0 ++ rest))
  unfolding store_cells
  parts =
      let m : ℕ = store_length - (record_offset (n + 1)) in
      pad_is store_length (front (xs ++ ys)) (record_length + m) (omega (arith, length_front (xs ++ ys), length-append xs ys))
      ∙ ap (λ (t : List ℕ). t ++ replicate (record_length + m) 0) front_parts
      ∙ ap (λ (t : List ℕ). before ++ behind ++ t) (sym (replicate-append-replicate {A = ℕ} record_length m 0))
      ∙ append_assoc before behind (replicate record_length 0 ++ rest)

  with_it : store_cells (xs ++ (r ∷ ys)) ≡ eight_bytes (n + 1) ++ (gather record_cells xs ++ (record_cells r ++ (behind ++ rest)))
  unfolding store_cells
  with_it =
      let more : length xs + suc (length ys) ≡ n + 1 = omega arith in
      let p = record_cells r in
      let q = gather record_cells xs in
      let m : ℕ = store_length - (record_offset (n + 1)) in
      pad_is store_length (front (xs ++ (r ∷ ys))) m (omega (arith, length_front (xs ++ (r ∷ ys)), length-append xs (r ∷ ys)))
      ∙ ap (λ (t : List ℕ). t ++ rest) (front_between xs ys r ∙ ap (λ (k : ℕ). eight_bytes k ++ q ++ (p ++ behind)) more)
      ∙ append_assoc (eight_bytes (n + 1) ++ q) (p ++ behind) rest
      ∙ append_assoc (eight_bytes (n + 1)) q (p ++ behind ++ rest)
      ∙ ap (λ (t : List ℕ). eight_bytes (n + 1) ++ (q ++ t)) (append_assoc p behind rest)

  pub between : inserted_at (store_cells (xs ++ ys)) n (length xs) r ≡ store_cells (xs ++ (r ∷ ys))
  unfolding inserted_at
  between =
      let at : record_offset (length xs) ≡ length before = sym (length_before n xs) in
      let end : record_offset n ≡ length before + length behind = omega (arith, length_before n xs, length_records ys) in
      let later : List ℕ = gather record_cells xs ++ (record_cells r ++ (behind ++ rest)) in
      rw (parts, at, end)
      (ap (λ (s : List ℕ). sets s 0 (eight_bytes (n + 1)))
      (inserted before behind (replicate record_length 0) rest (record_cells r) record_length (length-replicate {A = ℕ} record_length 0) (length_record r)
      ∙ append_assoc (eight_bytes n) (gather record_cells xs) (record_cells r ++ (behind ++ rest)))
      ∙ sets_over (eight_bytes (n + 1)) (eight_bytes n) later refl
      ∙ sym with_it)
