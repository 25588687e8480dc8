-- A store whose count is not put yet: records added behind those that it has, and the count put.
-- Assumes nothing.
use mathlib.Core.List.{List, [], ◌∷◌, ◌++◌, append_assoc, append-nil}
use mathlib.Core.Path.{◌≡◌, refl, sym, ◌∙◌, ap}
use Prim.Native.Nat.{ℕ, ◌+◌, ◌≤◌, ◌<◌}
use native.Mathlib.Omega.{arith}
use lib.ListN.{length}
use lib.Seq.{sets}
use Rattle.laws.specs.Lists.{gather}
use Rattle.laws.specs.Sections.{pad}
use Rattle.laws.proofs.Sections.{length_pad}
use Rattle.laws.proofs.Storing.{Stored, sets_over, stored_pad, pad_stored}
use Rattle.laws.proofs.Appending.{gather_append}
use Rattle.language.specs.Table.{eight_bytes}
use Rattle.records.specs.declared.Record.{Record}
use Rattle.records.specs.Stores.{capacity, store_length, record_cells, store_cells, record_offset}
use Rattle.records.proofs.Cells.{length_before, length_records}
use Rattle.joining.specs.Joints.{begun_store}

pub length_begun : (es : List Record) → length es ≤ capacity → length (begun_store es) ≡ store_length
unfolding begun_store
length_begun es h = length_pad store_length (eight_bytes 0 ++ gather record_cells es) (omega (arith, length_before 0 es))

-- the records fs behind the records es
pub begun_more :
    (es fs : List Record) → length es + length fs ≤ capacity → {m : ℕ} → m ≡ record_offset (length es)
    → sets (begun_store es) m (gather record_cells fs) ≡ begun_store (es ++ fs)
unfolding begun_store
begun_more es fs h e =
    let xs : List ℕ = eight_bytes 0 ++ gather record_cells es in
    let ys : List ℕ = gather record_cells fs in
    let fits : length xs + 0 + length ys + 0 ≤ store_length = omega (arith, length_before 0 es, length_records fs) in
    sym (pad_stored store_length xs 0 ys 0 fits (omega (arith, length_before 0 es))).cells
    ∙ ap (pad store_length)
    (ap (λ (r : List ℕ). xs ++ r) (append-nil ys) ∙ append_assoc (eight_bytes 0) (gather record_cells es) ys
    ∙ ap (λ (r : List ℕ). eight_bytes 0 ++ r) (sym (gather_append record_cells es fs)))

-- the same for one record
pub begun_one :
    (es : List Record) (x : Record) → length es < capacity → {m : ℕ} → m ≡ record_offset (length es)
    → sets (begun_store es) m (record_cells x) ≡ begun_store (es ++ (x ∷ []))
begun_one es x h {m} e =
    ap (sets (begun_store es) m) (sym (append-nil (record_cells x))) ∙ begun_more es (x ∷ []) (omega arith) e

pub begun_counted : (es : List Record) → sets (begun_store es) 0 (eight_bytes (length es)) ≡ store_cells es
unfolding begun_store store_cells
begun_counted es =
    let ys : List ℕ = gather record_cells es in
    let put : Stored (eight_bytes 0 ++ ys) 0 (eight_bytes (length es)) (eight_bytes (length es) ++ ys) =
    record { cells = sym (sets_over (eight_bytes (length es)) (eight_bytes 0) ys refl) } in
    sym (stored_pad put store_length (omega (arith, length_before 0 es))).cells
