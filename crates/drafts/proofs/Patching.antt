-- A function's end, first part: row by row, the numbers of blocks are stored over those of names.
-- Assumes nothing.
use mathlib.Core.Path.{◌≡◌, refl, sym, ap, ◌∙◌}
use mathlib.Core.List.{List, [], ◌∷◌, ◌++◌, map, map-append, append_assoc}
use Prim.Native.Nat.{ℕ, zero, suc, ◌+◌, ◌*◌, ◌≤◌, ◌<◌}
use native.Mathlib.Nat.{le_of_lt}
use native.Mathlib.Numerals.{add-one}
use native.Mathlib.Omega.{arith}
use lib.Dec.{T, eqb→eq, lit<, lit≤}
use lib.ListN.{length, get_or, set, take, drop, length-append, length-map, length-drop}
use lib.Seq.{sets, set_at, get_or-set_other, get_or-append_seam, take-suc, drop-cons, length-take-le}
use mir.Facts.{and_yes}
use Rattle.laws.specs.Lists.{empty}
use Rattle.laws.specs.Sections.{At, pad, gather_from}
use Rattle.laws.proofs.Every.{Every, every_at}
use Rattle.laws.proofs.Indexing.{all_at}
use Rattle.laws.proofs.Sections.{at_cell, at_pad, at_stride, length_pad}
use Rattle.laws.proofs.Storing.{Stored, stored_pad, element_stored}
use Rattle.language.specs.Instructions.{form_of, form_number, jump_cond_op, jump_op}
use Rattle.language.specs.Programs.{Row, entries_of, named_by, op_of, form_in}
use Rattle.language.specs.Table.{row_cells, row_op, operands_offset, row_length, rows_length, rows_offset}
use Rattle.language.specs.Reading.{Mention, OpenRow, OpenBlock, Draft, mentions_in, entries_in, open_rows, block_number, resolve_row}
use Rattle.theorems.proofs.TableParts.{length_row, op_back}
use Rattle.drafts.specs.Mentions.{name_number, kept}
use Rattle.drafts.specs.Cells.{WithinSizes, in_form, open_form, numbered_row, numbered_rows, open_head, open_registers, open_blocks, open_row_cells, open_entries, open_cells}
use Rattle.drafts.specs.Ending.{patch_row, patch_rows}
use Rattle.drafts.proofs.EndingLaws.{patch_jump, patch_branch, patch_other}
use Rattle.drafts.proofs.Sections.{entries, length_rows, Sized, cells_of, sized, sections, in_rows_law, at_rows}

-- Where no row stands.
abbrev pub no_row : OpenRow
no_row = OpenRow.row Row.nop

-- ---- one row

-- a row in the form of its instruction that names no block is no jump and no branch
names_none : (row : Row) → T (empty (named_by row)) → (form_number (form_in row) ≡ 5 → ⊥) × (form_number (form_in row) ≡ 6 → ⊥)
names_none Row.nop h = (λ e. omega arith, λ e. omega arith)
names_none (Row.load op t x) h = (λ e. omega arith, λ e. omega arith)
names_none (Row.unary op t s) h = (λ e. omega arith, λ e. omega arith)
names_none (Row.binary op t l r) h = (λ e. omega arith, λ e. omega arith)
names_none (Row.phi t es) h = (λ e. omega arith, λ e. omega arith)
names_none (Row.jump b) h = absurd h
names_none (Row.branch s x y) h = absurd h
names_none (Row.return s) h = (λ e. omega arith, λ e. omega arith)
names_none Row.leave h = (λ e. omega arith, λ e. omega arith)
names_none (Row.unknown op) h = (λ e. omega arith, λ e. omega arith)

form_at_law : (row : Row) → T (in_form row) → (k : ℕ) → op_of row ≡ k → form_number (form_in row) ≡ form_number (form_of k)
form_at_law row h k e = rw (← e) (sym (eqb→eq _ _ h))

other_op : (row : Row) → T (open_form (OpenRow.row row)) → (op_of row ≡ jump_op → ⊥) × (op_of row ≡ jump_cond_op → ⊥)
unfolding form_of
other_op row h =
    let both = and_yes (in_form row) (empty (named_by row)) h in
    let none = names_none row both.1 in
    (λ e. none.0 (form_at_law row both.0 jump_op e), λ e. none.1 (form_at_law row both.0 jump_cond_op e))

pub entries_resolved : (bs : List OpenBlock) (row : OpenRow) → entries_of (resolve_row bs row) ≡ entries_in row
entries_resolved bs (OpenRow.row r) = refl
entries_resolved bs (OpenRow.jump m) = refl
entries_resolved bs (OpenRow.branch s m n) = refl

entries_numbered : (ks : List Mention) (row : OpenRow) → entries_of (numbered_row ks row) ≡ entries_in row
entries_numbered ks (OpenRow.row r) = refl
entries_numbered ks (OpenRow.jump m) = refl
entries_numbered ks (OpenRow.branch s m n) = refl

module _ (ks : List Mention) (bs : List OpenBlock) where
  -- The cells that a row gets: the numbers of the blocks that it mentions.
  abbrev patch : OpenRow → List ℕ
  patch (OpenRow.row r) = []
  patch (OpenRow.jump m) = block_number bs m.name ∷ []
  patch (OpenRow.branch s m n) = block_number bs m.name ∷ block_number bs n.name ∷ []

  row_patched : (n : ℕ) (row : OpenRow) → Stored (row_cells n (numbered_row ks row)) 4 (patch row) (row_cells n (resolve_row bs row))
  unfolding pad row_cells
  row_patched n (OpenRow.row r) = record { cells = refl }
  row_patched n (OpenRow.jump m) = record { cells = refl }
  row_patched n (OpenRow.branch s x y) = record { cells = refl }

  length_patch : (row : OpenRow) → length (patch row) ≤ 2
  length_patch (OpenRow.row r) = lit≤ tt
  length_patch (OpenRow.jump m) = lit≤ tt
  length_patch (OpenRow.branch s m n) = lit≤ tt

  -- The blocks of the names that a row mentions stand in `found`.
  abbrev pub FoundIn : List ℕ → OpenRow → Type 0
  FoundIn found x = Every (λ m. get_or found (name_number ks m.name) 0 ≡ block_number bs m.name) (mentions_in x)

  -- the code's step on a row that stands among the cells
  steps : (f found : List ℕ) (r n : ℕ) (row : OpenRow) → T (open_form row) → FoundIn found row → At f (rows_offset + row_length * r) (row_cells n (numbered_row ks row))
      → sets f (operands_offset + row_length * r) (patch row) ≡ patch_row f found r
  unfolding pad row_cells
  steps f found r n (OpenRow.row x) h z a =
      let o : row_op f 0 r ≡ op_of x = op_back 0 n x r a (omega arith) in
      let other = other_op x h in
      patch_other f found r refl (λ e. other.0 (sym o ∙ e)) (λ e. other.1 (sym o ∙ e))
  steps f found r n (OpenRow.jump m) h (Every.more p z) a =
      let o : row_op f 0 r ≡ jump_op = op_back 0 n (Row.jump (name_number ks m.name)) r a (omega arith) in
      let k : ℕ = operands_offset + row_length * r in
      let one : get_or f k 0 ≡ name_number ks m.name = at_cell 0 a 4 (lit< tt) (omega arith) in
      ap (set f k) (sym p) ∙ patch_jump f found r refl o (sym one)
  steps f found r n (OpenRow.branch s x y) h (Every.more p (Every.more q z)) a =
      let row : Row = Row.branch s (name_number ks x.name) (name_number ks y.name) in
      let o : row_op f 0 r ≡ jump_cond_op = op_back 0 n row r a (omega arith) in
      let k : ℕ = operands_offset + row_length * r in
      let one : get_or f k 0 ≡ name_number ks x.name = at_cell 0 a 4 (lit< tt) (omega arith) in
      let two : get_or f (k + 1) 0 ≡ name_number ks y.name = at_cell 0 a 5 (lit< tt) (omega arith) in
      let v : ℕ = get_or found (name_number ks x.name) 0 in
      let later : get_or (set f k v) (k + 1) 0 ≡ name_number ks y.name = get_or-set_other f k (k + 1) v 0 (λ e. absurd (omega arith)) ∙ two in
      rw (← p, ← q, ← add-one k) (patch_branch f found r refl o (sym one) (sym later))

-- ---- the rows

module _ (ks : List Mention) (bs : List OpenBlock) (rows : List OpenRow) where
  -- The first r rows are resolved, the others have the numbers of names.
  abbrev rows_at : ℕ → List Row
  rows_at r = map (resolve_row bs) (take r rows) ++ map (numbered_row ks) (drop r rows)

  unfoldable pub patched_rows : ℕ → List ℕ
  patched_rows r = pad rows_length (gather_from entries row_cells 0 (rows_at r))

  length_rows_at : (r : ℕ) → r ≤ length rows → length (rows_at r) ≡ length rows
  length_rows_at r h =
      simp (length-append, length-map) (omega (arith, length-take-le r rows h, length-drop r rows))

  pub length_patched : (r : ℕ) → r ≤ length rows → row_length * length rows ≤ rows_length → length (patched_rows r) ≡ rows_length
  unfolding patched_rows
  length_patched r h k = length_pad rows_length (gather_from entries row_cells 0 (rows_at r)) (omega (arith, length_rows 0 (rows_at r), length_rows_at r h))

  module _ (r : ℕ) (b : r < length rows) where
    abbrev pub row : OpenRow
    row = get_or rows r no_row

    abbrev done : List Row
    done = map (resolve_row bs) (take r rows)

    abbrev left : List Row
    left = map (numbered_row ks) (drop (suc r) rows)

    length_done : length done ≡ r
    length_done = length-map (take r rows) (resolve_row bs) ∙ length-take-le r rows (le_of_lt b)

    here : rows_at r ≡ done ++ (numbered_row ks row ∷ left)
    here = ap (λ (l : List OpenRow). done ++ map (numbered_row ks) l) (drop-cons rows r no_row b)

    row_here : get_or (rows_at r) r Row.nop ≡ numbered_row ks row
    row_here =
        ap (λ (l : List Row). get_or l r Row.nop) here
        ∙ ap (λ (k : ℕ). get_or (done ++ (numbered_row ks row ∷ left)) k Row.nop) (sym length_done)
        ∙ get_or-append_seam done (numbered_row ks row) left Row.nop

    next : rows_at (suc r) ≡ set (rows_at r) r (resolve_row bs row)
    next =
        ap (λ (l : List OpenRow). map (resolve_row bs) l ++ left) (take-suc rows r no_row b)
        ∙ ap (λ (l : List Row). l ++ left) (map-append (resolve_row bs) (take r rows) (row ∷ []))
        ∙ append_assoc done (resolve_row bs row ∷ []) left
        ∙ sym (ap (λ (l : List Row). set l r (resolve_row bs row)) here ∙ set_at done (numbered_row ks row) left (resolve_row bs row) r length_done)

    inside : r < length (rows_at r)
    inside = omega (arith, length_rows_at r (le_of_lt b))

    same_size : entries (resolve_row bs row) ≡ entries (get_or (rows_at r) r Row.nop)
    same_size = ap length (entries_resolved bs row ∙ sym (entries_numbered ks row)) ∙ ap entries (sym row_here)

    pub row_stored : Stored (patched_rows r) (row_length * r + 4) (patch ks bs row) (patched_rows (suc r))
    unfolding patched_rows
    row_stored =
        rw next
        (stored_pad
        (element_stored entries row_cells row_length Row.nop (resolve_row bs row) 4 (patch ks bs row) (omega (arith, length_patch ks bs row)) 0 (rows_at r)
        (λ m i c. length_row m (get_or (rows_at r) i Row.nop)) r inside same_size
        (λ m. rw row_here (row_patched ks bs m row)))
        rows_length (omega (arith, length_patch ks bs row, length_rows 0 (rows_at r), inside)))

    pub row_at : {t : List ℕ} {k : ℕ} → At t k (patched_rows r) → (n : ℕ) × At t (k + row_length * r) (row_cells n (numbered_row ks row))
    unfolding patched_rows
    row_at h = (
      _,
      rw row_here at
          (at_stride entries row_cells row_length Row.nop 0 (rows_at r) (λ m i c. length_row m (get_or (rows_at r) i Row.nop)) r inside
          (at_pad rows_length (gather_from entries row_cells 0 (rows_at r)) h)),
    )

-- ---- the cells

module _ (d : Draft) (w : WithinSizes d) where
  abbrev pub bs : List OpenBlock
  bs = d.blocks

  unfoldable pub patched_cells : ℕ → List ℕ
  patched_cells r = cells_of (open_head d) (open_registers d) (open_blocks d) (patched_rows (kept d) bs (open_rows d) r) (open_entries d)

  -- patching begins with the cells as they are
  pub patched_none : patched_cells 0 ≡ open_cells d
  unfolding patched_cells patched_rows open_row_cells numbered_rows
  patched_none = sym (sections d)

  pub patched_sized : (r : ℕ) → r ≤ length (open_rows d) → Sized (open_head d) (open_registers d) (open_blocks d) (patched_rows (kept d) bs (open_rows d) r) (open_entries d)
  patched_sized r h =
      let z = sized d w in
      record {
        head = z.head;
        registers = z.registers;
        blocks = z.blocks;
        rows = length_patched (kept d) bs (open_rows d) r h (omega (arith, w.rows));
        entries = z.entries;
      }

  module _ (found : List ℕ) (z : Every (FoundIn (kept d) bs found) (open_rows d)) where
    step_patched : (r : ℕ) → r < length (open_rows d) → patched_cells (suc r) ≡ patch_row (patched_cells r) found r
    unfolding patched_cells
    step_patched r b =
        let x : OpenRow = row (kept d) bs (open_rows d) r b in
        let q : operands_offset + row_length * r ≡ rows_offset + (row_length * r + 4) = omega arith in
        let there = row_at (kept d) bs (open_rows d) r b (at_rows (patched_sized r (le_of_lt b))) in
        (in_rows_law (patched_sized r (le_of_lt b)) (row_stored (kept d) bs (open_rows d) r b)
        (omega (arith, length_patch (kept d) bs x, w.rows)) q).cells
        ∙ steps (kept d) bs (patched_cells r) found r there.0 x (all_at open_form (open_rows d) r no_row w.formed b) (every_at z no_row r b) there.1

    pub rows_patched : (r : ℕ) → r ≤ length (open_rows d) → patch_rows (open_cells d) found r ≡ patched_cells r
    unfolding patch_rows
    rows_patched zero b = sym patched_none
    rows_patched (suc r) b = ap (λ (f : List ℕ). patch_row f found r) (rows_patched r (le_of_lt b)) ∙ sym (step_patched r b)
