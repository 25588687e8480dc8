-- What the end of an instruction stores: the twelve cells of one more row.
-- Assumes nothing.
use mathlib.Core.Bool.{true, ◌&&◌}
use mathlib.Core.Path.{◌≡◌, refl, sym, ap, ◌∙◌}
use mathlib.Core.List.{List, [], ◌∷◌, ◌++◌, map, append-nil, append_assoc, map-append}
use Prim.Native.Nat.{ℕ, ◌+◌, ◌*◌, ◌/◌, ◌%◌, ◌≤◌, ◌<◌}
use native.Mathlib.Nat.{zero-add}
use mir.Facts.{yes_and}
use native.Mathlib.Omega.{arith}
use lib.Dec.{T, eqb, eqb_refl}
use lib.ListN.{length, get_or, replicate, length-append}
use Rattle.laws.specs.Lists.{empty, gather, sum}
use Rattle.laws.specs.Sections.{pad, gather_from}
use Rattle.laws.proofs.Appending.{gather_append, gather_from_append, sum_append, all_snoc}
use Rattle.laws.proofs.Storing.{Stored, pad_stored}
use Rattle.language.specs.Instructions.{Form, form_of, form_number}
use Rattle.language.specs.Programs.{Row, named_by, op_of, form_in, max_rows, max_entries}
use Rattle.language.specs.Table.{row_cells, two_bytes, eight_bytes, row_length, rows_length, rows_offset}
use Rattle.language.specs.Reading.{Draft, Parts, Mention, OpenRow, OpenBlock, no_mention, no_parts, draft_of, open_rows, phi_entries, entries_in, mentions_in, row_as, row_of}
use Rattle.language.proofs.FormLaws.{by_form}
use Rattle.language.proofs.TableLaws.{eight_of_one, eight_of_ones}
use Rattle.theorems.proofs.TableParts.{length_row}
use Rattle.drafts.specs.Mentions.{max_names, name_number, mentions_of, kept}
use Rattle.drafts.specs.Cells.{WithinSizes, Stores, in_form, open_form, numbered_row, numbered_rows, mention_cell, cells_as, instruction_cells, open_head, open_registers, open_blocks, open_row_cells, open_entries}
use Rattle.drafts.specs.State.{WholeRow}
use Rattle.drafts.proofs.MentionLaws.{number_le, kept_length}
use Rattle.drafts.proofs.Sections.{entries, length_rows, length_numbered, sections, sized, in_rows_law}

-- one more row
abbrev pub written : Draft → Draft
written d =
    let b : OpenBlock = record { name = d.block.name; rows = d.block.rows ++ (row_of d.parts ∷ []) } in
    draft_of d.functions d.function d.blocks b no_parts

-- ---- the cells of a row

-- two numbers of two bytes as one of eight
eight_of_twos : (x y : ℕ) → x < 65536 → y < 65536 → eight_bytes (x + 65536 * y) ≡ two_bytes x ++ (two_bytes y ++ replicate 4 0)
eight_of_twos x y h k =
    let n : ℕ = x + 65536 * y in
    let p : n / 65536 ≡ y = omega arith in
    let q : n / 256 ≡ x / 256 + 256 * y = omega arith in
    let a : n % 256 ≡ x % 256 = omega arith in
    let b : (x / 256 + 256 * y) % 256 ≡ x / 256 % 256 = omega arith in
    let e : n / 4294967296 ≡ 0 = omega arith in
    rw (e, p, q, a, b)

module _ (ks : List Mention) (x : Parts) where
  -- a row has the number of its instruction, and its form
  op_of_row : op_of (numbered_row ks (row_of x)) ≡ x.op
  unfolding row_of
  op_of_row =
      let n = x.op in
      let P : Form → Type 0 = λ g. op_of (numbered_row ks (row_as g x)) ≡ n in
      by_form P n sym (λ a b. refl) (λ a b. refl) (λ a b. refl) sym sym sym sym sym (λ e. refl)

  form_as : (g : Form) → form_in (numbered_row ks (row_as g x)) ≡ g
  form_as Form.nop = refl
  form_as Form.load = refl
  form_as Form.unary = refl
  form_as Form.binary = refl
  form_as Form.phi = refl
  form_as Form.jump = refl
  form_as Form.branch = refl
  form_as Form.return = refl
  form_as Form.leave = refl
  form_as Form.unknown = refl

  form_of_row : T (in_form (numbered_row ks (row_of x)))
  unfolding row_of
  form_of_row = rw op_of_row (by (form_as (form_of x.op)))
    where
      by : form_in (numbered_row ks (row_as (form_of x.op) x)) ≡ form_of x.op
          → T (eqb (form_number (form_of x.op)) (form_number (form_in (numbered_row ks (row_as (form_of x.op) x)))))
      by e = rw e (eqb_refl (form_number (form_of x.op)))

  open_form_law : T (open_form (row_of x))
  unfolding row_of
  open_form_law = by (form_of x.op) form_of_row
    where
      plain : (g : Form) → named_by (numbered_row ks (row_as g x)) ≡ [] → T (in_form (numbered_row ks (row_as g x)))
          → T (in_form (numbered_row ks (row_as g x)) && empty (named_by (numbered_row ks (row_as g x))))
      plain g e h = rw e (yes_and (in_form (numbered_row ks (row_as g x))) true h tt)

      by : (g : Form) → T (in_form (numbered_row ks (row_as g x))) → T (open_form (row_as g x))
      by Form.nop h = plain Form.nop refl h
      by Form.load h = plain Form.load refl h
      by Form.unary h = plain Form.unary refl h
      by Form.binary h = plain Form.binary refl h
      by Form.phi h = plain Form.phi refl h
      by Form.jump h = tt
      by Form.branch h = tt
      by Form.return h = plain Form.return refl h
      by Form.leave h = plain Form.leave refl h
      by Form.unknown h = plain Form.unknown refl h

  module _ (n : ℕ) (few : n + length x.entries ≤ max_entries) (small : length ks ≤ max_names) where
    byte : (m : List ℕ) → name_number ks m < 256
    byte m = omega (arith, number_le ks m)

    cells_as_law : (g : Form) → op_of (numbered_row ks (row_as g x)) ≡ x.op → mentions_in (row_as g x) ≡ x.mentions
        → row_cells n (numbered_row ks (row_as g x)) ≡ cells_as g ks n x
    unfolding pad row_cells
    cells_as_law Form.nop e own = rw (← e)
    cells_as_law Form.load e own = refl
    cells_as_law Form.unary e own = refl
    cells_as_law Form.binary e own = refl
    cells_as_law Form.phi e own = rw (← e, eight_of_twos n (length x.entries) (omega arith) (omega arith))
    cells_as_law Form.jump e own =
        let m = (get_or x.mentions 0 no_mention).name in
        let one : mention_cell ks x.mentions 0 ≡ name_number ks m = ap (λ (l : List Mention). mention_cell ks l 0) (sym own) in
        rw (← e, one, eight_of_one (name_number ks m) (byte m))
    cells_as_law Form.branch e own =
        let m = (get_or x.mentions 0 no_mention).name in
        let k = (get_or x.mentions 1 no_mention).name in
        let one : mention_cell ks x.mentions 0 ≡ name_number ks m = ap (λ (l : List Mention). mention_cell ks l 0) (sym own) in
        let other : mention_cell ks x.mentions 1 ≡ name_number ks k = ap (λ (l : List Mention). mention_cell ks l 1) (sym own) in
        rw (← e, one, other, eight_of_ones (name_number ks m) (name_number ks k) (byte m) (byte k))
    cells_as_law Form.return e own = rw (← e)
    cells_as_law Form.leave e own = rw (← e)
    cells_as_law Form.unknown e own = refl

    row_cells_law : mentions_in (row_of x) ≡ x.mentions → row_cells n (numbered_row ks (row_of x)) ≡ instruction_cells ks n x
    unfolding row_of instruction_cells
    row_cells_law own = cells_as_law (form_of x.op) op_of_row own

length_instruction : (ks : List Mention) (n : ℕ) (x : Parts) → length (instruction_cells ks n x) ≡ row_length
unfolding instruction_cells
length_instruction ks n x = refl

entries_numbered : (ks : List Mention) (r : OpenRow) → entries (numbered_row ks r) ≡ length (entries_in r)
entries_numbered ks (OpenRow.row r) = refl
entries_numbered ks (OpenRow.jump m) = refl
entries_numbered ks (OpenRow.branch s m n) = refl

all_entries : (ks : List Mention) (rows : List OpenRow) → sum (map entries (map (numbered_row ks) rows)) ≡ sum (map (λ r. length (entries_in r)) rows)
all_entries ks [] = refl
all_entries ks (r ∷ rows) = rw (entries_numbered ks r, all_entries ks rows)

-- the phi entries of the rows
abbrev pub in_rows : Draft → ℕ
in_rows d = sum (map (λ r. length (entries_in r)) (open_rows d))

pub in_rows_and_hand : (d : Draft) → phi_entries d ≡ in_rows d + length d.parts.entries
unfolding phi_entries
in_rows_and_hand d = refl

-- ---- one more row

pub more_rows : (d : Draft) → open_rows (written d) ≡ open_rows d ++ (row_of d.parts ∷ [])
unfolding open_rows
more_rows d = sym (append_assoc (gather (λ b. b.rows) d.blocks) d.block.rows (row_of d.parts ∷ []))

module _ (d : Draft) (whole : WholeRow d) where
  pub kept_written : kept (written d) ≡ kept d
  unfolding kept mentions_of
  kept_written = rw (more_rows d, gather_append mentions_in (open_rows d) (row_of d.parts ∷ []), whole.1) (simp append-nil)

  abbrev row : Row
  row = numbered_row (kept d) (row_of d.parts)

  more_numbered : numbered_rows (written d) ≡ numbered_rows d ++ (row ∷ [])
  unfolding numbered_rows
  more_numbered = rw (kept_written, more_rows d) (map-append (numbered_row (kept d)) (open_rows d) (row_of d.parts ∷ []))

  pub more_entries : phi_entries (written d) ≡ phi_entries d
  unfolding phi_entries
  more_entries = rw (more_rows d, sum_append (λ r. length (entries_in r)) (open_rows d) (row_of d.parts ∷ []), whole.0) (omega arith)

  same_entries : open_entries (written d) ≡ open_entries d
  unfolding open_entries
  same_entries = rw (more_rows d, gather_append entries_in (open_rows d) (row_of d.parts ∷ []), whole.0) (simp append-nil)

  entries_before : 0 + sum (map entries (numbered_rows d)) ≡ in_rows d
  unfolding numbered_rows
  entries_before = zero-add (sum (map entries (numbered_rows d))) ∙ all_entries (kept d) (open_rows d)

  module _ (w : WithinSizes d) (few : length (open_rows d) < max_rows) where
    row_stored : Stored (open_row_cells d) (row_length * length (open_rows d)) (instruction_cells (kept d) (in_rows d) d.parts) (open_row_cells (written d))
    unfolding open_row_cells kept
    row_stored =
        let n = in_rows d in
        let cells : row_cells n row ≡ instruction_cells (kept d) n d.parts =
        row_cells_law (kept d) d.parts n (omega (arith, in_rows_and_hand d, w.entries)) (kept_length (mentions_of d)) whole.1 in
        rw (more_numbered, gather_from_append entries row_cells 0 (numbered_rows d) (row ∷ []), entries_before, ← cells)
        (pad_stored rows_length (gather_from entries row_cells 0 (numbered_rows d)) 0 (row_cells n row) 0
        (omega (arith, length_rows 0 (numbered_rows d), length_numbered d, length_row n row)) (omega (arith, length_rows 0 (numbered_rows d), length_numbered d)))

    within_written : WithinSizes (written d)
    within_written =
        record {
          functions = w.functions;
          name = w.name;
          registers = w.registers;
          register_names = w.register_names;
          once = w.once;
          blocks = w.blocks;
          block_names = w.block_names;
          block = w.block;
          room = w.room;
          rows = rw (more_rows d) (simp length-append (omega arith));
          entries = rw more_entries w.entries;
          formed = rw (more_rows d) (all_snoc open_form (open_rows d) (row_of d.parts) w.formed (open_form_law [] d.parts));
        }

    pub ends_instruction : {m : ℕ} → m ≡ rows_offset + row_length * length (open_rows d) → Stores d (written d) m (instruction_cells (kept d) (in_rows d) d.parts)
    unfolding open_head open_registers open_blocks
    ends_instruction {m} e =
        record {
          cells =
              rw (sections d, sections (written d), same_entries)
              (in_rows_law (sized d w) row_stored (omega (arith, length_instruction (kept d) (in_rows d) d.parts)) e).cells;
          within = within_written;
        }
