-- What the acts on the instruction in hand store, those but its end: other parts keep the cells, one more entry stands behind the others,
-- and one more mention leaves the numbers in the rows as they are.
-- Assumes nothing.
use mathlib.Core.Path.{◌≡◌, refl, ap, ◌∙◌}
use mathlib.Core.List.{[], ◌∷◌, ◌++◌, map, append_assoc}
use Prim.Native.Nat.{ℕ, ◌+◌, ◌≤◌, ◌<◌}
use native.Mathlib.Omega.{arith}
use lib.ListN.{length, length-append}
use Rattle.laws.specs.Lists.{gather}
use Rattle.laws.proofs.Storing.{Stored, pad_stored}
use Rattle.language.specs.Programs.{max_entries}
use Rattle.language.specs.Table.{entries_offset}
use Rattle.language.specs.Reading.{Draft, Parts, Mention, parts_of, with_parts, open_rows, phi_entries, entries_in, mentions_in}
use Rattle.drafts.specs.Mentions.{mentions_of, kept}
use Rattle.drafts.specs.Cells.{WithinSizes, Stores, numbered_row, numbered_rows, open_head, open_registers, open_blocks, open_row_cells, open_entries, open_cells}
use Rattle.drafts.proofs.MentionLaws.{kept_append, rows_stay, keep_all}
use Rattle.drafts.proofs.Sections.{length_entries, sections, sized, in_entries}

-- one more phi entry, one more mention
abbrev pub entered : Draft → ℕ → Draft
entered d r = let x = d.parts in with_parts d (parts_of x.op x.target x.sources x.number (x.entries ++ (r ∷ [])) x.mentions)

abbrev pub mentioned : Draft → Mention → Draft
mentioned d m = let x = d.parts in with_parts d (parts_of x.op x.target x.sources x.number x.entries (x.mentions ++ (m ∷ [])))

-- ---- other parts

module _ (d : Draft) (x : Parts) where
  pub rows_same : open_rows (with_parts d x) ≡ open_rows d
  unfolding open_rows
  rows_same = refl

  pub kept_same : x.mentions ≡ d.parts.mentions → kept (with_parts d x) ≡ kept d
  unfolding kept mentions_of
  kept_same e = rw (rows_same, e)

  pub entries_same : length x.entries ≡ length d.parts.entries → phi_entries (with_parts d x) ≡ phi_entries d
  unfolding phi_entries
  entries_same e = rw (rows_same, e)

  numbered_same : x.mentions ≡ d.parts.mentions → numbered_rows (with_parts d x) ≡ numbered_rows d
  unfolding numbered_rows
  numbered_same e = rw (rows_same, kept_same e)

  within_parts : WithinSizes d → phi_entries (with_parts d x) ≤ max_entries → WithinSizes (with_parts d x)
  within_parts w room =
      record {
        functions = w.functions;
        name = w.name;
        registers = w.registers;
        register_names = w.register_names;
        once = w.once;
        blocks = w.blocks;
        block_names = w.block_names;
        block = w.block;
        room = w.room;
        rows = rw rows_same w.rows;
        entries = room;
        formed = rw rows_same w.formed;
      }

  -- the rows have the cells that they had
  same_cells : x.entries ≡ d.parts.entries → numbered_rows (with_parts d x) ≡ numbered_rows d → open_cells (with_parts d x) ≡ open_cells d
  unfolding open_cells open_head open_registers open_blocks open_row_cells open_entries
  same_cells e rows = rw (rows, rows_same, e)

  pub keeps_parts : WithinSizes d → x.entries ≡ d.parts.entries → x.mentions ≡ d.parts.mentions → Stores d (with_parts d x) 0 []
  keeps_parts w e m = record { cells = same_cells e (numbered_same m); within = within_parts w (rw (entries_same (ap length e)) w.entries) }

-- ---- one more mention

module _ (d : Draft) (m : Mention) where
  pub kept_mentioned : kept (mentioned d m) ≡ keep_all (kept d) (m ∷ [])
  unfolding kept mentions_of
  kept_mentioned =
      rw (rows_same d (mentioned d m).parts, ← append_assoc (gather mentions_in (open_rows d)) d.parts.mentions (m ∷ []))
      (kept_append (gather mentions_in (open_rows d) ++ d.parts.mentions) (m ∷ []))

  numbered_anew : numbered_rows (mentioned d m) ≡ map (numbered_row (keep_all (kept d) (m ∷ []))) (open_rows d)
  unfolding numbered_rows
  numbered_anew = rw (rows_same d (mentioned d m).parts, kept_mentioned)

  numbered_mentioned : numbered_rows (mentioned d m) ≡ numbered_rows d
  numbered_mentioned = numbered_anew ∙ rows_stay d (m ∷ [])

  pub adds_mention : WithinSizes d → Stores d (mentioned d m) 0 []
  adds_mention w =
      record {
        cells = same_cells d (mentioned d m).parts refl numbered_mentioned;
        within = within_parts d (mentioned d m).parts w (rw (entries_same d (mentioned d m).parts refl) w.entries);
      }

-- ---- one more entry

module _ (d : Draft) (w : WithinSizes d) (r : ℕ) (room : phi_entries d < max_entries) where
  pub more_entered : phi_entries (entered d r) ≡ phi_entries d + 1
  unfolding phi_entries
  more_entered = rw (rows_same d (entered d r).parts) (omega (arith, length-append d.parts.entries (r ∷ [])))

  entry_stored : Stored (open_entries d) (phi_entries d) (r ∷ []) (open_entries (entered d r))
  unfolding open_entries
  entry_stored =
      let es = gather entries_in (open_rows d) ++ d.parts.entries in
      rw (rows_same d (entered d r).parts, ← append_assoc (gather entries_in (open_rows d)) d.parts.entries (r ∷ []))
      (pad_stored max_entries es 0 (r ∷ []) 0 (omega (arith, length_entries d)) (omega (arith, length_entries d)))

  rows_entered : open_row_cells (entered d r) ≡ open_row_cells d
  unfolding open_row_cells
  rows_entered = rw (numbered_same d (entered d r).parts refl)

  pub adds_entry : {m : ℕ} → m ≡ entries_offset + phi_entries d → Stores d (entered d r) m (r ∷ [])
  unfolding open_head open_registers open_blocks
  adds_entry {m} e =
      record {
        cells = rw (sections d, sections (entered d r), rows_entered) (in_entries (sized d w) entry_stored (omega arith) e).cells;
        within = within_parts d (entered d r).parts w (omega (arith, more_entered));
      }
