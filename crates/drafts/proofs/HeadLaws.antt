-- What is put down of a function before its blocks: its name and its registers. The draft after each act, its cells, names and numbers.
-- Assumes nothing.
use mathlib.Core.Bool.{true}
use mathlib.Core.Path.{◌≡◌, refl, ◌∙◌}
use mathlib.Core.List.{List, [], ◌∷◌, ◌++◌, map, append-nil}
use Prim.Native.Nat.{ℕ, ◌+◌, ◌-◌, ◌*◌, ◌≤◌, ◌<◌}
use native.Mathlib.Omega.{arith}
use lib.Dec.{T, le→leb}
use lib.ListN.{length, replicate, length-append, length-replicate}
use Rattle.laws.specs.Lists.{all, gather}
use Rattle.laws.specs.Sections.{pad}
use Rattle.laws.proofs.Appending.{gather_append, all_snoc}
use Rattle.laws.proofs.Storing.{Stored, pad_stored, pad_is}
use Rattle.language.specs.Programs.{max_registers, max_name}
use Rattle.language.specs.Table.{name_cells, register_cells, name_offset, register_length, registers_length, registers_offset}
use Rattle.language.specs.Checking.{distinct}
use Rattle.language.specs.Reading.{Draft as Draftᴸ, Head as Headᴸ, head_of, with_function, open_rows, phi_entries}
use Rattle.drafts.specs.Cells.{WithinSizes, Stores, short_name, numbered_rows, open_head, open_registers, open_blocks, open_row_cells, open_entries, open_cells}
use Rattle.drafts.specs.Mentions.{kept, mentions_of}
use Rattle.drafts.specs.State.{Counts, HeadCounts}
use Rattle.drafts.specs.declared.state.Head.{Head}
use Rattle.drafts.specs.declared.state.Draft.{Draft}
use Rattle.drafts.proofs.Sections.{length_registers, sections, sized, in_head, in_registers}
use Rattle.drafts.proofs.StateLaws.{SameNames, register_names}

-- ---- drafts after an act

abbrev pub marked : Draftᴸ → Draftᴸ
marked d = let f = d.function in with_function d (head_of f.name 1 f.result f.params f.registers)

abbrev pub returning : Draftᴸ → ℕ → Draftᴸ
returning d t = let f = d.function in with_function d (head_of f.name f.ssa t f.params f.registers)

abbrev pub named : Draftᴸ → List ℕ → Draftᴸ
named d n = let f = d.function in with_function d (head_of n f.ssa f.result f.params f.registers)

abbrev pub registered : Draftᴸ → (k t : ℕ) → List ℕ → Draftᴸ
registered d k t n =
    let f = d.function in
    with_function d (head_of f.name f.ssa f.result (f.params + k) (f.registers ++ (record { type = t; name = n } ∷ [])))

-- ---- another head leaves what stands in the blocks

abbrev pub headed_at : Draft → Head → Draft
headed_at s h = record { functions = s.functions; head = h; blocks = s.blocks; parts = s.parts }

module _ (d : Draftᴸ) (f : Headᴸ) where
  pub same_kept : kept (with_function d f) ≡ kept d
  unfolding kept mentions_of open_rows
  same_kept = refl

  within_head : WithinSizes d → T (short_name f.name) → length f.registers ≤ max_registers → T (all (λ r. short_name r.name) f.registers)
      → distinct (map (λ r. r.name) f.registers) ≡ true → WithinSizes (with_function d f)
  unfolding open_rows phi_entries
  within_head w short few names once =
      record {
        functions = w.functions;
        name = short;
        registers = few;
        register_names = names;
        once = once;
        blocks = w.blocks;
        block_names = w.block_names;
        block = w.block;
        room = w.room;
        rows = w.rows;
        entries = w.entries;
        formed = w.formed;
      }

  pub counts_headed : {s : Draft} {h : Head} → Counts d s → HeadCounts (with_function d f) h → Counts (with_function d f) (headed_at s h)
  unfolding kept mentions_of open_rows phi_entries
  counts_headed c head =
      record {
        functions = c.functions;
        head = head;
        blocks = record { closed = c.blocks.closed; rows = c.blocks.rows; first = c.blocks.first; entries = c.blocks.entries; names = c.blocks.names };
        parts =
            record {
              op = c.parts.op;
              target = c.parts.target;
              left = c.parts.left;
              right = c.parts.right;
              sources = c.parts.sources;
              number = c.parts.number;
              entries = c.parts.entries;
              one = c.parts.one;
              other = c.parts.other;
              mentions = c.parts.mentions;
            };
      }

  -- the same name and registers are the same cells
  pub keeps_names : WithinSizes d → f.name ≡ d.function.name → f.registers ≡ d.function.registers → Stores d (with_function d f) 0 []
  unfolding open_cells open_head open_registers open_blocks open_row_cells open_entries numbered_rows kept mentions_of open_rows
  keeps_names w n r =
      record {
        cells = rw (n, r);
        within = within_head w (rw n w.name) (rw r w.registers) (rw r w.register_names) (rw r w.once);
      }

  pub same_names : f.name ≡ d.function.name → f.registers ≡ d.function.registers → SameNames d (with_function d f)
  same_names n r = record { functions = rw n; registers = rw r; mentions = same_kept }

-- ---- names put down

module _ (d : Draftᴸ) (w : WithinSizes d) (n : List ℕ) (short : length n ≤ max_name) where
  -- the name of a function that has none yet
  name_stored : d.function.name ≡ [] → Stored (open_head d) name_offset (length n ∷ n) (open_head (named d n))
  unfolding open_head name_cells pad
  name_stored none =
      let head : List ℕ = replicate 8 0 ++ ((length n ∷ n) ++ replicate (64 - length n) 0) in
      let full : pad registers_offset head ≡ head = pad_is registers_offset head 0 (simp (length-append, length-replicate) (omega arith)) ∙ append-nil head in
      rw (none, ← full) (pad_stored registers_offset [] 8 (length n ∷ n) (64 - length n) (omega arith) (omega arith))

  pub names_function : d.function.name ≡ [] → Stores d (named d n) name_offset (length n ∷ n)
  unfolding open_registers open_blocks open_row_cells open_entries numbered_rows kept mentions_of open_rows
  names_function none =
      record {
        cells = rw (sections d, sections (named d n)) (in_head (sized d w) (name_stored none) (omega arith) refl).cells;
        within = within_head d (named d n).function w (le→leb _ _ short) w.registers w.register_names w.once;
      }

  module _ (k t : ℕ) (few : length d.function.registers < max_registers) where
    register_stored : Stored (open_registers d) (register_length * length d.function.registers) (t ∷ length n ∷ n) (open_registers (registered d k t n))
    unfolding open_registers register_cells name_cells pad
    register_stored =
        let rs = d.function.registers in
        rw (gather_append register_cells rs (record { type = t; name = n } ∷ []))
        (simp append-nil
        (pad_stored registers_length (gather register_cells rs) 0 (t ∷ length n ∷ n) (64 - length n) (omega (arith, length_registers d w)) (omega (arith, length_registers d w))))

    pub names_register : distinct (register_names (registered d k t n)) ≡ true → {m : ℕ}
        → m ≡ registers_offset + register_length * length d.function.registers → Stores d (registered d k t n) m (t ∷ length n ∷ n)
    unfolding open_head open_blocks open_row_cells open_entries numbered_rows kept mentions_of open_rows
    names_register once {m} e =
        let f = d.function in
        record {
          cells = rw (sections d, sections (registered d k t n)) (in_registers (sized d w) register_stored (omega arith) e).cells;
          within =
              within_head d (registered d k t n).function w w.name
              (simp length-append (omega arith))
              (all_snoc (λ r. short_name r.name) f.registers (record { type = t; name = n }) w.register_names (le→leb _ _ short))
              once;
        }
