-- What a block stores: its name when it begins, its first row and their count when it ends.
-- Assumes nothing.
use mathlib.Core.Bool.{true, cond}
use mathlib.Core.Path.{◌≡◌, refl, sym, ap, ◌∙◌}
use mathlib.Core.List.{List, [], ◌∷◌, ◌++◌, map, map-append, append-nil, append_assoc}
use Prim.Native.Nat.{ℕ, ◌+◌, ◌-◌, ◌*◌, ◌≤◌, ◌<◌}
use native.Mathlib.Nat.{zero-add}
use native.Mathlib.Omega.{arith}
use lib.Dec.{T, ltb, le→leb, leb→le, lt→ltb}
use lib.ListN.{length, replicate, length-append, length-map, replicate-append-replicate}
use Rattle.laws.specs.Lists.{all, empty, sum}
use Rattle.laws.specs.Sections.{pad, gather_from}
use Rattle.laws.proofs.Appending.{gather_append, gather_from_append, all_snoc}
use Rattle.laws.proofs.Storing.{Stored, pad_stored, pad_zeros, stored_pad, sets_middle}
use Rattle.language.specs.Programs.{Block, max_blocks, max_name}
use Rattle.language.specs.Table.{name_cells, two_bytes, predecessors_length, block_length, block_names_offset, blocks_length, blocks_offset}
use Rattle.language.specs.Reading.{Draft as Draftᴸ, OpenBlock, no_open_block, draft_of, with_block, open_rows, phi_entries, rows_in}
use Rattle.language.proofs.TableLaws.{length_name, name_cells_law, no_name_cells}
use Rattle.predecessors.specs.Listing.{bare_cells}
use Rattle.predecessors.proofs.BareLaws.{bare_cells_law}
use Rattle.drafts.specs.Cells.{WithinSizes, Stores, short_name, numbered_row, closed_block, numbered_rows, open_block, open_head, open_registers, open_blocks, open_row_cells, open_entries}
use Rattle.drafts.specs.Mentions.{kept, mentions_of}
use Rattle.drafts.specs.State.{Counts}
use Rattle.drafts.specs.declared.state.Draft.{Draft}
use Rattle.drafts.proofs.Sections.{height, length_blocks, sections, sized, in_blocks}
use Rattle.drafts.proofs.StateLaws.{SameNames}

-- ---- drafts after an act, which leaves the rows

abbrev pub begun : Draftᴸ → List ℕ → Draftᴸ
begun d n = with_block d (record { name = n; rows = [] })

abbrev pub ended : Draftᴸ → Draftᴸ
ended d = draft_of d.functions d.function (d.blocks ++ (d.block ∷ [])) no_open_block d.parts

pub open_rows_law : (d : Draftᴸ) → open_rows d ≡ rows_in d.blocks ++ d.block.rows
unfolding open_rows
open_rows_law d = refl

pub begun_rows : (d : Draftᴸ) (n : List ℕ) → d.block ≡ no_open_block → open_rows (begun d n) ≡ open_rows d
unfolding open_rows
begun_rows d n none = rw none

pub ended_rows : (d : Draftᴸ) → open_rows (ended d) ≡ open_rows d
unfolding open_rows
ended_rows d = simp (gather_append, append-nil)

-- so many closed blocks, with so many rows in them
abbrev pub blocks_at : Draft → (closed first : ℕ) → Draft
blocks_at s n k =
    let b = s.blocks in
    record {
      functions = s.functions;
      head = s.head;
      blocks = record { closed = n; rows = b.rows; first = k; entries = b.entries; names = b.names };
      parts = s.parts;
    }

-- other blocks, with the rows that were there
module _ (d : Draftᴸ) (bs : List OpenBlock) (b : OpenBlock) where
  abbrev d' : Draftᴸ
  d' = draft_of d.functions d.function bs b d.parts

  module _ (rows : open_rows d' ≡ open_rows d) where
    pub kept_rows : kept d' ≡ kept d
    unfolding kept mentions_of
    kept_rows = rw rows

    pub numbered_rows_law : numbered_rows d' ≡ numbered_rows d
    unfolding numbered_rows
    numbered_rows_law = rw (kept_rows, rows)

    pub entries_rows : phi_entries d' ≡ phi_entries d
    unfolding phi_entries
    entries_rows = rw rows

    pub same_names : SameNames d d'
    same_names = record { functions = refl; registers = refl; mentions = kept_rows }

    within_blocks : WithinSizes d → length bs ≤ max_blocks → T (all (λ b. short_name b.name) bs) → T (short_name b.name)
        → T (cond (empty b.name) true (ltb (length bs) max_blocks)) → WithinSizes d'
    within_blocks w few names short room =
        record {
          functions = w.functions;
          name = w.name;
          registers = w.registers;
          register_names = w.register_names;
          once = w.once;
          blocks = few;
          block_names = names;
          block = short;
          room = room;
          rows = rw rows w.rows;
          entries = rw entries_rows w.entries;
          formed = rw rows w.formed;
        }

    pub counts_blocks : {s : Draft} → Counts d s → (n k : ℕ) → n ≡ length bs → k ≡ length (rows_in bs) → Counts d' (blocks_at s n k)
    counts_blocks c n k en ek =
        record {
          functions = c.functions;
          head = record { ssa = c.head.ssa; result = c.head.result; params = c.head.params; registers = c.head.registers };
          blocks = record { closed = en; rows = rw rows c.blocks.rows; first = ek; entries = rw entries_rows c.blocks.entries; names = rw kept_rows c.blocks.names };
          parts =
              record {
                op = c.parts.op;
                target = c.parts.target;
                left = c.parts.left;
                right = c.parts.right;
                sources = c.parts.sources;
                number = c.parts.number;
                entries = c.parts.entries;
                one = rw kept_rows c.parts.one;
                other = rw kept_rows c.parts.other;
                mentions = c.parts.mentions;
              };
        }

-- ---- their cells

pub no_block : open_block [] ≡ []
unfolding open_block
no_block = refl

-- a block of no name leaves the zeros of its name
whole_block : (xs n : List ℕ) → length n ≤ max_name → length xs + block_length ≤ blocks_length → pad blocks_length (xs ++ open_block n)
    ≡ pad blocks_length (xs ++ (replicate 4 0 ++ (name_cells n ++ replicate predecessors_length 0)))
unfolding open_block
whole_block xs [] l h = rw (append-nil, no_name_cells) (sym (pad_zeros blocks_length xs block_length h))
whole_block xs (x ∷ n) l h =
    let named : List ℕ = xs ++ (replicate 4 0 ++ name_cells (x ∷ n)) in
    sym (ap (pad blocks_length) (sym (append_assoc xs (replicate 4 0 ++ name_cells (x ∷ n)) (replicate predecessors_length 0)))
    ∙ pad_zeros blocks_length named predecessors_length (simp length-append (omega (arith, length_name (x ∷ n) l))))

room_left : (n : List ℕ) (k : ℕ) → k < max_blocks → T (cond (empty n) true (ltb k max_blocks))
room_left [] k h = tt
room_left (x ∷ n) k h = lt→ltb k max_blocks h

module _ (d : Draftᴸ) (w : WithinSizes d) (room : length d.blocks < 64) where
  abbrev closed : List Block
  closed = map closed_block d.blocks

  -- ---- a block begins where none is in hand

  module _ (n : List ℕ) (short : length n ≤ max_name) (none : d.block ≡ no_open_block) where
    name_stored : Stored (open_blocks d) (block_length * length d.blocks + 4) (length n ∷ n) (open_blocks (begun d n))
    unfolding open_blocks
    name_stored =
        let G = gather_from height bare_cells 0 closed in
        let now : pad blocks_length (G ++ open_block d.block.name) ≡ pad blocks_length G =
        ap (λ (b : OpenBlock). pad blocks_length (G ++ open_block b.name)) none ∙ rw (no_block, append-nil) in
        let cells : name_cells n ++ replicate predecessors_length 0 ≡ (length n ∷ n) ++ replicate (64 - length n + predecessors_length) 0 =
        ap (λ (r : List ℕ). r ++ replicate predecessors_length 0) (name_cells_law n)
        ∙ append_assoc (length n ∷ n) (replicate (64 - length n) 0) (replicate predecessors_length 0)
        ∙ ap (λ (r : List ℕ). (length n ∷ n) ++ r) (replicate-append-replicate (64 - length n) predecessors_length 0) in
        rw (now, whole_block G n short (omega (arith, length_blocks d w)), cells)
        (pad_stored blocks_length G 4 (length n ∷ n) (64 - length n + predecessors_length) (omega (arith, length_blocks d w)) (omega (arith, length_blocks d w)))

    pub names_block : {m : ℕ} → m ≡ block_names_offset + block_length * length d.blocks → Stores d (begun d n) m (length n ∷ n)
    unfolding open_head open_registers open_row_cells open_entries
    names_block {m} e =
        let rows = begun_rows d n none in
        let b : OpenBlock = record { name = n; rows = [] } in
        let p : m ≡ blocks_offset + (block_length * length d.blocks + 4) = omega arith in
        record {
          cells =
              rw (sections d, sections (begun d n), numbered_rows_law d d.blocks b rows, rows)
              (in_blocks (sized d w) name_stored (omega arith) p).cells;
          within = within_blocks d d.blocks b rows w w.blocks w.block_names (le→leb _ _ short) (room_left n (length d.blocks) room);
        }

  -- ---- the block in hand ends

  -- the first row of the block in hand
  module _ (first : ℕ) (count : first + length d.block.rows ≡ length (open_rows d)) where
    heights : (bs : List OpenBlock) → sum (map height (map closed_block bs)) ≡ length (rows_in bs)
    heights [] = refl
    heights (b ∷ bs) = rw (heights bs, length-append b.rows (rows_in bs)) (ap (λ (n : ℕ). n + length (rows_in bs)) (length-map b.rows (numbered_row [])))

    rows_before : first ≡ sum (map height closed)
    rows_before = omega (arith, simp length-append at (ap length (open_rows_law d)), heights d.blocks)

    more_blocks : open_blocks (ended d) ≡ pad blocks_length (gather_from height bare_cells 0 closed ++ bare_cells first (closed_block d.block))
    unfolding open_blocks
    more_blocks =
        rw (map-append closed_block d.blocks (d.block ∷ []), gather_from_append height bare_cells 0 closed (closed_block d.block ∷ []), zero-add, ← rows_before, no_block)
        (simp append-nil)

    counts_stored : Stored (open_blocks d) (block_length * length d.blocks) (two_bytes first ++ two_bytes (length d.block.rows)) (open_blocks (ended d))
    unfolding open_blocks
    counts_stored =
        let b = closed_block d.block in
        let G = gather_from height bare_cells 0 closed in
        let vs = two_bytes first ++ two_bytes (length d.block.rows) in
        let l : length G ≡ block_length * length d.blocks = length_blocks d w in
        let behind : List ℕ = name_cells b.name ++ replicate predecessors_length 0 in
        let put : Stored (G ++ (replicate 4 0 ++ behind)) (block_length * length d.blocks) vs (G ++ (vs ++ behind)) =
        record { cells = sym (sets_middle vs G (replicate 4 0) behind refl (omega arith)) } in
        rw (more_blocks, bare_cells_law first b, length-map d.block.rows (numbered_row []), whole_block G b.name (leb→le _ _ w.block) (omega arith))
        (stored_pad put blocks_length (simp length-append (omega arith)))

    pub ends_block : {m : ℕ} → m ≡ blocks_offset + block_length * length d.blocks
        → Stores d (ended d) m (two_bytes first ++ two_bytes (length d.block.rows))
    unfolding open_head open_registers open_row_cells open_entries
    ends_block {m} e =
        let rows = ended_rows d in
        let bs = d.blocks ++ (d.block ∷ []) in
        record {
          cells =
              rw (sections d, sections (ended d), numbered_rows_law d bs no_open_block rows, rows)
              (in_blocks (sized d w) counts_stored (omega arith) e).cells;
          within =
              within_blocks d bs no_open_block rows w (simp length-append (omega arith))
              (all_snoc (λ b. short_name b.name) d.blocks d.block w.block_names w.block) tt tt;
        }
