-- A function's end, second part: its head is stored, and what was open is closed.
-- Assumes nothing.
use mathlib.Core.Path.{◌≡◌, refl, sym, ap, ◌∙◌}
use mathlib.Core.List.{List, [], ◌∷◌, ◌++◌, map, append-nil}
use Prim.Native.Nat.{ℕ, ◌+◌, ◌≤◌, ◌<◌}
use native.Mathlib.Nat.{le_refl}
use native.Mathlib.Omega.{arith}
use lib.Dec.{T, leb→le, eqb→eq}
use lib.ListN.{length, get_or, replicate, length-map}
use lib.Seq.{sets, take-length, drop-length}
use mir.Facts.{and_yes}
use Rattle.laws.specs.Lists.{empty, gather}
use Rattle.laws.specs.Sections.{pad, gather_from}
use Rattle.laws.proofs.Gather.{length_gather, map_gather}
use Rattle.laws.proofs.Indexing.{all_at, get_d_map}
use Rattle.laws.proofs.Storing.{Stored, sets_over}
use Rattle.laws.proofs.Sums.{gather_map}
use Rattle.language.specs.Instructions.{form_of}
use Rattle.language.proofs.FormLaws.{form_is}
use Rattle.language.specs.Programs.{Row, Block, Func, no_block, no_register, entries_of, named_by, op_of, form_in, block_at, rows_of, entry_count, max_entries, max_name}
use Rattle.language.specs.Table.{name_cells, row_cells, head_cells, register_section, block_section, row_section, entry_section, predecessor_lists, cells_listing, function_cells, block_cells, blocks_length, rows_length}
use Rattle.language.specs.Reading.{OpenRow, OpenBlock, no_open_block, Draft, open_rows, entries_in, phi_entries, resolve, resolve_row, resolve_block, block_number}
use Rattle.theorems.specs.TableLaw.{Laid}
use Rattle.predecessors.specs.Listing.{FunctionStands, bare_cells, no_lists}
use Rattle.predecessors.proofs.BareLaws.{bare_section}
use Rattle.drafts.specs.Cells.{WithinSizes, short_name, in_form, open_form, closed_block, numbered_row, open_block, open_head, open_registers, open_blocks, open_entries, head_bytes}
use Rattle.drafts.specs.Mentions.{kept}
use Rattle.drafts.specs.State.{NothingOpen}
use Rattle.drafts.proofs.BraceLaws.{all_rows}
use Rattle.drafts.proofs.Patching.{no_row, entries_resolved, patched_rows, patched_cells, patched_sized}
use Rattle.drafts.proofs.Sections.{height, entries, Sized, cells_of, in_head}

-- ---- lists mapped in two ways

module _ {A B C : Type 0} (size : B → ℕ) (f : ℕ → B → List C) (g h : A → B) (s : (x : A) → size (g x) ≡ size (h x)) (e : (n : ℕ) (x : A) → f n (g x) ≡ f n (h x)) where
  gather_from_maps : (n : ℕ) (xs : List A) → gather_from size f n (map g xs) ≡ gather_from size f n (map h xs)
  gather_from_maps n [] = refl
  gather_from_maps n (x ∷ xs) = rw (e n x, s x) (ap (λ (r : List C). f n (h x) ++ r) (gather_from_maps (n + size (h x)) xs))

gather_maps : {A B C : Type 0} (f : B → List C) (g : A → B) (h : A → List C) → ((x : A) → f (g x) ≡ h x) → (xs : List A) → gather f (map g xs) ≡ gather h xs
gather_maps f g h e [] = refl
gather_maps f g h e (x ∷ xs) = rw (e x, gather_maps f g h e xs)

-- a row keeps its form
formed_row : (bs : List OpenBlock) (row : OpenRow) → T (open_form row) → T (in_form (resolve_row bs row))
unfolding form_of
formed_row bs (OpenRow.row r) h = (and_yes (in_form r) (empty (named_by r)) h).0
formed_row bs (OpenRow.jump m) h = tt
formed_row bs (OpenRow.branch s m n) h = tt

-- ---- the function in hand, with no block and no phi entries in hand

-- The function that the one in hand becomes.
abbrev pub closed_function : Draft → Func
closed_function d = resolve d.function d.blocks

module _ (d : Draft) (w : WithinSizes d) (none : NothingOpen d) where
  abbrev g : Func
  g = closed_function d

  abbrev bs : List OpenBlock
  bs = d.blocks

  closed_rows : rows_of g ≡ map (resolve_row bs) (open_rows d)
  unfolding rows_of resolve
  closed_rows =
      gather_map (λ (b : Block). b.rows) (resolve_block bs) bs ∙ sym (map_gather (resolve_row bs) (λ (b : OpenBlock). b.rows) bs)
      ∙ ap (map (resolve_row bs)) (sym (all_rows d w.blocks none))

  closed_registers : open_registers d ≡ register_section g
  unfolding open_registers register_section resolve
  closed_registers = refl

  same_height : (b : OpenBlock) → height (closed_block b) ≡ height (resolve_block bs b)
  same_height b = length-map b.rows (numbered_row []) ∙ sym (length-map b.rows (resolve_row bs))

  same_block : (n : ℕ) (b : OpenBlock) → bare_cells n (closed_block b) ≡ bare_cells n (resolve_block bs b)
  unfolding block_cells
  same_block n b = rw (same_height b)

  closed_blocks : open_blocks d ≡ block_section (no_lists g) g
  unfolding open_blocks open_block resolve
  closed_blocks =
      ap (λ (b : OpenBlock). pad blocks_length (gather_from height bare_cells 0 (map closed_block bs) ++ open_block b.name)) none.0
      ∙ ap (pad blocks_length) (append-nil (gather_from height bare_cells 0 (map closed_block bs)) ∙ gather_from_maps height bare_cells closed_block (resolve_block bs) same_height same_block 0 bs)
      ∙ sym (bare_section g)

  closed_row_cells : patched_rows (kept d) bs (open_rows d) (length (open_rows d)) ≡ row_section g
  unfolding patched_rows row_section
  closed_row_cells =
      rw (closed_rows, take-length (open_rows d), drop-length (open_rows d))
      (ap (λ (rows : List Row). pad rows_length (gather_from entries row_cells 0 rows)) (append-nil (map (resolve_row bs) (open_rows d))))

  same_entries : gather entries_of (rows_of g) ≡ gather entries_in (open_rows d)
  same_entries = ap (gather entries_of) closed_rows ∙ gather_maps entries_of (resolve_row bs) entries_in (entries_resolved bs) (open_rows d)

  closed_entries : open_entries d ≡ entry_section g
  unfolding open_entries entry_section open_rows
  closed_entries = rw (none.1.0, same_entries) (ap (pad max_entries) (append-nil (gather entries_in (open_rows d))))

  abbrev head_of : List ℕ
  head_of =
      head_bytes d.function.ssa d.function.result d.function.params (length d.function.registers) (length bs) (block_number bs [])

  head_stored : Stored (open_head d) 0 head_of (head_cells g)
  unfolding open_head head_cells resolve
  head_stored =
      record { cells = rw (length-map bs (resolve_block bs)) (sym (sets_over head_of (replicate 8 0) (name_cells d.function.name) refl)) }

  -- ---- it is closed

  closed_sections : patched_cells d w (length (open_rows d))
      ≡ cells_of (open_head d) (register_section g) (block_section (no_lists g) g) (row_section g) (entry_section g)
  unfolding patched_cells
  closed_sections = rw (closed_registers, closed_blocks, closed_row_cells, closed_entries)

  closed_sized : Sized (open_head d) (register_section g) (block_section (no_lists g) g) (row_section g) (entry_section g)
  closed_sized =
      rw (closed_registers, closed_blocks, closed_row_cells, closed_entries) at (patched_sized d w (length (open_rows d)) (le_refl (length (open_rows d))))

  entries_few : entry_count g ≤ max_entries
  unfolding entry_count phi_entries
  entries_few =
      omega (arith, length_gather entries_of (rows_of g), ap length same_entries, length_gather entries_in (open_rows d), w.entries)

  names_short : (b : ℕ) → b < length g.blocks → length (block_at g b).name ≤ max_name
  unfolding resolve
  names_short b l =
      let here : b < length bs = omega (arith, length-map bs (resolve_block bs)) in
      rw (get_d_map (resolve_block bs) bs b no_open_block no_block here)
      (leb→le _ _ (all_at (λ x. short_name x.name) bs b no_open_block w.block_names here))

  formed : (r : ℕ) → r < length (rows_of g) → form_of (op_of (get_or (rows_of g) r Row.nop)) ≡ form_in (get_or (rows_of g) r Row.nop)
  formed r l =
      let here : r < length (open_rows d) = omega (arith, ap length closed_rows, length-map (open_rows d) (resolve_row bs)) in
      let row : OpenRow = get_or (open_rows d) r no_row in
      let is : get_or (rows_of g) r Row.nop ≡ resolve_row bs row =
      ap (λ (rows : List Row). get_or rows r Row.nop) closed_rows ∙ get_d_map (resolve_row bs) (open_rows d) r no_row Row.nop here in
      rw is
      (form_is (form_of (op_of (resolve_row bs row))) (form_in (resolve_row bs row)) refl
      (eqb→eq _ _ (formed_row bs row (all_at open_form (open_rows d) r no_row w.formed here))))

  -- each section has room for it
  pub closed_laid : Laid g
  unfolding resolve entry_count
  closed_laid =
      record {
        name = leb→le _ _ w.name;
        register_count = w.registers;
        block_count = rw (length-map bs (resolve_block bs)) w.blocks;
        row_count = rw (closed_rows, length-map (open_rows d) (resolve_row bs)) w.rows;
        entry_count = entries_few;
        register_names = λ r b. leb→le _ _ (all_at (λ x. short_name x.name) d.function.registers r no_register w.register_names b);
        block_names = names_short;
        forms = formed;
      }

  -- with its first eight cells stored, the function in hand is closed but for its lists
  pub closes : sets (patched_cells d w (length (open_rows d))) 0 head_of ≡ cells_listing (no_lists g) g
  unfolding cells_listing cells_of
  closes = rw closed_sections (sym (in_head closed_sized head_stored (omega arith) refl).cells)

  pub unlisted_stands : {f : List ℕ} → f ≡ cells_listing (no_lists g) g → FunctionStands f 0 (no_lists g) g [] []
  unlisted_stands e = record { laid = closed_laid; place = refl; cells = e ∙ sym (append-nil (cells_listing (no_lists g) g)) }

  -- and its lists are put down
  pub listed_closes : {f : List ℕ} → FunctionStands f 0 (predecessor_lists g) g [] [] → f ≡ function_cells g
  unfolding function_cells
  listed_closes s = s.cells ∙ append-nil (function_cells g)
