-- 9 of a function by its parts, each a test of cells, is 9 of the function that the cells hold.
-- Assumes nothing.
use mathlib.Core.Bool.{Bool, true, not, ◌&&◌}
use mathlib.Core.Path.{◌≡◌, sym, ap, ◌∙◌}
use mathlib.Core.List.{List, map, map-map}
use Prim.Native.Nat.{ℕ, ◌≤◌, ◌<◌}
use native.Mathlib.Omega.{arith}
use lib.Dec.{T, ltb, leb→le, le→leb}
use lib.Ieee.Bits.{is_true}
use lib.Ieee.Fits.{and_l, and_r, and_i}
use Rattle.laws.specs.Lists.{any, all, below, empty, same}
use Rattle.laws.proofs.Appending.{all_map}
use Rattle.laws.proofs.Every.{every_all, every_below_at}
use Rattle.laws.proofs.Tests.{both_ways}
use Rattle.language.specs.Instructions.{type_count, void}
use Rattle.language.specs.Programs.{is_ssa, block_at, rows_of, max_registers, max_blocks, max_rows, max_entries}
use Rattle.language.specs.Names.{spellable}
use Rattle.language.specs.Table.{function_entry, function_name, function_params, function_ssa, function_result, register_count, register_name, block_count, block_name, row_count, entries_before, blocks_placed, phis_placed, predecessors_kept, decode_register, decode_block, decode_row, decode_function}
use Rattle.language.specs.Table.{InTable}
use Rattle.language.specs.Checking.{in_range, spellable_or_none, distinct, sound}
use Rattle.theorems.proofs.AcceptanceCheck.{sound_parts, sound_apart, parts_sound_among}
use Rattle.language.proofs.TableView.{register_count_law, block_count_law, block_is, rows_count, sequence_rows, sequence_entries}
use Rattle.flow.specs.Sized.{Sized, Preparable}
use Rattle.rules.specs.Cells.{SsaPrepared}
use Rattle.paths.specs.Formed.{Formed}
use Rattle.checker.specs.Notes.{RowsRanged, noted_of}
use Rattle.name_index.specs.Names.{names_in}
use Rattle.checker.proofs.Faults.{formed}
use Rattle.checker.specs.Parts.{table_names_before, head_right, types_right, blocks_right, rows_right, listed_right, all_names_right, sound_at}

-- a test that is equal to one that holds
moved : {a b : Bool} → a ≡ b → T b → T a
moved e h = rw e h

spellable_names : {A : Type 0} (name : A → List ℕ) (xs : List A) {ns : List (List ℕ)} → map name xs ≡ ns → all (λ x. spellable_or_none (name x)) xs ≡ all spellable_or_none ns
spellable_names name xs e = sym (all_map spellable_or_none name xs) ∙ ap (all spellable_or_none) e

module _ (t : List ℕ) (a : ℕ) where
  -- ---- each part of a program and of the cells

  entry_name : function_entry t a < block_count t a → empty (block_at (decode_function t a) (decode_function t a).entry).name ≡ empty (block_name t a (function_entry t a))
  unfolding decode_function decode_block
  entry_name h = ap (λ b. empty b.name) (block_is t a (function_entry t a) h)

  types_are : all (λ r. ltb r.type type_count) (decode_function t a).registers ≡ types_right t a
  unfolding decode_function decode_register types_right
  types_are = all_map (λ r. ltb r.type type_count) (decode_register t a) (below (register_count t a))

  register_names_law : map (λ r. r.name) (decode_function t a).registers ≡ map (register_name t a) (below (register_count t a))
  unfolding decode_function decode_register
  register_names_law = map-map (λ r. r.name) (decode_register t a) (below (register_count t a))

  block_names_law : map (λ b. b.name) (decode_function t a).blocks ≡ map (block_name t a) (below (block_count t a))
  unfolding decode_function decode_block
  block_names_law = map-map (λ b. b.name) (decode_block t a) (below (block_count t a))

  ranges_are : blocks_placed t a ≡ true → all (in_range (decode_function t a)) (rows_of (decode_function t a)) ≡ all (λ k. in_range (decode_function t a) (decode_row t a k)) (below (row_count t a))
  ranges_are p =
      ap (all (in_range (decode_function t a))) (sequence_rows t a p)
      ∙ all_map (in_range (decode_function t a)) (decode_row t a) (below (row_count t a))

  -- ---- all of them

  module _ (i : ℕ) where
    -- The parts of `sound_at`, one by one.
    pub record Right : Type 0 where
      pub mark : function_ssa t a < 2
      pub result : function_result t a ≤ void
      pub registers : register_count t a ≤ max_registers
      pub blocks : block_count t a ≤ max_blocks
      pub params : function_params t a ≤ register_count t a
      pub entry : function_entry t a < block_count t a
      pub unnamed : T (empty (block_name t a (function_entry t a)))
      pub types : T (types_right t a)
      pub sequence : T (blocks_placed t a)
      pub rows : row_count t a ≤ max_rows
      pub phis : T (phis_placed t a)
      pub entries : entries_before t a (row_count t a) ≤ max_entries
      pub ranges : T (all (λ k. in_range (decode_function t a) (decode_row t a k)) (below (row_count t a)))
      pub lists : T (predecessors_kept t a)
      pub name : T (spellable (function_name t a))
      pub apart : T (not (any (same (function_name t a)) (table_names_before t i)))
      pub register_names : T (all spellable_or_none (map (register_name t a) (below (register_count t a))))
      pub block_names : T (all spellable_or_none (map (block_name t a) (below (block_count t a))))
      pub registers_distinct : T (distinct (map (register_name t a) (below (register_count t a))))
      pub blocks_distinct : T (distinct (map (block_name t a) (below (block_count t a))))

    pub right_parts : T (sound_at t i a) → Right
    unfolding sound_at head_right blocks_right rows_right all_names_right listed_right names_in
    right_parts h = search (and_l, and_r, leb→le) depth 12

    parts_right : Right → T (sound_at t i a)
    unfolding sound_at head_right blocks_right rows_right all_names_right listed_right names_in
    parts_right h = search (and_i, le→leb) depth 12

    cells_sound : T (sound (table_names_before t i) (decode_function t a)) → Right
    unfolding decode_function
    cells_sound h =
        let f = decode_function t a in
        let p = sound_parts (table_names_before t i) f h in
        let sequence : T (blocks_placed t a) = and_l (blocks_placed t a) (phis_placed t a && predecessors_kept t a) p.placed in
        let others : T (phis_placed t a && predecessors_kept t a) = and_r (blocks_placed t a) (phis_placed t a && predecessors_kept t a) p.placed in
        let placed : blocks_placed t a ≡ true = is_true (blocks_placed t a) sequence in
        let entry : function_entry t a < block_count t a = omega (arith, block_count_law t a) in
        record {
          mark = p.mark;
          result = p.result;
          registers = omega (arith, register_count_law t a);
          blocks = omega (arith, block_count_law t a);
          params = omega (arith, register_count_law t a);
          entry = entry;
          unnamed = moved (sym (entry_name entry)) p.unnamed;
          types = moved (sym types_are) p.types;
          sequence = sequence;
          rows = omega (arith, rows_count t a);
          phis = and_l (phis_placed t a) (predecessors_kept t a) others;
          entries = omega (arith, sequence_entries t a placed);
          ranges = moved (sym (ranges_are placed)) p.ranges;
          lists = and_r (phis_placed t a) (predecessors_kept t a) others;
          name = p.name;
          apart = sound_apart (table_names_before t i) f h;
          register_names = moved (sym (spellable_names (λ r. r.name) f.registers register_names_law)) p.register_names;
          block_names = moved (sym (spellable_names (λ b. b.name) f.blocks block_names_law)) p.block_names;
          registers_distinct = moved (sym (ap distinct register_names_law)) p.registers_distinct;
          blocks_distinct = moved (sym (ap distinct block_names_law)) p.blocks_distinct;
        }

    all_placed : Right → T (decode_function t a).placed
    unfolding decode_function
    all_placed h =
        and_i (blocks_placed t a) (phis_placed t a && predecessors_kept t a) h.sequence (and_i (phis_placed t a) (predecessors_kept t a) h.phis h.lists)

    sound_cells : Right → T (sound (table_names_before t i) (decode_function t a))
    unfolding decode_function
    sound_cells h =
        let f = decode_function t a in
        let placed : blocks_placed t a ≡ true = is_true (blocks_placed t a) h.sequence in
        parts_sound_among (table_names_before t i) f
        (record {
          placed = all_placed h;
          registers = omega (arith, register_count_law t a);
          blocks = omega (arith, block_count_law t a);
          rows = omega (arith, rows_count t a);
          entries = omega (arith, sequence_entries t a placed);
          mark = h.mark;
          result = h.result;
          params = omega (arith, register_count_law t a);
          types = moved types_are h.types;
          ranges = moved (ranges_are placed) h.ranges;
          entry = omega (arith, block_count_law t a);
          unnamed = moved (entry_name h.entry) h.unnamed;
          name = h.name;
          register_names = moved (spellable_names (λ r. r.name) f.registers register_names_law) h.register_names;
          block_names = moved (spellable_names (λ b. b.name) f.blocks block_names_law) h.block_names;
          registers_distinct = moved (ap distinct register_names_law) h.registers_distinct;
          blocks_distinct = moved (ap distinct block_names_law) h.blocks_distinct;
        })
        h.apart

    pub sound_at_law : sound (table_names_before t i) (decode_function t a) ≡ sound_at t i a
    sound_at_law =
        both_ways (sound (table_names_before t i) (decode_function t a)) (sound_at t i a) (λ h. parts_right (cells_sound h))
        (λ h. sound_cells (right_parts h))

    -- What the tests of the rows take for granted.
    pub sized_right : InTable t a → Right → Sized t a
    unfolding decode_function
    sized_right w h =
        record {
          within = w;
          registers = h.registers;
          blocks = h.blocks;
          rows = h.rows;
          entries = h.entries;
          placed = is_true (decode_function t a).placed (all_placed h);
        }

    right_ranges : Right → T (all (in_range (decode_function t a)) (rows_of (decode_function t a)))
    right_ranges h = moved (ranges_are (is_true (blocks_placed t a) h.sequence)) h.ranges

    pub preparable_right : InTable t a → Right → Preparable t a
    preparable_right w h = record { sized = sized_right w h; ranges = right_ranges h }

    pub ready_right : {m : List ℕ} → InTable t a → Right → SsaPrepared (decode_function t a) m → RowsRanged t a m
    ready_right w h p =
        record { sized = sized_right w h; prepared = p; ranges = λ k l. every_below_at (row_count t a) (every_all (λ k. in_range (decode_function t a) (decode_row t a k)) (below (row_count t a)) h.ranges) k l }

    pub formed_right : Right → (noted_of (decode_function t a)).number ≡ 17 → T (is_ssa (decode_function t a)) → Formed (decode_function t a)
    unfolding decode_function
    formed_right h e s = formed (decode_function t a) s (omega (arith, h.entry, block_count_law t a)) (right_ranges h) e
