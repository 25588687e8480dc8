-- A clean ssa function's translation is clean without ssa, has no phi and is not marked.
-- Assumes nothing.
use mathlib.Core.Path.{◌≡◌, refl, ap, ◌∙◌}
use mathlib.Core.Bool.{Bool, false, not, ◌||◌, beq}
use mathlib.Core.List.{List, [], ◌∷◌, ◌++◌, map, map-append, map-map}
use Prim.Native.Nat.{ℕ, suc, ◌≤◌, ◌<◌}
use native.Mathlib.Nat.{zero-lt-suc}
use native.Mathlib.Omega.{arith}
use lib.Dec.{T, eqb, ltb, leb→le, lit<}
use lib.Ieee.Bits.{is_false}
use lib.Ieee.Fits.{and_l, and_r, and_i}
use lib.ListN.{length, get_or, length-append, length-map, get_or-append}
use Rattle.laws.specs.Lists.{any, all, gather, below, empty, same}
use Rattle.laws.proofs.Tests.{of_false, not_is_false, eq_beq}
use Rattle.laws.proofs.Indexing.{length_below, get_or_below, get_d_map}
use Rattle.laws.proofs.Every.{Every, none, more, every_append, every_at, every_imp, every_map, every_keep, every_gather, every_all, all_every, every_none, none_every}
use Rattle.laws.proofs.Sums.{sum_zero, map_get_or}
use Rattle.language.specs.Instructions.{type_count}
use Rattle.language.specs.Programs.{Row, Register, Block, Func, Program, no_function, max_registers, max_blocks, max_rows, no_register, no_block, is_ssa, block_at, rows_at, rows_of, is_phi, is_terminator, entries_of, entry_count}
use Rattle.language.specs.Checking.{Spot, spot_at, Verdict, check, in_range, typed, breaks9, breaks10, breaks11, breaks12, breaks13, breaks14, breaks15, breaks16, breaks17, breaks_row, distinct, spellable_or_none}
use Rattle.language.specs.Running.{phis_of, phi_target}
use Rattle.language.specs.Translating.{phi_blocks, edges_to, kept_block, register_for, translation, translation_fits}
use Rattle.theorems.specs.Clean.{Clean}
use Rattle.theorems.proofs.Size.{size_registers, size_blocks, size_rows}
use Rattle.theorems.proofs.AcceptanceCheck.{clean_of_check, alone_accepted, Sound, sound_parts, parts_sound, in_blocks, passes}
use Rattle.theorems.proofs.AcceptanceRows.{phi_only, entries_none, range_parts, parts_range, Ended, ended_at, ended_filled}
use Rattle.theorems.proofs.AcceptanceNumbers.{block_lt}
use Rattle.theorems.proofs.AcceptanceBlocks.{Fine, every_block, every_edge, blocks_fine, rows_plain}

-- ---- no phi, no mark

plain_rows : (f : Func) → Every (λ r. is_phi r ≡ false) (rows_of (translation f))
unfolding rows_of
plain_rows f = every_gather (λ b. b.rows) (rows_plain f)

pub no_phi_law : (f : Func) → T (not (any is_phi (rows_of (translation f))))
no_phi_law f = of_false (any is_phi (rows_of (translation f))) (none_every is_phi (plain_rows f))

pub unmarked : (f : Func) → (translation f).ssa ≡ 0
unfolding translation
unmarked f = refl

not_ssa : (f : Func) → is_ssa (translation f) ≡ false
not_ssa f = ap (λ n. eqb n 1) (unmarked f)

-- ---- names

-- Names of no bytes are compared with nothing.
distinct_none : {es : List (List ℕ)} → Every (λ e. e ≡ []) es → T (distinct es)
distinct_none none = tt
distinct_none (more {x = e} {xs = es} p h) =
    and_i (empty e || not (any (same e) es)) (distinct es) (rw p tt) (distinct_none h)

unlike_none : (c : ℕ) (cs : List ℕ) {es : List (List ℕ)} → Every (λ e. e ≡ []) es → Every (λ e. same (c ∷ cs) e ≡ false) es
unlike_none c cs h = every_imp (λ e p. ap (same (c ∷ cs)) p) h

apart :
    (n : List ℕ) (ns : List (List ℕ)) {es : List (List ℕ)}
    → Every (λ e. e ≡ []) es
    → T (empty n || not (any (same n) ns))
    → T (empty n || not (any (same n) (ns ++ es)))
apart [] ns h t = tt
apart (c ∷ cs) ns {es} h t =
    let alike = same (c ∷ cs) in
    of_false (any alike (ns ++ es))
    (none_every alike (every_append (every_none alike ns (is_false (any alike ns) t)) (unlike_none c cs h)))

-- Names of no bytes leave distinct names distinct.
distinct_more : (ns : List (List ℕ)) {es : List (List ℕ)} → T (distinct ns) → Every (λ e. e ≡ []) es → T (distinct (ns ++ es))
distinct_more [] t h = distinct_none h
distinct_more (n ∷ ns) {es} t h =
    and_i (empty n || not (any (same n) (ns ++ es))) (distinct (ns ++ es))
    (apart n ns h (and_l (empty n || not (any (same n) ns)) (distinct ns) t))
    (distinct_more ns (and_r (empty n || not (any (same n) ns)) (distinct ns) t) h)

-- "Registers and blocks may have a name of no bytes"
none_fits : (n : List ℕ) → n ≡ [] → T (spellable_or_none n)
unfolding spellable_or_none
none_fits n e = rw e tt

-- ---- registers

module _ (f : Func) (s : Sound f) where
  phi_targets : Every (λ r. phi_target r < length f.registers) (phis_of (rows_of f))
  unfolding phis_of
  phi_targets =
      every_keep is_phi
      (phi_only (λ r. T (in_range f r) → phi_target r < length f.registers)
      (λ t es h. every_at (range_parts f (Row.phi t es) h).registers 0 0 (zero-lt-suc _)))
      (every_all (in_range f) (rows_of f) s.ranges)

  -- A new register has one of the ten types, and no name.
  new_registers : Every (λ k. T (ltb k.type type_count) × (k.name ≡ [])) (map (register_for f) (phis_of (rows_of f)))
  unfolding register_for
  new_registers =
      every_map (register_for f)
      (λ r l. (every_at (every_all (λ k. ltb k.type type_count) f.registers s.types) no_register (phi_target r) l, refl))
      phi_targets

  types_right : T (all (λ r. ltb r.type type_count) (translation f).registers)
  unfolding translation
  types_right =
      let ten : Register → Bool = λ r. ltb r.type type_count in
      all_every ten (every_append (every_all ten f.registers s.types) (every_imp (λ k p. p.0) new_registers))

  register_names_right : T (all (λ r. spellable_or_none r.name) (translation f).registers)
  unfolding translation
  register_names_right =
      let fits : Register → Bool = λ r. spellable_or_none r.name in
      all_every fits
      (every_append (every_all fits f.registers s.register_names)
      (every_imp (λ k p. none_fits k.name p.1) new_registers))

  registers_distinct_law : T (distinct (map (λ r. r.name) (translation f).registers))
  unfolding translation
  registers_distinct_law =
      rw map-append
      (distinct_more (map (λ r. r.name) f.registers) s.registers_distinct
      (every_map (λ r. r.name) (λ r p. p.1) new_registers))

-- ---- blocks

-- A kept block has its number and its name.
name_kept : (f : Func) (b : ℕ) → b < length f.blocks → (block_at (translation f) b).name ≡ (block_at f b).name
unfolding translation kept_block
name_kept f b l =
    let n = length f.blocks in
    let old = map (kept_block f) (below n) in
    let m : b < length (below n) = rw length_below l in
    let k : b < length old = rw length-map m in
    ap (λ k. k.name) (get_or-append old (gather (edges_to f) (phi_blocks f)) no_block b k)
    ∙ ap (λ k. k.name) (get_d_map (kept_block f) (below n) b 0 no_block m)
    ∙ ap (λ x. (block_at f x).name) (get_or_below n b 0 l)

module _ (f : Func) (s : Sound f) where
  block_names_right : T (all (λ b. spellable_or_none b.name) (translation f).blocks)
  unfolding kept_block
  block_names_right =
      let fits : Block → Bool = λ b. spellable_or_none b.name in
      all_every fits
      (every_block f (every_at (every_all fits f.blocks s.block_names) no_block) (λ y k l q. none_fits [] refl))

  blocks_distinct_law : T (distinct (map (λ b. b.name) (translation f).blocks))
  unfolding translation kept_block
  blocks_distinct_law =
      rw (map-append, map-map, map_get_or (λ b. b.name) no_block f.blocks)
      (distinct_more (map (λ b. b.name) f.blocks) s.blocks_distinct
      (every_map (λ b. b.name) (λ b p. p) (every_edge f (λ y k l q. refl))))

-- ---- 9 of the whole translation

ranges_right : (f : Func) → Clean f → T (all (in_range (translation f)) (rows_of (translation f)))
unfolding rows_of
ranges_right f c =
    all_every (in_range (translation f))
    (every_gather (λ b. b.rows)
    (every_imp (λ b k. every_imp (λ r p. parts_range (translation f) r p.range) k.rows) (blocks_fine f c)))

no_entries : (f : Func) → entry_count (translation f) ≡ 0
unfolding entry_count
no_entries f = sum_zero (λ r. length (entries_of r)) (every_imp (λ r e. ap length (entries_none r e)) (plain_rows f))

-- "Answer 31 exactly if one is over its limit."
record Fits (f : Func) : Type 0 where
  registers : length (translation f).registers ≤ max_registers
  blocks : length (translation f).blocks ≤ max_blocks
  rows : length (rows_of (translation f)) ≤ max_rows

fits : (f : Func) → T (translation_fits f) → Fits f
unfolding translation_fits
fits f h =
    record {
      registers = rw size_registers (search (and_l, and_r, leb→le));
      blocks = rw size_blocks (search (and_l, and_r, leb→le));
      rows = rw size_rows (search (and_l, and_r, leb→le));
    }

sound_translation : (f : Func) → Clean f → Sound f → Fits f → Sound (translation f)
unfolding translation
sound_translation f c s k =
    record {
      placed = tt;
      registers = k.registers;
      blocks = k.blocks;
      rows = k.rows;
      entries = rw no_entries (omega arith);
      mark = lit< tt;
      result = s.result;
      params = omega (arith, length-append f.registers (map (register_for f) (phis_of (rows_of f))));
      types = types_right f s;
      ranges = ranges_right f c;
      entry = block_lt f f.entry s.entry;
      unnamed = rw (name_kept f f.entry s.entry) s.unnamed;
      name = s.name;
      register_names = register_names_right f s;
      block_names = block_names_right f s;
      registers_distinct = registers_distinct_law f s;
      blocks_distinct = blocks_distinct_law f s;
    }

-- ---- every row

-- A row that is no phi, in a function that is not marked: 12 to 16 cannot hold.
module _ (t : Func) (m : is_ssa t ≡ false) (s : Spot) where
  no_12 : breaks12 t s ≡ false
  unfolding breaks12
  no_12 = rw m

  no_16 : breaks16 t s ≡ false
  unfolding breaks16
  no_16 = rw m

  no_17 : breaks17 t s ≡ false
  unfolding breaks17
  no_17 = rw m

  module _ (p : is_phi s.row ≡ false) where
    no_13 : breaks13 t s ≡ false
    unfolding breaks13
    no_13 = rw (m, p)

    no_14 : breaks14 t s ≡ false
    unfolding breaks14
    no_14 = rw p

    no_15 : breaks15 t s ≡ false
    unfolding breaks15
    no_15 = rw p

-- A row of a block that ends right, in range, typed and no phi: none of 9 to 16 holds.
row_passes :
    (t : Func)
    → is_ssa t ≡ false
    → (b j : ℕ)
    → j < length (rows_at t b)
    → Ended (rows_at t b)
    → Fine t (get_or (rows_at t b) j Row.nop)
    → is_phi (get_or (rows_at t b) j Row.nop) ≡ false
    → breaks_row t (spot_at t b j) ≡ false
unfolding breaks9 breaks10 breaks11
row_passes t m b j l e k p =
    let s = spot_at t b j in
    let r = get_or (rows_at t b) j Row.nop in
    let last = eqb (suc j) (length (rows_at t b)) in
    passes t s (not_is_false (in_range t r) (parts_range t r k.range))
    (not_is_false (beq (is_terminator r) last) (eq_beq (is_terminator r) last (ended_at (rows_at t b) e j l)))
    (not_is_false (typed t r) k.types)
    (no_12 t m s)
    (no_13 t m s p)
    (no_14 t m s p)
    (no_15 t m s p)
    (no_16 t m s)

-- The translation of a clean ssa function whose translated size fits is clean.
pub clean_translation : (f : Func) → Clean f → T (is_ssa f) → T (translation_fits f) → Clean (translation f)
clean_translation f c i h =
    let t = translation f in
    let m = not_ssa f in
    let blocks = blocks_fine f c in
    record {
      head = parts_sound t (sound_translation f c (sound_parts [] f c.head) (fits f h));
      filled = λ b l. ended_filled (rows_at t b) (every_at blocks no_block b l).ended;
      rows =
          λ b j l.
          let n = in_blocks t b j l in
          let k = every_at blocks no_block b n in
          let plain = every_at (every_at (rows_plain f) no_block b n) Row.nop j l in
          row_passes t m b j l k.ended (every_at k.rows Row.nop j l) plain;
      paths = λ b j l. no_17 t m (spot_at t b j);
    }

-- Every ssa function of an accepted program whose translated size fits has an accepted translation.
pub accepted_translation :
    (p : Program) (i : ℕ)
    → check p ≡ Verdict.accepted
    → i < length p
    → (let f = get_or p i no_function in T (is_ssa f) → T (translation_fits f) → check (translation f ∷ []) ≡ Verdict.accepted)
accepted_translation p i e l m h =
    let f = get_or p i no_function in
    alone_accepted (translation f) (clean_translation f (clean_of_check p i e l) m h)
