-- A function with the made names filled in: which names they are, that no two are the same, and that the check accepts it as before.
-- Assumes nothing.
use mathlib.Core.Bool.{Bool, true, false, cond, not, ◌&&◌, false≢true}
use mathlib.Core.List.{List, [], ◌∷◌, map}
use mathlib.Core.Logic.{◌⊎◌, inl, inr, ⊎_elim}
use mathlib.Core.Path.{◌≡◌, refl, sym, ◌∙◌, ap, subst, subst⁻¹}
use Prim.Native.Nat.{ℕ, zero, suc, ◌≤◌, ◌<◌, zero-le}
use native.Mathlib.Nat.{not-suc-le-zero}
use native.Mathlib.Decide.{dec_lt}
use native.Mathlib.Omega.{arith}
use borrow.Author.Tests.{eqb-true, eqb-false}
use lib.Dec.{T, eqb, ltb}
use lib.ListN
use lib.ListN.{length, get_or, length-map}
use Rattle.laws.specs.Lists.{all, any, position, empty, same, below, together}
use Rattle.laws.proofs.Every.{Every, every_all, all_every, every_imp, every_map, every_unmap, every_of, every_at}
use Rattle.laws.proofs.Indexing.{length_below, get_or_below, get_d_map, get_or_together, length_together_le, map_together_first, map_together_second, none_at, position_lt}
use Rattle.laws.proofs.Positions.{position_hit, same_eq, same_is}
use Rattle.laws.proofs.Searching.{either_right}
use Rattle.laws.proofs.Tests.{of_true}
use Rattle.language.specs.Instructions.{type_count}
use Rattle.language.specs.Names.{spellable}
use Rattle.language.specs.Programs.{Row, Func, Program, no_block, no_function, function_in, block_at, rows_at, rows_of, entry_count, max_registers}
use Rattle.language.specs.Checking.{Verdict, check, spot_at, breaks_row, Missing, in_range, spellable_or_none}
use Rattle.language.specs.MadeNames.{Title, given, wanted, register_prefix, block_prefix, made_name, in_use, entitled, register_title, block_title, register_names, block_names, named_function, named}
use Rattle.theorems.specs.Accepted.{names_before, RulesHold}
use Rattle.theorems.specs.RoundTrip.{AlikeButNames, OnlyNamesFilled, NamesMade, MadeOneWay, RegistersNamed, BlocksNamed, AllApart, NamesDiffer, StillAccepted}
use Rattle.theorems.proofs.AcceptanceCheck.{Sound, sound_parts, sound_apart, parts_sound_among}
use Rattle.theorems.proofs.Accepted.{accepted_exactly}
use Rattle.theorems.proofs.WritingAlike.{rows_alike, registers_alike, blocks_alike, all_rows_alike, range_alike, breaks_alike, missing_alike}
use Rattle.theorems.proofs.WritingDeclared.{distinct_at, at_distinct}
use Rattle.theorems.proofs.WritingMade.{made_apart, made_spellable, Wants, Gives, wants_none, number_at, name_given, name_made, number_free, number_rises, number_most, number_smallest}
use Rattle.language.proofs.MadeNamesLaws.{entitled_length, Prefix}

-- ---- names of one kind, by their titles

-- Number i is unnamed and its title wants a name, or it is named and its title gives that.
abbrev Titled : (ℕ → Type 0) → List (List ℕ) → List Title → ℕ → Type 0
Titled Unnamed kept ts i = (Unnamed i × Wants ts i) ⊎ ((Unnamed i → ⊥) × Gives ts i (get_or kept i []))

module _
    (prefix : List ℕ) (Unnamed : ℕ → Type 0) (kept : List (List ℕ)) (ts : List Title) (count : length ts ≡ length kept)
    (titled : (i : ℕ) → i < length kept → Titled Unnamed kept ts i) where
  abbrev filled : List (List ℕ)
  filled = entitled prefix kept 0 ts

  filled_count : length filled ≡ length kept
  filled_count = entitled_length prefix kept 0 ts ∙ count

  wants : (i : ℕ) → i < length kept → Unnamed i → Wants ts i
  wants i l u = ⊎_elim (λ t. t.1) (λ t. absurd (t.0 u)) (titled i l)

  unnamed : (i : ℕ) → i < length kept → Wants ts i → Unnamed i
  unnamed i l w = ⊎_elim (λ t. t.0) (λ t. wants_none (sym t.1 ∙ w)) (titled i l)

  name_stays : (i : ℕ) → i < length kept → (Unnamed i → ⊥) → get_or filled i [] ≡ get_or kept i []
  name_stays i l u = name_given prefix kept 0 ts i (get_or kept i []) (⊎_elim (λ t. absurd (u t.0)) (λ t. t.1) (titled i l))

  in_use_law : (n : ℕ) → in_use prefix kept n ≡ true → (j : ℕ) × (j < length kept) × (get_or kept j [] ≡ made_name prefix n)
  in_use_law n e =
      let l = position_lt (same (made_name prefix n)) kept e in
      let hit = position_hit (same (made_name prefix n)) [] kept l in
      (position (same (made_name prefix n)) kept, l, sym (same_eq (made_name prefix n) _ (of_true _ hit)))

  names_made : NamesMade prefix Unnamed kept filled
  names_made =
      record {
        count = filled_count;
        stays = name_stays;
        number = number_at prefix kept 0 ts;
        made = λ i l u. name_made prefix kept 0 ts i (wants i l u);
        unused =
            λ i j l m u e.
            let free = number_free prefix kept 0 ts i (wants i l u) in
            false≢true (sym (none_at (same (made_name prefix (number_at prefix kept 0 ts i))) kept j [] free m) ∙ same_is _ _ (sym e));
        smallest =
            λ i n l u h.
            ⊎_elim (λ e. inl (in_use_law n e)) (λ e. inr (e.0, e.1, unnamed e.0 (omega (arith, e.1)) e.2, e.3))
            (number_smallest prefix kept 0 ts i n (wants i l u) zero-le h);
        rising = λ i j l m u v. number_rises prefix kept 0 ts i j l (wants i (omega arith) u) (wants j m v);
      }

  -- what holds of the names that stay and of all that may be made
  every_filled :
      (P : List ℕ → Type 0)
      → length kept ≤ max_registers
      → ((n : ℕ) → n < 100000 → P (made_name prefix n))
      → ((i : ℕ) → i < length kept → (Unnamed i → ⊥) → P (get_or kept i []))
      → Every P filled
  every_filled P few made stays =
      every_of [] filled
      (λ i l.
      let m : i < length kept = omega (arith, filled_count) in
      ⊎_elim (λ t. subst⁻¹ P (name_made prefix kept 0 ts i t.1) (made _ (omega (arith, number_most prefix kept few 0 ts i t.1))))
      (λ t. subst⁻¹ P (name_stays i m t.0) (stays i m t.0))
      (titled i m))

  -- no two are the same, if no two that stay are
  filled_apart :
      ((i j : ℕ) → i < j → j < length kept → (Unnamed i → ⊥) → (Unnamed j → ⊥) → get_or kept i [] ≡ get_or kept j [] → ⊥) → AllApart filled
  filled_apart h i j l m e =
      let k = names_made in
      let b : j < length kept = omega (arith, filled_count) in
      let a : i < length kept = omega arith in
      ⊎_elim
      (λ t.
      ⊎_elim
      (λ u. absurd (omega (arith, k.rising i j l b t.0 u.0, made_apart prefix _ _ (sym (k.made i a t.0) ∙ e ∙ k.made j b u.0))))
      (λ u. k.unused i j a b t.0 (sym (k.stays j b u.0) ∙ sym e ∙ k.made i a t.0))
      (titled j b))
      (λ t.
      ⊎_elim (λ u. k.unused j i b a u.0 (sym (k.stays i a t.0) ∙ e ∙ k.made j b u.0))
      (λ u. h i j l b t.0 u.0 (sym (k.stays i a t.0) ∙ e ∙ k.stays j b u.0))
      (titled j b))
      (titled i a)

-- ---- the sentences leave no choice

module _ {prefix : List ℕ} {Unnamed : ℕ → Type 0} {kept : List (List ℕ)} where
  -- where the numbers before are the same, this one is no smaller
  not_less :
      {a b : List (List ℕ)} (x : NamesMade prefix Unnamed kept a) (y : NamesMade prefix Unnamed kept b) (i : ℕ)
      → i < length kept
      → Unnamed i
      → ((j : ℕ) → j < i → Unnamed j → x.number j ≡ y.number j)
      → x.number i < y.number i
      → ⊥
  not_less x y i l u same h =
      ⊎_elim (λ e. x.unused i e.0 l e.1 u e.2)
      (λ e. absurd (omega (arith, x.rising e.0 i e.1 l e.2 u, same e.0 e.1 e.2, e.3)))
      (y.smallest i (x.number i) l u h)

  same_numbers :
      {a b : List (List ℕ)} (x : NamesMade prefix Unnamed kept a) (y : NamesMade prefix Unnamed kept b) (n i : ℕ)
      → i < n
      → i < length kept
      → Unnamed i
      → x.number i ≡ y.number i
  same_numbers x y zero i m l u = absurd (not-suc-le-zero m)
  same_numbers x y (suc n) i m l u =
      let before : (j : ℕ) → j < i → Unnamed j → x.number j ≡ y.number j = λ j k v. same_numbers x y n j (omega arith) (omega arith) v in
      elim (dec_lt (x.number i) (y.number i)) [
        | yes c ↦ absurd (not_less x y i l u before c)
        | no c ↦
            elim (dec_lt (y.number i) (x.number i)) [
              | yes d ↦ absurd (not_less y x i l u (λ j k v. sym (before j k v)) d)
              | no d ↦ let z : x.number i ≡ y.number i = omega arith in z
            ]
      ]

pub made_one_way : MadeOneWay
made_one_way prefix Unnamed kept a b x y i l u =
    y.made i l u ∙ ap (made_name prefix) (sym (same_numbers x y (suc i) i (omega arith) l u)) ∙ sym (x.made i l u)

-- ---- the titles of registers, and of blocks

no_bytes : (b : ℕ) (n : List ℕ) → ◌≡◌ {A = List ℕ} (b ∷ n) [] → ⊥
no_bytes b n e = let z : ◌≡◌ {A = ℕ} 0 1 = cc in omega arith

pub no_bytes_none : (n : List ℕ) → T (empty n) → n ≡ []
no_bytes_none [] h = refl
no_bytes_none (b ∷ n) h = absurd h

registers_titled : (ns : List (List ℕ)) (i : ℕ) → i < length ns → Titled (λ i. get_or ns i [] ≡ []) ns (map register_title ns) i
registers_titled ns i l = by (get_or ns i []) (get_d_map register_title ns i [] (given []) l)
  where
    by :
        (n : List ℕ)
        → get_or (map register_title ns) i (given []) ≡ register_title n
        → ((n ≡ []) × Wants (map register_title ns) i) ⊎ ((n ≡ [] → ⊥) × Gives (map register_title ns) i n)
    by [] e = inl (refl, e)
    by (b ∷ n) e = inr (no_bytes b n, e)

-- "unnamed blocks but entry"
abbrev pub Nameless : ℕ → List (List ℕ) → ℕ → Type 0
Nameless e ns i = (get_or ns i [] ≡ []) × (i ≡ e → ⊥)

abbrev block_titles : ℕ → List (List ℕ) → List Title
block_titles e ns = together (block_title e) (below (length ns)) ns

blocks_titled : (e : ℕ) (ns : List (List ℕ)) (i : ℕ) → i < length ns → Titled (Nameless e ns) ns (block_titles e ns) i
blocks_titled e ns i l = by (get_or ns i []) (eqb i e) refl title
  where
    title : get_or (block_titles e ns) i (given []) ≡ block_title e i (get_or ns i [])
    title =
        get_or_together (block_title e) 0 [] (given []) (below (length ns)) ns i (omega (arith, length_below (length ns))) l
        ∙ ap (λ (k : ℕ). block_title e k (get_or ns i [])) (get_or_below (length ns) i 0 l)

    by :
        (n : List ℕ) (b : Bool)
        → eqb i e ≡ b
        → get_or (block_titles e ns) i (given []) ≡ cond (empty n && not b) wanted (given n)
        → (((n ≡ []) × (i ≡ e → ⊥)) × Wants (block_titles e ns) i) ⊎ (((n ≡ []) × (i ≡ e → ⊥) → ⊥) × Gives (block_titles e ns) i n)
    by [] true p q = inr ((λ u. u.1 (eqb-true i e p)), q)
    by [] false p q = inl ((refl, eqb-false i e p), q)
    by (b ∷ n) t p q = inr ((λ u. no_bytes b n u.0), q)

titles_count : (e : ℕ) (ns : List (List ℕ)) → length (block_titles e ns) ≡ length ns
titles_count e ns = length_together_le (block_title e) (below (length ns)) ns (omega (arith, length_below (length ns)))

-- ---- a function

abbrev pub registers_of : Func → List (List ℕ)
registers_of f = map (λ r. r.name) f.registers

abbrev pub blocks_of : Func → List (List ℕ)
blocks_of f = map (λ b. b.name) f.blocks

module _ (f : Func) where
  pub registers_made : NamesMade register_prefix (λ i. get_or (registers_of f) i [] ≡ []) (registers_of f) (register_names f)
  unfolding register_names
  registers_made =
      let ns = registers_of f in
      names_made register_prefix (λ i. get_or ns i [] ≡ []) ns (map register_title ns) (length-map ns register_title) (registers_titled ns)

  pub blocks_made : NamesMade block_prefix (Nameless f.entry (blocks_of f)) (blocks_of f) (block_names f)
  unfolding block_names
  blocks_made =
      let ns = blocks_of f in
      let e = f.entry in
      names_made block_prefix (Nameless e ns) ns (block_titles e ns) (titles_count e ns) (blocks_titled e ns)

  register_count_law : length f.registers ≡ length (register_names f)
  register_count_law = sym (registers_made.count ∙ length-map f.registers (λ r. r.name))

  block_count_law : length f.blocks ≡ length (block_names f)
  block_count_law = sym (blocks_made.count ∙ length-map f.blocks (λ b. b.name))

  registers_are : registers_of (named_function f) ≡ register_names f
  unfolding named_function
  registers_are =
      map_together_second (λ r n. record { type = r.type; name = n }) (λ r. r.name) (λ r n. refl) f.registers (register_names f) register_count_law

  blocks_are : blocks_of (named_function f) ≡ block_names f
  unfolding named_function
  blocks_are =
      map_together_second (λ b n. record { name = n; rows = b.rows }) (λ b. b.name) (λ b n. refl) f.blocks (block_names f) block_count_law

pub registers_named : RegistersNamed
registers_named f = subst⁻¹ (NamesMade register_prefix (λ i. get_or (registers_of f) i [] ≡ []) (registers_of f)) (registers_are f) (registers_made f)

pub blocks_named : BlocksNamed
blocks_named f = subst⁻¹ (NamesMade block_prefix (Nameless f.entry (blocks_of f)) (blocks_of f)) (blocks_are f) (blocks_made f)

pub only_names_filled : OnlyNamesFilled
unfolding named_function
only_names_filled f =
    record {
      name = refl;
      ssa = refl;
      result = refl;
      params = refl;
      types =
          map_together_first (λ r n. record { type = r.type; name = n }) (λ r. r.type) (λ r. r.type) (λ r n. refl) f.registers (register_names f)
          (register_count_law f);
      rows =
          map_together_first (λ b n. record { name = n; rows = b.rows }) (λ b. b.rows) (λ b. b.rows) (λ b n. refl) f.blocks (block_names f)
          (block_count_law f);
      entry = refl;
      placed = refl;
    }

-- ---- an accepted function

spellable_some : (n : List ℕ) → T (spellable_or_none n) → (n ≡ [] → ⊥) → T (spellable n)
unfolding spellable_or_none
spellable_some [] h d = absurd (d refl)
spellable_some (b ∷ n) h d = h

spellable_or : (n : List ℕ) → T (spellable n) → T (spellable_or_none n)
unfolding spellable_or_none
spellable_or n h = either_right (empty n) (spellable n) h

module _ (f : Func) (s : Sound f) where
  abbrev g : Func
  g = named_function f

  alike : AlikeButNames f g
  alike = only_names_filled f

  registers_spellable : Every (λ n. T (spellable n)) (registers_of g)
  unfolding register_names
  registers_spellable =
      let ns = registers_of f in
      let kept : Every (λ n. T (spellable_or_none n)) ns =
      every_map (λ r. r.name) (λ r h. h) (every_all (λ r. spellable_or_none r.name) f.registers s.register_names) in
      subst⁻¹ (Every (λ n. T (spellable n))) (registers_are f)
      (every_filled register_prefix (λ i. get_or ns i [] ≡ []) ns (map register_title ns) (length-map ns register_title) (registers_titled ns) (λ n. T (spellable n))
      (rw length-map s.registers) (made_spellable Prefix.registers)
      (λ i l u. spellable_some (get_or ns i []) (every_at kept [] i l) u))

  blocks_spellable : Every (λ n. T (spellable_or_none n)) (blocks_of g)
  unfolding block_names
  blocks_spellable =
      let ns = blocks_of f in
      let e = f.entry in
      let kept : Every (λ n. T (spellable_or_none n)) ns =
      every_map (λ b. b.name) (λ b h. h) (every_all (λ b. spellable_or_none b.name) f.blocks s.block_names) in
      subst⁻¹ (Every (λ n. T (spellable_or_none n))) (blocks_are f)
      (every_filled block_prefix (Nameless e ns) ns (block_titles e ns) (titles_count e ns) (blocks_titled e ns) (λ n. T (spellable_or_none n))
      (rw length-map (omega (arith, s.blocks))) (λ n l. spellable_or (made_name block_prefix n) (made_spellable Prefix.blocks n l))
      (λ i l u. every_at kept [] i l))

  registers_apart : AllApart (registers_of g)
  unfolding register_names
  registers_apart =
      let ns = registers_of f in
      subst⁻¹ AllApart (registers_are f)
      (filled_apart register_prefix (λ i. get_or ns i [] ≡ []) ns (map register_title ns) (length-map ns register_title) (registers_titled ns)
      (λ i j l m u v e. u (distinct_at ns s.registers_distinct i j l m e)))

  -- only entry keeps a name of no bytes
  blocks_apart : AllApart (blocks_of g)
  unfolding block_names
  blocks_apart =
      let ns = blocks_of f in
      let e = f.entry in
      subst⁻¹ AllApart (blocks_are f)
      (filled_apart block_prefix (Nameless e ns) ns (block_titles e ns) (titles_count e ns) (blocks_titled e ns)
      (λ i j l m u v d.
      let none = distinct_at ns s.blocks_distinct i j l m d in
      u (none, λ p. v (sym d ∙ none, λ q. absurd (omega arith)))))

  entry_unnamed : (block_at g f.entry).name ≡ []
  entry_unnamed =
      let e = f.entry in
      sym (ListN.get_or-map (λ b. b.name) g.blocks e no_block)
      ∙ (blocks_named f).stays e (rw length-map s.entry) (λ u. u.1 refl)
      ∙ ListN.get_or-map (λ b. b.name) f.blocks e no_block
      ∙ no_bytes_none (block_at f e).name s.unnamed

  types_known : T (all (λ r. ltb r.type type_count) g.registers)
  types_known =
      let kept : Every (λ t. T (ltb t type_count)) (map (λ r. r.type) f.registers) =
      every_map (λ r. r.type) (λ r h. h) (every_all (λ r. ltb r.type type_count) f.registers s.types) in
      all_every (λ r. ltb r.type type_count) (every_unmap (λ r. r.type) g.registers (subst⁻¹ (Every (λ t. T (ltb t type_count))) alike.types kept))

  sound_named : Sound g
  unfolding named_function entry_count
  sound_named =
      let regs = registers_alike f g alike in
      let blocks = blocks_alike f g alike in
      let rows = all_rows_alike f g alike in
      record {
        placed = s.placed;
        registers = rw regs s.registers;
        blocks = rw blocks s.blocks;
        rows = rw rows s.rows;
        entries = rw rows s.entries;
        mark = s.mark;
        result = s.result;
        params = rw regs s.params;
        types = types_known;
        ranges =
            subst⁻¹ (λ (rs : List Row). T (all (in_range g) rs)) rows
            (subst⁻¹ T (λ i. all (λ r. range_alike f g alike r i) (rows_of f)) s.ranges);
        entry = rw blocks s.entry;
        unnamed = rw entry_unnamed tt;
        name = s.name;
        register_names =
            all_every (λ r. spellable_or_none r.name)
            (every_imp (λ r h. spellable_or r.name h) (every_unmap (λ r. r.name) g.registers registers_spellable));
        block_names = all_every (λ b. spellable_or_none b.name) (every_unmap (λ b. b.name) g.blocks blocks_spellable);
        registers_distinct = at_distinct (registers_of g) registers_apart;
        blocks_distinct = at_distinct (blocks_of g) blocks_apart;
      }

rules_named : (names : List (List ℕ)) (f : Func) → RulesHold names f → RulesHold names (named_function f)
rules_named names f h =
    record {
      head = parts_sound_among names g (sound_named f (sound_parts names f h.head)) own;
      filled = λ b l. subst⁻¹ (λ (rs : List Row). 0 < length rs) (rows b) (h.filled b (omega (arith, blocks_alike f g alike)));
      rows = λ b j l. breaks_alike f g alike (spot_at g b j) ∙ ap (breaks_row f) (spot b j) ∙ h.rows b j (inside b j l);
      paths =
          λ b j l m x.
          h.paths b j (inside b j l) (subst (λ (n : ℕ). T (eqb n 1)) alike.ssa m)
          (subst (Missing f) (spot b j) (missing_alike f g alike (spot_at g b j) x));
    }
  where
    g : Func
    g = named_function f

    alike : AlikeButNames f (named_function f)
    alike = only_names_filled f

    own : T (not (any (same (named_function f).name) names))
    own = subst⁻¹ (λ (n : List ℕ). T (not (any (same n) names))) (only_names_filled f).name (sound_apart names f h.head)

    rows : (b : ℕ) → rows_at (named_function f) b ≡ rows_at f b
    rows b = rows_alike f (named_function f) (only_names_filled f) b

    spot : (b j : ℕ) → spot_at (named_function f) b j ≡ spot_at f b j
    spot b j = ap (λ (rs : List Row). record { block = b; index = j; row = get_or rs j Row.nop }) (rows_alike f (named_function f) (only_names_filled f) b)

    inside : (b j : ℕ) → j < length (rows_at (named_function f) b) → j < length (rows_at f b)
    inside b j l = subst (λ (rs : List Row). j < length rs) (rows_alike f (named_function f) (only_names_filled f) b) l

-- ---- a program

names_before_law : (p : Program) (i : ℕ) → names_before (map named_function p) i ≡ names_before p i
names_before_law p zero = refl
names_before_law [] (suc i) = refl
names_before_law (f ∷ p) (suc i) = λ j. (only_names_filled f).name j ∷ names_before_law p i j

pub still_accepted : StillAccepted
unfolding named
still_accepted p e =
    let right = (accepted_exactly p).0 e in
    (accepted_exactly (named p)).1
    (record {
      count = rw length-map right.count;
      functions =
          λ i l.
          let m : i < length p = rw length-map at l in
          subst⁻¹ (λ (f : Func). RulesHold (names_before (named p) i) f) (get_d_map named_function p i no_function no_function m)
          (subst⁻¹ (λ (ns : List (List ℕ)). RulesHold ns (named_function (function_in p i))) (names_before_law p i)
          (rules_named (names_before p i) (function_in p i) (right.functions i m)));
    })

pub names_differ : NamesDiffer
names_differ p i e l =
    let f = function_in p i in
    let s = sound_parts (names_before p i) f (((accepted_exactly p).0 e).functions i l).head in
    (registers_apart f s, blocks_apart f s)

-- All names are there, and no two of a kind are the same.
pub record AllNamed (f : Func) : Type 0 where
  pub all_spellable : Every (λ n. T (spellable n)) (registers_of f)
  pub registers : AllApart (registers_of f)
  pub blocks : AllApart (blocks_of f)

pub all_named : (p : Program) → check p ≡ Verdict.accepted → Every AllNamed (named p)
unfolding named
all_named p e =
    every_map named_function (λ f s. record { all_spellable = registers_spellable f s; registers = registers_apart f s; blocks = blocks_apart f s })
    (every_of no_function p (λ i l. sound_parts (names_before p i) (function_in p i) (((accepted_exactly p).0 e).functions i l).head))
