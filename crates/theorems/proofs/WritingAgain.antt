-- Names that are all there stay: writing what was read back writes the same text. Assumes nothing.
use mathlib.Core.List.{List, [], ◌∷◌, map}
use mathlib.Core.Path.{◌≡◌, refl, sym, ◌∙◌, ap, subst}
use Prim.Native.Nat.{ℕ, ◌<◌}
use native.Mathlib.Decide.{dec_lt}
use native.Mathlib.Omega.{arith}
use lib.Dec.{T}
use lib.ListN.{length, get_or, length-map, get_or-map}
use lib.Seq.{ext_get_or}
use Rattle.laws.specs.Lists.{together}
use Rattle.laws.proofs.Every.{every_at, every_of, map_fixed}
use Rattle.language.specs.Names.{spellable}
use Rattle.language.specs.Programs.{Register, Block, Func, no_block, no_function, function_in, block_at}
use Rattle.language.specs.Writing.{text_of}
use Rattle.language.specs.MadeNames.{register_names, block_names, named_function, named, written}
use Rattle.theorems.specs.Accepted.{names_before}
use Rattle.theorems.specs.RoundTrip.{NamesMade, NamedOnce, WrittenAgain}
use Rattle.theorems.proofs.AcceptanceCheck.{Sound, sound_parts, sound_of_check}
use Rattle.theorems.proofs.WritingNamed.{AllNamed, all_named, registers_of, blocks_of, registers_made, blocks_made, no_bytes_none, still_accepted}

-- Where no name is to be made, all stay.
names_stay :
    {prefix : List ℕ} {Unnamed : ℕ → Type 0} {kept filled : List (List ℕ)}
    → NamesMade prefix Unnamed kept filled
    → ((i : ℕ) → i < length kept → Unnamed i → ⊥)
    → filled ≡ kept
names_stay {kept = kept} {filled = filled} m h =
    ext_get_or [] filled kept m.count (λ i l. let inside : i < length kept = omega (arith, m.count) in m.stays i inside (h i inside))

registers_again : (rs : List Register) → together (λ r n. record { type = r.type; name = n }) rs (map (λ r. r.name) rs) ≡ rs
registers_again [] = refl
registers_again (r ∷ rs) = ap (λ (l : List Register). r ∷ l) (registers_again rs)

blocks_again : (bs : List Block) → together (λ b n. record { name = n; rows = b.rows }) bs (map (λ b. b.name) bs) ≡ bs
blocks_again [] = refl
blocks_again (b ∷ bs) = ap (λ (l : List Block). b ∷ l) (blocks_again bs)

not_spellable : T (spellable []) → ⊥
unfolding spellable
not_spellable h = h

module _ (f : Func) (s : Sound f) (n : AllNamed f) where
  registers_stay : register_names f ≡ registers_of f
  registers_stay = names_stay (registers_made f) (λ i l e. not_spellable (subst (λ (n : List ℕ). T (spellable n)) e (every_at n.all_spellable [] i l)))

  -- entry alone has a name of no bytes
  blocks_stay : block_names f ≡ blocks_of f
  blocks_stay =
      names_stay (blocks_made f)
      (λ i l u.
      let e = f.entry in
      let inside : e < length (blocks_of f) = rw length-map s.entry in
      let none : get_or (blocks_of f) e [] ≡ [] = get_or-map (λ b. b.name) f.blocks e no_block ∙ no_bytes_none (block_at f e).name s.unnamed in
      elim (dec_lt i e) [
        | yes c ↦ n.blocks i e c inside (u.0 ∙ sym none)
        | no c ↦
            elim (dec_lt e i) [
              | yes d ↦ n.blocks e i d l (none ∙ sym u.0)
              | no d ↦ u.1 (let z : i ≡ e = omega arith in z)
            ]
      ])

  function_again : named_function f ≡ f
  unfolding named_function
  function_again =
      let registers : together (λ r n. record { type = r.type; name = n }) f.registers (register_names f) ≡ f.registers =
      ap (together (λ r n. record { type = r.type; name = n }) f.registers) registers_stay ∙ registers_again f.registers in
      let blocks : together (λ b n. record { name = n; rows = b.rows }) f.blocks (block_names f) ≡ f.blocks =
      ap (together (λ b n. record { name = n; rows = b.rows }) f.blocks) blocks_stay ∙ blocks_again f.blocks in
      λ i.
      record {
        name = f.name;
        ssa = f.ssa;
        result = f.result;
        params = f.params;
        registers = registers i;
        blocks = blocks i;
        entry = f.entry;
        placed = f.placed;
      }

pub named_once : NamedOnce
unfolding named
named_once p e =
    let q = named p in
    map_fixed named_function
    (every_of no_function q
    (λ i l.
    function_again (function_in q i) (sound_parts (names_before q i) (function_in q i) (sound_of_check q i (still_accepted p e) l))
    (every_at (all_named p e) no_function i l)))

pub written_again : WrittenAgain
unfolding written
written_again p e = ap text_of (named_once p e)
