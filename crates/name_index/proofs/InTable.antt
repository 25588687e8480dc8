-- The names of a table one by one: the list of them grows at its end, and a test of all of them with it; one looked for is found alike in both.
-- Assumes nothing.
use mathlib.Core.Bool.{Bool, true, false, ◌&&◌}
use mathlib.Core.List.{List, [], ◌∷◌, ◌++◌, map}
use mathlib.Core.Path.{◌≡◌, refl, sym, ap, ◌∙◌}
use Prim.Native.Nat.{ℕ, ◌+◌, ◌-◌, ◌*◌, ◌≤◌, ◌<◌}
use native.Mathlib.Nat.{zero-add}
use native.Mathlib.Omega.{arith}
use lib.ListN.{length, get_or}
use Rattle.laws.specs.Lists.{all, from, below, position, same}
use Rattle.laws.proofs.Joining.{all_both}
use Rattle.laws.proofs.Positions.{position_of, same_is, same_not}
use Rattle.laws.proofs.Ranges.{length_map_from, get_or_map_from, map_from_append}
use Rattle.language.specs.Table.{name_at}
use Rattle.table.specs.Named.{is_named, first_named}
use Rattle.name_index.specs.Names.{names_in}

pub no_bytes : (n : List ℕ) → length n ≡ 0 → n ≡ []
no_bytes [] e = refl
no_bytes (b ∷ bs) e = absurd (omega arith)

module _ (t : List ℕ) (at stride : ℕ) where
  abbrev pub name : ℕ → List ℕ
  name i = name_at t (at + stride * i)

  pub names_length_law : (count : ℕ) → length (names_in t at stride count) ≡ count
  unfolding names_in
  names_length_law count = length_map_from name 0 count

  pub names_at : (count i : ℕ) → i < count → get_or (names_in t at stride count) i [] ≡ name i
  unfolding names_in
  names_at count i h = get_or_map_from name [] 0 count i h ∙ ap name (zero-add i)

  pub first_named_law : (count : ℕ) (n : List ℕ) → first_named t at stride count n ≡ position (λ m. same m n) (names_in t at stride count)
  unfolding first_named
  first_named_law count n =
      let names = names_in t at stride count in
      ap (λ (k : ℕ). position (is_named t at stride n) (below k)) (sym (names_length_law count))
      ∙ position_of (λ m. same m n) (is_named t at stride n) [] names (λ i h. ap (λ (m : List ℕ). same m n) (sym (names_at count i (rw (names_length_law count) at h))))

  -- a name of no bytes, and one of some, whose bytes are in a part
  pub named_none : (i : ℕ) {part : List ℕ} → part ≡ name i → length part ≡ 0 → is_named t at stride [] i ≡ true
  named_none i {part} p e = ap (λ (l : List ℕ). same l []) (sym p) ∙ same_is part [] (no_bytes part e)

  pub named_some : (i : ℕ) {part : List ℕ} → part ≡ name i → (length part ≡ 0 → ⊥) → is_named t at stride [] i ≡ false
  named_some i {part} p n = ap (λ (l : List ℕ). same l []) (sym p) ∙ same_not part [] (λ q. n (ap length q))

  pub names_more : (i : ℕ) → names_in t at stride (i + 1) ≡ names_in t at stride i ++ (name i ∷ [])
  unfolding names_in
  names_more i = map_from_append name 0 i 1 ∙ rw (zero-add i)

  pub names_rest : (i count : ℕ) → i ≤ count → names_in t at stride count ≡ names_in t at stride i ++ map name (from (0 + i) (count - i))
  unfolding names_in
  names_rest i count h = let e : count ≡ i + (count - i) = omega arith in ap (names_in t at stride) e ∙ map_from_append name 0 i (count - i)

  module _ (p : List ℕ → Bool) (i : ℕ) {r : Bool} (so_far : all p (names_in t at stride i) ≡ true) (here : r ≡ p (name i)) where
    -- one more passes
    pub all_on : r ≡ true → all p (names_in t at stride (i + 1)) ≡ true
    all_on e = ap (all p) (names_more i) ∙ all_both p (names_in t at stride i) (name i ∷ []) ∙ rw (so_far, sym here ∙ e)

    -- one that does not settles it
    pub all_off : (count : ℕ) → i < count → r ≡ false → false ≡ all p (names_in t at stride count)
    all_off count h e =
        let rest = map name (from (0 + (i + 1)) (count - (i + 1))) in
        let upto : all p (names_in t at stride (i + 1)) ≡ false = ap (all p) (names_more i) ∙ all_both p (names_in t at stride i) (name i ∷ []) ∙ rw (so_far, sym here ∙ e) in
        sym
        (ap (all p) (names_rest (i + 1) count (omega arith))
        ∙ all_both p (names_in t at stride (i + 1)) rest
        ∙ ap (λ (b : Bool). b && all p rest) upto)
