-- The marks of the numbers in use: one name after the other, and the first number without one. Assumes nothing.
use mathlib.Core.Bool.{Bool, true, false, cond, not, ◌||◌, or-true, or-false}
use mathlib.Core.List.{List, [], ◌∷◌, map}
use mathlib.Core.Path.{◌≡◌, refl, sym, ap, ◌∙◌}
use Prim.Native.Nat.{ℕ, zero, suc, ◌+◌, ◌-◌, ◌*◌, ◌<◌}
use native.Mathlib.Numerals.{add-one}
use native.Mathlib.Omega.{arith}
use lib.Dec.{eqb}
use lib.ListN.{length, get_or, set, replicate, length-set, length-replicate, get_or-replicate}
use lib.Seq.{get_or-set_same, get_or-set_other}
use borrow.Author.Tests.{eqb-true, eqb-false}
use Rattle.laws.specs.Lists.{any, from, below, same, sum, position}
use Rattle.laws.proofs.Positions.{same_sym, position_from}
use Rattle.laws.proofs.Ranges.{any_below_suc, length_map_from}
use Rattle.laws.proofs.Sums.{sum_drop_le, sum_set_le}
use Rattle.language.specs.Table.{name_at}
use Rattle.language.specs.MadeNames.{made_name, in_use, next_free}
use Rattle.table.specs.Named.{is_named}
use Rattle.naming.specs.Numbers.{Numbers}
use Rattle.naming.specs.Numbered.{Marked, Free}

module _ (prefix t : List ℕ) (at stride : ℕ) where
  abbrev used : ℕ → ℕ → Bool
  used j count = any (is_named t at stride (made_name prefix j)) (below count)

  -- ---- marked one by one

  pub marked_none : {marks : List ℕ} → marks ≡ replicate 513 0 → Marked prefix t at stride 0 marks
  marked_none e =
      record {
        size = ap length e ∙ length-replicate {A = ℕ} 513 0;
        cells = λ j h. ap (λ (l : List ℕ). get_or l j 0) e ∙ get_or-replicate 513 j 0 0 (omega arith);
        few = rw e (rw (no_sum 513) (omega arith));
      }
    where
      no_sum : (n : ℕ) → sum (replicate n 0) ≡ 0
      no_sum zero = refl
      no_sum (suc n) = omega (arith, no_sum n)

  pub marked_more :
      {i r : ℕ} {marks : List ℕ} → Marked prefix t at stride i marks → Numbers prefix (name_at t (at + stride * i)) r
      → Marked prefix t at stride (i + 1) (set marks r 1)
  marked_more {i} {r} {marks} k m =
      record {
        size = length-set marks r 1 ∙ k.size;
        cells = λ j h. by j h (eqb j r) refl;
        few = omega (arith, sum_set_le marks r 1, k.few);
      }
    where
      -- name i has number j exactly if j is r
      more : (j : ℕ) (b : Bool) → j < 512 → eqb j r ≡ b → used j (i + 1) ≡ (used j i || b)
      more j b h e =
          ap (used j) (add-one i) ∙ any_below_suc (is_named t at stride (made_name prefix j)) i
          ∙ ap (λ (x : Bool). used j i || x) (same_sym (name_at t (at + stride * i)) (made_name prefix j) ∙ m.told j h ∙ e)

      by : (j : ℕ) → j < 512 → (b : Bool) → eqb j r ≡ b → get_or (set marks r 1) j 0 ≡ cond (used j (i + 1)) 1 0
      by j h true e =
          let p : j ≡ r = eqb-true j r e in
          ap (λ (n : ℕ). get_or (set marks r 1) n 0) p ∙ get_or-set_same marks r 1 0 (omega (arith, p, k.size))
          ∙ sym (ap (λ (x : Bool). cond x 1 0) (more j true h e ∙ or-true (used j i)))
      by j h false e =
          get_or-set_other marks r j 1 0 (eqb-false j r e) ∙ k.cells j h
          ∙ sym (ap (λ (x : Bool). cond x 1 0) (more j false h e ∙ or-false (used j i)))

  -- ---- the first free number

  module _ (count : ℕ) where
    abbrev pub names : List (List ℕ)
    names = map (λ i. name_at t (at + stride * i)) (below count)

    in_use_law : (j : ℕ) (xs : List ℕ) → any (same (made_name prefix j)) (map (λ i. name_at t (at + stride * i)) xs) ≡ any (is_named t at stride (made_name prefix j)) xs
    in_use_law j [] = refl
    in_use_law j (x ∷ xs) = λ k. same_sym (made_name prefix j) (name_at t (at + stride * x)) k || in_use_law j xs k

    marked_is : {marks : List ℕ} → Marked prefix t at stride count marks → (j : ℕ) → j < 512 → get_or marks j 0 ≡ cond (in_use prefix names j) 1 0
    marked_is k j h = k.cells j h ∙ ap (λ (x : Bool). cond x 1 0) (sym (in_use_law j (below count)))

    pub next_free_law : {marks : List ℕ} {k r : ℕ} → Marked prefix t at stride count marks → Free marks k r → next_free prefix names k ≡ r
    unfolding next_free
    next_free_law {marks} {k} {r} m f =
        let n : length names ≡ count = length_map_from (λ i. name_at t (at + stride * i)) 0 count in
        let e : r - k ≡ position (λ j. not (in_use prefix names j)) (from k (length names)) =
        position_from (λ j. not (in_use prefix names j)) k (length names) (r - k)
        (omega (arith, n, f.room, m.few, sum_drop_le k marks))
        (λ i h. taken (k + i) (omega (arith, f.within)) (f.before (k + i) (omega arith) (omega arith)))
        (λ h. untaken (k + (r - k)) (omega (arith, f.from_k)) f.within f.free) in
        omega (arith, e, f.from_k)
      where
        taken : (j : ℕ) → j < 512 → (get_or marks j 0 ≡ 0 → ⊥) → not (in_use prefix names j) ≡ false
        taken j h z = by (in_use prefix names j) (marked_is m j h)
          where
            by : (b : Bool) → get_or marks j 0 ≡ cond b 1 0 → not b ≡ false
            by true e = refl
            by false e = absurd (z e)

        untaken : (j : ℕ) → j ≡ r → r < 512 → get_or marks r 0 ≡ 0 → not (in_use prefix names j) ≡ true
        untaken j p h z = rw p (by (in_use prefix names r) (marked_is m r h))
          where
            by : (b : Bool) → get_or marks r 0 ≡ cond b 1 0 → not b ≡ true
            by true e = absurd (let q : ◌≡◌ {A = ℕ} 0 1 = sym z ∙ e in omega arith)
            by false e = refl
