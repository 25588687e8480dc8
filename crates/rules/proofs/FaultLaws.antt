-- 10 to 16 of a row, form by form, by its cells and what is prepared.
-- Assumes nothing.
use mathlib.Core.Path.{◌≡◌, refl, sym, ap, ◌∙◌}
use mathlib.Core.Bool.{Bool, true, false, cond, not, ◌&&◌, ◌||◌, or-false}
use mathlib.Core.List.{List, [], ◌∷◌, ◌++◌}
use Prim.Native.Nat.{ℕ, suc, ◌+◌, ◌≤◌, ◌<◌}
use native.Mathlib.Numerals.{add-one}
use native.Mathlib.Omega.{arith}
use native.Mathlib.Decide.{dec_lt}
use borrow.Author.Tests.{lt-ltb, le-ltb, le-leb, lt-leb, eq-eqb}
use lib.Dec.{T, eqb, leb, ltb, eqb-suc-suc, eqb-suc-zero}
use lib.ListN.{length, get_or, take}
use Rattle.laws.specs.Lists.{any, member, position}
use Rattle.laws.proofs.Agreeing.{any_every}
use Rattle.laws.proofs.Indexing.{any_at}
use Rattle.laws.proofs.Every.{Every, every_imp}
use Rattle.language.specs.Programs.{Func, Row, is_ssa, rows_at, rows_of, is_phi, targets_of, sources_of, entries_of, max_registers}
use Rattle.language.specs.Table.{function_ssa, function_params, decode_row, decode_function}
use Rattle.language.specs.Checking.{assigned_in, is_parameter, breaks12, breaks16}
use Rattle.flow.specs.Layout.{assignment_in, phis_in}
use Rattle.flow.specs.Assignments.{assigned_at}
use Rattle.flow.specs.Leading.{leading_phis}
use Rattle.flow.specs.Prepared.{Prepared}
use Rattle.rules.specs.Cells.{RowStands, spot, retaken, unset}
use Rattle.rules.proofs.Firsts.{any_before, any_after_leading, any_and}
use Rattle.rules.proofs.Standing.{row_in, row_of_law, number_here}

-- ---- what is prepared, against what the tests scan for

module _ (f : Func) (m : List ℕ) (h : Prepared f m) where
  pub assigned_any : (u : ℕ) → u < max_registers → assigned_in (rows_of f) u ≡ not (eqb (assignment_in m u) 0)
  unfolding assigned_at
  assigned_any u l = by (assigned_in (rows_of f) u) (h.assigned u l)
    where
      by : (b : Bool) → assignment_in m u ≡ cond b (suc (position (λ r. member u (targets_of r)) (rows_of f))) 0 → b ≡ not (eqb (assignment_in m u) 0)
      by true e = rw (e, eqb-suc-zero)
      by false e = rw e

  -- an earlier row than k, which assigns u, does so too
  pub assigned_before :
      (u k : ℕ)
      → u < max_registers
      → k < length (rows_of f)
      → member u (targets_of (get_or (rows_of f) k Row.nop)) ≡ true
      → assigned_in (take k (rows_of f)) u ≡ not (eqb (assignment_in m u) (k + 1))
  unfolding assigned_at assigned_in
  assigned_before u k l n e =
      let p : Row → Bool = λ r. member u (targets_of r) in
      let some : any p (rows_of f) ≡ true = any_at p (rows_of f) k Row.nop n e in
      let first : assignment_in m u ≡ suc (position p (rows_of f)) = h.assigned u l ∙ ap (λ b. cond b (suc (position p (rows_of f))) 0) some in
      rw (first, add-one, eqb-suc-suc) (any_before p (rows_of f) k Row.nop n e)

  pub led : (b j : ℕ) → b < length f.blocks → j ≤ length (rows_at f b) → any (λ r. not (is_phi r)) (take j (rows_at f b)) ≡ ltb (phis_in m b) j
  unfolding leading_phis
  led b j l n = any_after_leading is_phi (rows_at f b) j n ∙ ap (λ x. ltb x j) (sym (h.phis b l))

-- ---- 12 and 16 of a row at its place

pub ssa_is : (t : List ℕ) (a : ℕ) → is_ssa (decode_function t a) ≡ eqb (function_ssa t a) 1
unfolding decode_function
ssa_is t a = refl

param_is : (t : List ℕ) (a u : ℕ) → is_parameter (decode_function t a) u ≡ ltb u (function_params t a)
unfolding decode_function
param_is t a u = refl

-- a test that is asked only where s holds
under : (s : Bool) {x y : Bool} → (T s → x ≡ y) → (s && x) ≡ (s && y)
under true e = e tt
under false e = refl

not_either : (a c : Bool) → not (a || not c) ≡ (not a && c)
not_either true c = refl
not_either false true = refl
not_either false false = refl

not_ltb : (u n : ℕ) → not (ltb u n) ≡ leb n u
not_ltb u n = elim (dec_lt u n) [
  | yes h ↦ ap not (lt-ltb u n h) ∙ sym (lt-leb n u h)
  | no h ↦ ap not (le-ltb u n (omega arith)) ∙ sym (le-leb n u (omega arith))
]

module _ (t : List ℕ) (a : ℕ) (m : List ℕ) (b j k : ℕ) (h : RowStands t a m b j k) where
  abbrev f : Func
  f = decode_function t a

  pub breaks12_at : (r : Row) (u : ℕ) → decode_row t a k ≡ r → targets_of r ≡ u ∷ [] → u < max_registers → breaks12 f (spot b j r) ≡ retaken t a m u k
  unfolding breaks12 retaken
  breaks12_at r u e g l =
      let here : member u (targets_of (get_or (rows_of f) k Row.nop)) ≡ true =
      ap (λ r. member u (targets_of r)) (row_of_law t a m b j k h ∙ e) ∙ ap (member u) g ∙ ap (λ c. c || false) (eq-eqb u u refl) in
      rw (g, number_here t a m b j k h r, ← ssa_is t a, param_is t a u, or-false)
      (under (is_ssa f) (λ s. ap (λ x. ltb u (function_params t a) || x) (assigned_before f m (h.prepared.in_ssa s) u k l (row_in t a m b j k h) here)))

  unset_is : (u : ℕ) → u < max_registers → (is_ssa f && not (is_parameter f u || assigned_in (rows_of f) u)) ≡ unset t a m u
  unfolding unset
  unset_is u l =
      rw (← ssa_is t a, param_is t a u)
      (under (is_ssa f) (λ s. rw (assigned_any f m (h.prepared.in_ssa s) u l, not_either (ltb u (function_params t a)) (eqb (assignment_in m u) 0), not_ltb)))

  pub breaks16_at : (r : Row) → Every (λ u. u < max_registers) (sources_of r ++ entries_of r) → breaks16 f (spot b j r) ≡ any (unset t a m) (sources_of r ++ entries_of r)
  unfolding breaks16
  breaks16_at r l =
      any_and (λ u. not (is_parameter f u || assigned_in (rows_of f) u)) (is_ssa f) (sources_of r ++ entries_of r)
      ∙ any_every (every_imp unset_is l)
