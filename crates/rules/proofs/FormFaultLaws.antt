-- 11 to 16 of a row of each form: its tests by cells are the tests of the language.
-- Assumes nothing.
use mathlib.Core.Path.{◌≡◌, refl, sym, ap, ap₂, ◌∙◌, subst}
use mathlib.Core.Bool.{Bool, true, false, cond, not, ◌&&◌, ◌||◌, and-false, or-false}
use mathlib.Core.List.{List, [], ◌∷◌, ◌++◌, map}
use Prim.Native.Nat.{ℕ, zero, suc, ◌≤◌, ◌<◌}
use native.Mathlib.Nat.{zero-lt-suc}
use native.Mathlib.Omega.{arith}
use lib.Dec.{T, eqb, ltb, lit<, eqb-suc-zero}
use borrow.Author.Tests.{ne_eqb}
use lib.ListN.{length}
use Rattle.laws.specs.Lists.{all, from, empty}
use Rattle.laws.proofs.Agreeing.{all_agree}
use Rattle.laws.proofs.Ranges.{length_map_from}
use Rattle.laws.proofs.Every.{Every, none, more, every_at, every_imp, every_right}
use Rattle.language.specs.Instructions.{Form, form_of, form_number, load_type, uint, void, conv_op, copy_op}
use Rattle.language.specs.Programs.{Func, Row, is_ssa, type_at, rows_at, is_phi, targets_of, sources_of, entries_of, op_of, max_registers, max_blocks}
use Rattle.language.specs.Table.{function_ssa, function_result, function_entry, register_count, register_type, row_op, row_target, row_left, row_right, load_number, jump_first, jump_second, phi_first, phi_count, phi_entry, block_count, block_rows, predecessor_count, decode_as, decode_row, decode_function}
use Rattle.language.specs.Checking.{Spot, in_range, typed, breaks11, breaks12, breaks13, breaks14, breaks15, breaks16}
use Rattle.language.proofs.TableView.{register_count_law, type_is, block_count_law, block_rows_count, kept_count}
use Rattle.theorems.proofs.AcceptanceRows.{range_parts}
use Rattle.rules.specs.Tests.{lowest, later_tests}
use Rattle.flow.specs.Layout.{phis_in}
use Rattle.rules.specs.Cells.{RowStands, Judged, spot, retaken, unset, binary_typed}
use Rattle.rules.proofs.Firsts.{any_not_all}
use Rattle.rules.proofs.FaultLaws.{ssa_is, led, breaks12_at, breaks16_at}

-- the lowest number by tests that agree with those of the language
found :
    (f : Func) (s : Spot) {b₁ b₂ b₃ b₄ b₅ b₆ : Bool}
    → breaks11 f s ≡ b₁
    → breaks12 f s ≡ b₂
    → breaks13 f s ≡ b₃
    → breaks14 f s ≡ b₄
    → breaks15 f s ≡ b₅
    → breaks16 f s ≡ b₆
    → lowest 11 (b₁ ∷ b₂ ∷ b₃ ∷ b₄ ∷ b₅ ∷ b₆ ∷ []) ≡ lowest 11 (later_tests f s)
unfolding later_tests
found f s p q r u v w = sym (λ i. lowest 11 (p i ∷ q i ∷ r i ∷ u i ∷ v i ∷ w i ∷ []))

-- the same of a phi: outside ssa it breaks 13, whatever else it breaks
found_phi :
    (f : Func) (s : Spot) {b₁ b₂ b₄ b₅ b₆ : Bool} (ssa : Bool)
    → breaks11 f s ≡ b₁
    → breaks12 f s ≡ b₂
    → breaks13 f s ≡ not ssa
    → (T ssa → breaks14 f s ≡ b₄)
    → breaks15 f s ≡ b₅
    → breaks16 f s ≡ b₆
    → lowest 11 (b₁ ∷ b₂ ∷ not ssa ∷ b₄ ∷ b₅ ∷ b₆ ∷ []) ≡ lowest 11 (later_tests f s)
unfolding later_tests
found_phi f s true p q r u v w = found f s p q r (u tt) v w
found_phi f s false p q r u v w = sym (λ i. lowest 11 (p i ∷ q i ∷ r i ∷ breaks14 f s ∷ breaks15 f s ∷ breaks16 f s ∷ []))

cond_false : (b : Bool) → cond b false false ≡ false
cond_false true = refl
cond_false false = refl

cond_and : (b c : Bool) → cond b c false ≡ (b && c)
cond_and true c = refl
cond_and false c = refl

cond_not : (b : Bool) → cond b false true ≡ not b
cond_not true = refl
cond_not false = refl

not_or : (a b : Bool) → not (a || b) ≡ (not a && not b)
not_or true b = refl
not_or false b = refl

-- `copy` is of form `unary`
not_copy : (op : ℕ) (g : Form) → form_of op ≡ g → (form_number g ≡ 2 → ⊥) → eqb op copy_op ≡ false
unfolding form_of
not_copy op g e n = ne_eqb op copy_op (λ p. n (ap form_number (sym e) ∙ ap (λ o. form_number (form_of o)) p))

-- a list by numbers is empty where there are none
empty_from : (g : ℕ → ℕ) (k n : ℕ) → empty (map g (from k n)) ≡ eqb n 0
empty_from g k zero = refl
empty_from g k (suc n) = sym (eqb-suc-zero n)

module _ (t : List ℕ) (a : ℕ) (m : List ℕ) (b j k : ℕ) (h : RowStands t a m b j k) where
  abbrev f : Func
  f = decode_function t a

  -- the registers of a row whose numbers are in their ranges
  ranged : (r : Row) → T (in_range f r) → Every (λ u. u < register_count t a) (targets_of r ++ (sources_of r ++ entries_of r))
  ranged r n = rw register_count_law at (range_parts f r n).registers

  few : (u : ℕ) → u < register_count t a → u < max_registers
  few u l = let q : register_count t a ≤ max_registers = h.sized.registers in omega arith

  row_as : (g : Form) → form_of (row_op t a k) ≡ g → decode_row t a k ≡ decode_as g t a k
  unfolding decode_row
  row_as g e = ap (λ g. decode_as g t a k) e

  -- a row with no target has nothing to break 12 with, and a row with no register 16
  no_target : (r : Row) → targets_of r ≡ [] → breaks12 f (spot b j r) ≡ false
  unfolding breaks12
  no_target r e = rw e (and-false (is_ssa f))

  no_use : (r : Row) → sources_of r ++ entries_of r ≡ [] → breaks16 f (spot b j r) ≡ false
  unfolding breaks16
  no_use r e = rw e (and-false (is_ssa f))

  -- 13, 14 and 15 of a row that is no phi and no `copy`
  module _ (r : Row) where
    no_copy : is_phi r ≡ false → eqb (op_of r) copy_op ≡ false → breaks13 f (spot b j r) ≡ false
    unfolding breaks13
    no_copy p e = rw (p, e) (cond_false (is_ssa f))

    no_phi_14 : is_phi r ≡ false → breaks14 f (spot b j r) ≡ false
    unfolding breaks14
    no_phi_14 p = rw p

    no_phi_15 : is_phi r ≡ false → breaks15 f (spot b j r) ≡ false
    unfolding breaks15
    no_phi_15 p = rw p

  pub load_judged :
      form_of (row_op t a k) ≡ Form.load
      → T (in_range f (decode_as Form.load t a k))
      → lowest 11 (not (eqb (register_type t a (row_target t a k)) (load_type (row_op t a k))) ∷ retaken t a m (row_target t a k) k ∷ false ∷ false ∷ false ∷ false ∷ [])
      ≡ lowest 11 (later_tests f (spot b j (decode_as Form.load t a k)))
  unfolding decode_as breaks11 typed
  load_judged e n =
      let r : Row = Row.load (row_op t a k) (row_target t a k) (load_number t a k) in
      let l : row_target t a k < register_count t a = every_at (ranged r n) 0 0 (lit< tt) in
      found f (spot b j r)
      (ap (λ x. not (eqb x (load_type (row_op t a k)))) (type_is t a (row_target t a k) l))
      (breaks12_at t a m b j k h r (row_target t a k) (row_as Form.load e) refl (few (row_target t a k) l))
      (no_copy r refl (not_copy (row_op t a k) Form.load e (λ p. omega arith)))
      (no_phi_14 r refl)
      (no_phi_15 r refl)
      (no_use r refl)

  pub unary_judged :
      form_of (row_op t a k) ≡ Form.unary
      → T (in_range f (decode_as Form.unary t a k))
      → lowest 11
      (not (eqb (row_op t a k) conv_op || eqb (register_type t a (row_target t a k)) (register_type t a (row_left t a k)))
      ∷ retaken t a m (row_target t a k) k
      ∷ (eqb (function_ssa t a) 1 && eqb (row_op t a k) copy_op)
      ∷ false
      ∷ false
      ∷ unset t a m (row_left t a k)
      ∷ [])
      ≡ lowest 11 (later_tests f (spot b j (decode_as Form.unary t a k)))
  unfolding decode_as breaks11 breaks13 typed
  unary_judged e n =
      let r : Row = Row.unary (row_op t a k) (row_target t a k) (row_left t a k) in
      let l : row_target t a k < register_count t a = every_at (ranged r n) 0 0 (lit< tt) in
      let l' : row_left t a k < register_count t a = every_at (ranged r n) 0 1 (lit< tt) in
      found f (spot b j r)
      (ap₂ (λ x y. not (eqb (row_op t a k) conv_op || eqb x y)) (type_is t a (row_target t a k) l) (type_is t a (row_left t a k) l'))
      (breaks12_at t a m b j k h r (row_target t a k) (row_as Form.unary e) refl (few (row_target t a k) l))
      (cond_and (is_ssa f) (eqb (row_op t a k) copy_op) ∙ ap (λ x. x && eqb (row_op t a k) copy_op) (ssa_is t a))
      (no_phi_14 r refl)
      (no_phi_15 r refl)
      (breaks16_at t a m b j k h r (more (few (row_left t a k) l') none) ∙ or-false (unset t a m (row_left t a k)))

  pub binary_judged :
      form_of (row_op t a k) ≡ Form.binary
      → T (in_range f (decode_as Form.binary t a k))
      → lowest 11
      (not (binary_typed (row_op t a k) (register_type t a (row_target t a k)) (register_type t a (row_left t a k)) (register_type t a (row_right t a k)))
      ∷ retaken t a m (row_target t a k) k
      ∷ false
      ∷ false
      ∷ false
      ∷ (unset t a m (row_left t a k) || unset t a m (row_right t a k))
      ∷ [])
      ≡ lowest 11 (later_tests f (spot b j (decode_as Form.binary t a k)))
  unfolding decode_as breaks11 typed binary_typed
  binary_judged e n =
      let r : Row = Row.binary (row_op t a k) (row_target t a k) (row_left t a k) (row_right t a k) in
      let l : row_target t a k < register_count t a = every_at (ranged r n) 0 0 (lit< tt) in
      let l' : row_left t a k < register_count t a = every_at (ranged r n) 0 1 (lit< tt) in
      let l'' : row_right t a k < register_count t a = every_at (ranged r n) 0 2 (lit< tt) in
      found f (spot b j r)
      (λ i. not (binary_typed (row_op t a k) (type_is t a (row_target t a k) l i) (type_is t a (row_left t a k) l' i) (type_is t a (row_right t a k) l'' i)))
      (breaks12_at t a m b j k h r (row_target t a k) (row_as Form.binary e) refl (few (row_target t a k) l))
      (no_copy r refl (not_copy (row_op t a k) Form.binary e (λ p. omega arith)))
      (no_phi_14 r refl)
      (no_phi_15 r refl)
      (breaks16_at t a m b j k h r (more (few (row_left t a k) l') (more (few (row_right t a k) l'') none))
      ∙ ap (λ x. unset t a m (row_left t a k) || x) (or-false (unset t a m (row_right t a k))))

  -- a terminator with a source that must be of type `kind`
  source_judged :
      (r : Row) (u kind : ℕ)
      → T (in_range f r)
      → targets_of r ≡ []
      → sources_of r ++ entries_of r ≡ u ∷ []
      → is_phi r ≡ false
      → eqb (op_of r) copy_op ≡ false
      → typed f r ≡ eqb (type_at f u) kind
      → lowest 11 (not (eqb (register_type t a u) kind) ∷ false ∷ false ∷ false ∷ false ∷ unset t a m u ∷ []) ≡ lowest 11 (later_tests f (spot b j r))
  unfolding breaks11
  source_judged r u kind n p q i c y =
      let all : Every (λ u. u < register_count t a) (u ∷ []) = rw q at (rw p at (ranged r n)) in
      let l : u < register_count t a = every_at all 0 0 (lit< tt) in
      found f (spot b j r)
      (ap not (y ∙ ap (λ x. eqb x kind) (type_is t a u l)))
      (no_target r p)
      (no_copy r i c)
      (no_phi_14 r i)
      (no_phi_15 r i)
      (rw q at (breaks16_at t a m b j k h r (rw q (more (few u l) none))) ∙ or-false (unset t a m u))

  -- a row without registers whose types are right or not
  bare_judged :
      (r : Row)
      → targets_of r ≡ []
      → sources_of r ++ entries_of r ≡ []
      → is_phi r ≡ false
      → eqb (op_of r) copy_op ≡ false
      → lowest 11 (not (typed f r) ∷ false ∷ false ∷ false ∷ false ∷ false ∷ []) ≡ lowest 11 (later_tests f (spot b j r))
  unfolding breaks11
  bare_judged r p q i c = found f (spot b j r) refl (no_target r p) (no_copy r i c) (no_phi_14 r i) (no_phi_15 r i) (no_use r q)

  -- 14 and 15 of a phi
  entry_is : f.entry ≡ function_entry t a
  unfolding decode_function
  entry_is = refl

  phi_14 :
      (u : ℕ) (es : List ℕ)
      → T (is_ssa f)
      → breaks14 f (spot b j (Row.phi u es)) ≡ (eqb b (function_entry t a) || ltb (phis_in m b) j)
  unfolding breaks14
  phi_14 u es ssa =
      let l : b < length f.blocks = rw (block_count_law t a) h.block in
      let n : j ≤ length (rows_at f b) = rw (block_rows_count t a b h.block) (let i : j < block_rows t a b = h.index in omega arith) in
      ap₂ (λ x y. eqb b x || y) entry_is (led f m (h.prepared.in_ssa ssa) b j l n)

  phi_15 :
      (u first count : ℕ)
      → predecessor_count t a b < 256
      → breaks15 f (spot b j (Row.phi u (map (phi_entry t a) (from first count)))) ≡ (eqb count 0 || not (eqb count (predecessor_count t a b)))
  unfolding breaks15
  phi_15 u first count c =
      let few : block_count t a ≤ max_blocks = h.sized.blocks in
      rw (
        empty_from (phi_entry t a) first count,
        length_map_from (phi_entry t a) first count,
        kept_count t a h.sized.placed h.sized.within b h.block (omega (arith, h.block)) c,
      )

  pub phi_judged :
      form_of (row_op t a k) ≡ Form.phi
      → predecessor_count t a b < 256
      → T (in_range f (decode_as Form.phi t a k))
      → (let es = map (phi_entry t a) (from (phi_first t a k) (phi_count t a k)) in
      lowest 11
      (not (all (λ u. eqb (register_type t a u) (register_type t a (row_target t a k))) es)
      ∷ retaken t a m (row_target t a k) k
      ∷ not (eqb (function_ssa t a) 1)
      ∷ (eqb b (function_entry t a) || ltb (phis_in m b) j)
      ∷ (eqb (phi_count t a k) 0 || not (eqb (phi_count t a k) (predecessor_count t a b)))
      ∷ not (all (λ u. not (unset t a m u)) es)
      ∷ []))
      ≡ lowest 11 (later_tests f (spot b j (decode_as Form.phi t a k)))
  unfolding decode_as breaks11 breaks13 typed
  phi_judged e c n =
      let es : List ℕ = map (phi_entry t a) (from (phi_first t a k) (phi_count t a k)) in
      let x : ℕ = row_target t a k in
      let r : Row = Row.phi x es in
      let l : x < register_count t a = every_at (ranged r n) 0 0 (zero-lt-suc (length es)) in
      let ls : Every (λ u. u < register_count t a) es = every_right (x ∷ []) es (ranged r n) in
      found_phi f (spot b j r) (eqb (function_ssa t a) 1)
      (ap not
      (ap (λ y. all (λ u. eqb (type_at f u) y) es) (type_is t a x l)
      ∙ all_agree {q = λ u. eqb (register_type t a u) (register_type t a x)} (every_imp (λ u i. ap (λ y. eqb y (register_type t a x)) (type_is t a u i)) ls)))
      (breaks12_at t a m b j k h r x (row_as Form.phi e) refl (few x l))
      (cond_not (is_ssa f) ∙ ap not (ssa_is t a))
      (λ ssa. phi_14 x es (subst T (sym (ssa_is t a)) ssa))
      (phi_15 x (phi_first t a k) (phi_count t a k) c)
      (breaks16_at t a m b j k h r (every_imp few ls) ∙ any_not_all (unset t a m) es)

  -- the terminators and `nop`
  pub branch_judged :
      T (in_range f (decode_as Form.branch t a k))
      → lowest 11 (not (eqb (register_type t a (row_left t a k)) uint) ∷ false ∷ false ∷ false ∷ false ∷ unset t a m (row_left t a k) ∷ [])
      ≡ lowest 11 (later_tests f (spot b j (decode_as Form.branch t a k)))
  unfolding decode_as typed
  branch_judged n = source_judged (Row.branch (row_left t a k) (jump_first t a k) (jump_second t a k)) (row_left t a k) uint n refl refl refl refl refl

  pub return_judged :
      T (in_range f (decode_as Form.return t a k))
      → lowest 11 (not (eqb (register_type t a (row_left t a k)) (function_result t a)) ∷ false ∷ false ∷ false ∷ false ∷ unset t a m (row_left t a k) ∷ [])
      ≡ lowest 11 (later_tests f (spot b j (decode_as Form.return t a k)))
  unfolding decode_as typed decode_function
  return_judged n = source_judged (Row.return (row_left t a k)) (row_left t a k) (function_result t a) n refl refl refl refl refl

  pub leave_judged : lowest 11 (not (eqb (function_result t a) void) ∷ false ∷ false ∷ false ∷ false ∷ false ∷ []) ≡ lowest 11 (later_tests f (spot b j (decode_as Form.leave t a k)))
  unfolding decode_as typed decode_function
  leave_judged = bare_judged Row.leave refl refl refl refl

  pub nop_judged : 0 ≡ lowest 11 (later_tests f (spot b j (decode_as Form.nop t a k)))
  unfolding decode_as typed
  nop_judged = bare_judged Row.nop refl refl refl refl

  pub jump_judged : 0 ≡ lowest 11 (later_tests f (spot b j (decode_as Form.jump t a k)))
  unfolding decode_as typed
  jump_judged = bare_judged (Row.jump (jump_first t a k)) refl refl refl refl

-- ---- what the code has found

module _ (t : List ℕ) (a : ℕ) (m : List ℕ) (k : ℕ) where
  pub load_found :
      (x o w v : ℕ) (again : Bool) (r : ℕ)
      → x ≡ row_target t a k
      → w ≡ register_type t a x
      → o ≡ row_op t a k
      → v ≡ load_type o
      → again ≡ retaken t a m x k
      → r ≡ lowest 11 (not (eqb w v) ∷ again ∷ false ∷ false ∷ false ∷ false ∷ [])
      → (b j : ℕ)
      → Judged Form.load t a m b j k r
  unfolding Judged
  load_found x o w v again r p q e l n z b j h g i = z ∙ rw (q, l, n, p, e) (load_judged t a m b j k h g i)

  pub unary_found :
      (x y o w v ssa : ℕ) (again never : Bool) (r : ℕ)
      → x ≡ row_target t a k
      → y ≡ row_left t a k
      → o ≡ row_op t a k
      → w ≡ register_type t a x
      → v ≡ register_type t a y
      → ssa ≡ function_ssa t a
      → again ≡ retaken t a m x k
      → never ≡ unset t a m y
      → r ≡ lowest 11 ((not (eqb o conv_op) && not (eqb w v)) ∷ again ∷ (eqb ssa 1 && eqb o copy_op) ∷ false ∷ false ∷ never ∷ [])
      → (b j : ℕ)
      → Judged Form.unary t a m b j k r
  unfolding Judged
  unary_found x y o w v ssa again never r p q e l n c d u z b j h g i =
      z ∙ rw (← not_or (eqb o conv_op) (eqb w v), l, n, c, d, u, p, q, e) (unary_judged t a m b j k h g i)

  pub binary_found :
      (x y z o u v w : ℕ) (fits again left right : Bool) (r : ℕ)
      → x ≡ row_target t a k
      → y ≡ row_left t a k
      → z ≡ row_right t a k
      → o ≡ row_op t a k
      → u ≡ register_type t a x
      → v ≡ register_type t a y
      → w ≡ register_type t a z
      → fits ≡ binary_typed o u v w
      → again ≡ retaken t a m x k
      → left ≡ unset t a m y
      → right ≡ unset t a m z
      → r ≡ lowest 11 (not fits ∷ again ∷ false ∷ false ∷ false ∷ (left || right) ∷ [])
      → (b j : ℕ)
      → Judged Form.binary t a m b j k r
  unfolding Judged
  binary_found x y z o u v w fits again left right r p q e c l n d i s y' z' end b j h g r' =
      end ∙ rw (i, s, y', z', l, n, d, p, q, e, c) (binary_judged t a m b j k h g r')

  pub phi_found :
      (b j x first count w ssa entry leading kept : ℕ) (fits again set : Bool) (r : ℕ)
      → x ≡ row_target t a k
      → first ≡ phi_first t a k
      → count ≡ phi_count t a k
      → w ≡ register_type t a x
      → fits ≡ all (λ u. eqb (register_type t a u) w) (map (phi_entry t a) (from first count))
      → entry ≡ function_entry t a
      → leading ≡ phis_in m b
      → kept ≡ predecessor_count t a b
      → kept < 256
      → set ≡ all (λ u. not (unset t a m u)) (map (phi_entry t a) (from first count))
      → again ≡ retaken t a m x k
      → ssa ≡ function_ssa t a
      → r ≡ lowest 11 (not fits ∷ again ∷ not (eqb ssa 1) ∷ (eqb b entry || ltb leading j) ∷ (eqb count 0 || not (eqb count kept)) ∷ not set ∷ [])
      → Judged Form.phi t a m b j k r
  unfolding Judged
  phi_found b j x first count w ssa entry leading kept fits again set r p q e l n c d i byte s u v end h g r' =
      end ∙ rw (n, s, u, v, c, d, i, l, p, q, e) (phi_judged t a m b j k h g (rw i at byte) r')

  pub source_found :
      (y w kind : ℕ) (never : Bool) (r : ℕ)
      → y ≡ row_left t a k
      → w ≡ register_type t a y
      → never ≡ unset t a m y
      → r ≡ lowest 11 (not (eqb w kind) ∷ false ∷ false ∷ false ∷ false ∷ never ∷ [])
      → r ≡ lowest 11 (not (eqb (register_type t a (row_left t a k)) kind) ∷ false ∷ false ∷ false ∷ false ∷ unset t a m (row_left t a k) ∷ [])
  source_found y w kind never r p q u z = z ∙ rw (q, u, p)
