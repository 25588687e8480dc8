-- The whole test of a row, put together: by its form, then 10.
-- Assumes nothing.
use mathlib.Core.Path.{◌≡◌, refl, sym, ap, ◌∙◌, subst}
use mathlib.Core.Bool.{Bool, true, false, cond, not, beq}
use mathlib.Core.List.{List, [], ◌∷◌}
use Prim.Native.Nat.{ℕ, ◌+◌, ◌<◌}
use native.Mathlib.Decide.{dec_lt}
use native.Mathlib.Numerals.{add-one}
use native.Mathlib.Omega.{arith}
use lib.Dec.{T, eqb, leb}
use Rattle.laws.specs.Lists.{all, below}
use Rattle.laws.proofs.Matches.{None, past}
use Rattle.laws.proofs.Tests.{beq_eq, of_true}
use Rattle.language.specs.Instructions.{Form, form_of, form_number, uint, void, instruction_count}
use Rattle.language.specs.Programs.{Func, Row, is_terminator}
use Rattle.language.specs.Table.{function_result, register_type, block_rows, row_op, row_left, decode_as, decode_row, decode_function}
use Rattle.language.specs.Checking.{Spot, spot_at, in_range, breaks10}
use Rattle.language.proofs.TableView.{block_rows_count}
use Rattle.rules.specs.Tests.{lowest, later_tests, form_fault}
use Rattle.rules.specs.Cells.{RowStands, Judged, spot, unset}
use Rattle.language.proofs.FormLaws.{each, form_past, unknown_past}
use Rattle.rules.proofs.RangeLaws.{row_form, unknown_range}
use Rattle.rules.proofs.FormFaultLaws.{nop_judged, jump_judged, branch_judged, return_judged, leave_judged}
use Rattle.rules.proofs.Standing.{spot_here}

-- ---- 11 to 16, by the form

module _ (t : List ℕ) (a : ℕ) (m : List ℕ) (b j k op form : ℕ) (h : RowStands t a m b j k) (n : T (in_range (decode_function t a) (decode_row t a k))) (fetched : op ≡ row_op t a k) (formed : form ≡ form_number (form_of op)) where
  abbrev Later : ℕ → Row → Type 0
  Later r x = r ≡ lowest 11 (later_tests (decode_function t a) (spot b j x))

  as_form : (g : Form) (r : ℕ) → form ≡ form_number g → (T (in_range (decode_function t a) (decode_as g t a k)) → Later r (decode_as g t a k)) → Later r (decode_row t a k)
  unfolding decode_row
  as_form g r e p = let q : form_of (row_op t a k) ≡ g = row_form t a k op form fetched formed g e in rw q (p (rw q at n))

  pub later_judged : (g : Form) (r : ℕ) → form ≡ form_number g → Judged g t a m b j k r → Later r (decode_row t a k)
  unfolding Judged
  later_judged g r e p = as_form g r e (p h (row_form t a k op form fetched formed g e))

  pub later_nop : form ≡ 0 → Later 0 (decode_row t a k)
  later_nop e = as_form Form.nop 0 e (λ i. nop_judged t a m b j k h)

  pub later_jump : form ≡ 5 → Later 0 (decode_row t a k)
  later_jump e = as_form Form.jump 0 e (λ i. jump_judged t a m b j k h)

  pub later_branch :
      (r : ℕ)
      → form ≡ 6
      → r ≡ lowest 11 (not (eqb (register_type t a (row_left t a k)) uint) ∷ false ∷ false ∷ false ∷ false ∷ unset t a m (row_left t a k) ∷ [])
      → Later r (decode_row t a k)
  later_branch r e p = as_form Form.branch r e (λ i. p ∙ branch_judged t a m b j k h i)

  pub later_return :
      (r kind : ℕ)
      → form ≡ 7
      → kind ≡ function_result t a
      → r ≡ lowest 11 (not (eqb (register_type t a (row_left t a k)) kind) ∷ false ∷ false ∷ false ∷ false ∷ unset t a m (row_left t a k) ∷ [])
      → Later r (decode_row t a k)
  later_return r kind e q p = as_form Form.return r e (λ i. p ∙ rw q (return_judged t a m b j k h i))

  pub later_leave :
      (r : ℕ)
      → form ≡ 8
      → r ≡ lowest 11 (not (eqb (function_result t a) void) ∷ false ∷ false ∷ false ∷ false ∷ false ∷ [])
      → Later r (decode_row t a k)
  later_leave r e p = as_form Form.leave r e (λ i. p ∙ leave_judged t a m b j k h)

  -- a row of no form has a number outside its range
  pub later_none : (r : ℕ) → None 9 form → Later r (decode_row t a k)
  unfolding decode_row
  later_none r z =
      let e : form_of (row_op t a k) ≡ Form.unknown = ap form_of (sym fetched) ∙ form_past (form_of op) formed (past 9 form z) in
      absurd (subst T (sym (unknown_range t a k e)) (rw e at n))

-- ---- 10

abbrev ends : Form → Bool
ends Form.nop = false
ends Form.load = false
ends Form.unary = false
ends Form.binary = false
ends Form.phi = false
ends Form.jump = true
ends Form.branch = true
ends Form.return = true
ends Form.leave = true
ends Form.unknown = false

ends_as : (g : Form) (t : List ℕ) (a k : ℕ) → is_terminator (decode_as g t a k) ≡ ends g
unfolding decode_as
ends_as Form.nop t a k = refl
ends_as Form.load t a k = refl
ends_as Form.unary t a k = refl
ends_as Form.binary t a k = refl
ends_as Form.phi t a k = refl
ends_as Form.jump t a k = refl
ends_as Form.branch t a k = refl
ends_as Form.return t a k = refl
ends_as Form.leave t a k = refl
ends_as Form.unknown t a k = refl

-- the terminators are the last four instructions
terminators : all (λ op. beq (ends (form_of op)) (leb 32 op)) (below instruction_count) ≡ true
unfolding form_of
terminators = refl

module _ (t : List ℕ) (a k : ℕ) (n : T (in_range (decode_function t a) (decode_row t a k))) where
  known_op : row_op t a k < instruction_count
  unfolding decode_row
  known_op = elim (dec_lt (row_op t a k) instruction_count) [ yes l ↦ l | no l ↦ absurd (outside (unknown_past (row_op t a k) (omega arith))) ]
    where
      outside : form_of (row_op t a k) ≡ Form.unknown → ⊥
      outside e = subst T (sym (unknown_range t a k e)) (rw e at n)

  terminates : is_terminator (decode_row t a k) ≡ leb 32 (row_op t a k)
  unfolding decode_row
  terminates =
      ends_as (form_of (row_op t a k)) t a k
      ∙ beq_eq (ends (form_of (row_op t a k))) (leb 32 (row_op t a k)) (of_true _ (each (λ op. beq (ends (form_of op)) (leb 32 op)) terminators (row_op t a k) known_op))

-- 10 first, then the later ones
form_fault_law : (f : Func) (s : Spot) → form_fault f s ≡ cond (breaks10 f s) 10 (lowest 11 (later_tests f s))
unfolding form_fault later_tests
form_fault_law f s = refl

module _ (t : List ℕ) (a : ℕ) (m : List ℕ) (b j k : ℕ) (h : RowStands t a m b j k) where
  abbrev f : Func
  f = decode_function t a

  module _ (n : T (in_range f (decode_row t a k))) (op rows : ℕ) (fetched : op ≡ row_op t a k) (counted : rows ≡ block_rows t a b) (r : Bool) (ended : r ≡ not (beq (leb 32 op) (eqb (j + 1) rows))) where
    ended_is : r ≡ breaks10 f (spot b j (decode_row t a k))
    unfolding breaks10
    ended_is =
        ended ∙ rw (terminates t a k n, block_rows_count t a b h.block, ← fetched, ← counted, add-one)

    pub form_10 : r ≡ true → 10 ≡ form_fault f (spot_at f b j)
    form_10 e = rw (spot_here t a m b j k h, form_fault_law f (spot b j (decode_row t a k)), ← ended_is, e)

    pub form_later : (v : ℕ) → r ≡ false → v ≡ lowest 11 (later_tests f (spot b j (decode_row t a k))) → v ≡ form_fault f (spot_at f b j)
    form_later v e p = rw (spot_here t a m b j k h, form_fault_law f (spot b j (decode_row t a k)), ← ended_is, e) p
