-- 9 of a row, form by form, as a test of its cells.
-- Assumes nothing.
use mathlib.Core.Path.{◌≡◌, refl, sym, ap, ◌∙◌}
use mathlib.Core.Bool.{Bool, true, false, ◌&&◌, and-true, and_assoc}
use mathlib.Core.List.{List, map}
use Prim.Native.Nat.{ℕ, ◌<◌, ◌^◌}
use lib.Dec.{ltb, lit<}
use borrow.Author.Tests.{lt-ltb, le-ltb, eq-eqb}
use Rattle.laws.specs.Lists.{all, from}
use Rattle.laws.proofs.Matches.{None, past}
use Rattle.language.specs.Instructions.{Form, form_of, form_number, width, load_type, instruction_count}
use Rattle.language.specs.Programs.{Func, Row, op_of, form_in}
use Rattle.language.specs.Table.{register_count, block_count, row_op, row_target, row_left, row_right, load_number, jump_first, jump_second, phi_first, phi_count, phi_entry, decode_as, decode_row, decode_function}
use Rattle.language.specs.Checking.{in_range, shaped}
use Rattle.language.proofs.TableView.{register_count_law, block_count_law}
use Rattle.language.proofs.FormLaws.{known, unknown_from, form_is, form_past}

-- a row in its instruction's form
shaped_in : (r : Row) → form_of (op_of r) ≡ form_in r → form_number (form_in r) < 9 → shaped r ≡ true
unfolding shaped
shaped_in r e l = rw (lt-ltb (op_of r) instruction_count (known (op_of r) (form_in r) e l)) (eq-eqb _ _ (ap form_number e))

module _ (t : List ℕ) (a k : ℕ) where
  abbrev f : Func
  f = decode_function t a

  abbrev R : ℕ
  R = register_count t a

  abbrev B : ℕ
  B = block_count t a

  nop_range : true ≡ in_range f (decode_as Form.nop t a k)
  unfolding in_range decode_as shaped form_of
  nop_range = refl

  load_range :
      form_of (row_op t a k) ≡ Form.load
      → in_range f (decode_as Form.load t a k) ≡ (ltb (row_target t a k) R && ltb (load_number t a k) (2 ^ width (load_type (row_op t a k))))
  unfolding in_range decode_as
  load_range e = simp (shaped_in (Row.load (row_op t a k) (row_target t a k) (load_number t a k)) e (lit< tt), register_count_law t a, and-true)

  unary_range :
      form_of (row_op t a k) ≡ Form.unary
      → in_range f (decode_as Form.unary t a k) ≡ (ltb (row_target t a k) R && ltb (row_left t a k) R)
  unfolding in_range decode_as
  unary_range e = simp (shaped_in (Row.unary (row_op t a k) (row_target t a k) (row_left t a k)) e (lit< tt), register_count_law t a, and-true)

  binary_range :
      form_of (row_op t a k) ≡ Form.binary
      → in_range f (decode_as Form.binary t a k) ≡ (ltb (row_target t a k) R && ltb (row_left t a k) R && ltb (row_right t a k) R)
  unfolding in_range decode_as
  binary_range e =
      simp (shaped_in (Row.binary (row_op t a k) (row_target t a k) (row_left t a k) (row_right t a k)) e (lit< tt), register_count_law t a, and-true, and_assoc)

  phi_range :
      in_range f (decode_as Form.phi t a k) ≡ (ltb (row_target t a k) R && all (λ u. ltb u R) (map (phi_entry t a) (from (phi_first t a k) (phi_count t a k))))
  unfolding in_range decode_as shaped form_of
  phi_range =
      simp (register_count_law t a, and-true)
      (ap (λ (n : ℕ). ltb (row_target t a k) R && all (λ u. ltb u n) (map (phi_entry t a) (from (phi_first t a k) (phi_count t a k)))) (register_count_law t a))

  jump_range : in_range f (decode_as Form.jump t a k) ≡ ltb (jump_first t a k) B
  unfolding in_range decode_as shaped form_of
  jump_range = simp (block_count_law t a, and-true)

  branch_range :
      in_range f (decode_as Form.branch t a k) ≡ (ltb (row_left t a k) R && ltb (jump_first t a k) B && ltb (jump_second t a k) B)
  unfolding in_range decode_as shaped form_of
  branch_range = simp (register_count_law t a, block_count_law t a, and-true, and_assoc)

  return_range : in_range f (decode_as Form.return t a k) ≡ ltb (row_left t a k) R
  unfolding in_range decode_as shaped form_of
  return_range = simp (register_count_law t a, and-true)

  leave_range : true ≡ in_range f (decode_as Form.leave t a k)
  unfolding in_range decode_as shaped form_of
  leave_range = refl

  pub unknown_range : form_of (row_op t a k) ≡ Form.unknown → false ≡ in_range f (decode_as Form.unknown t a k)
  unfolding in_range decode_as shaped
  unknown_range e = simp (le-ltb (row_op t a k) instruction_count (unknown_from (row_op t a k) e))

-- ---- the same of what the code has at hand: cells by other names, and the counts
module _ (t : List ℕ) (a k n : ℕ) (counted : n ≡ register_count t a) where
  pub load_tested :
      (op x y z : ℕ) (fits : Bool)
      → op ≡ row_op t a k
      → form_of op ≡ Form.load
      → x ≡ row_target t a k
      → y ≡ load_number t a k
      → z ≡ load_type op
      → fits ≡ ltb y (2 ^ width z)
      → (ltb x n && fits) ≡ in_range (decode_function t a) (decode_as Form.load t a k)
  load_tested op x y z fits o e p q s r = rw (p, counted, r, q, s, o) (sym (load_range t a k (ap form_of (sym o) ∙ e)))

  pub unary_tested :
      (x y : ℕ)
      → form_of (row_op t a k) ≡ Form.unary
      → x ≡ row_target t a k
      → y ≡ row_left t a k
      → (ltb x n && ltb y n) ≡ in_range (decode_function t a) (decode_as Form.unary t a k)
  unary_tested x y e p q = rw (p, q, counted) (sym (unary_range t a k e))

  pub binary_tested :
      (x y z : ℕ)
      → form_of (row_op t a k) ≡ Form.binary
      → x ≡ row_target t a k
      → y ≡ row_left t a k
      → z ≡ row_right t a k
      → (ltb x n && ltb y n && ltb z n) ≡ in_range (decode_function t a) (decode_as Form.binary t a k)
  binary_tested x y z e p q r = rw (p, q, r, counted) (sym (binary_range t a k e))

  pub phi_tested :
      (x first count : ℕ) (fits : Bool)
      → x ≡ row_target t a k
      → first ≡ phi_first t a k
      → count ≡ phi_count t a k
      → fits ≡ all (λ u. ltb u n) (map (phi_entry t a) (from first count))
      → (ltb x n && fits) ≡ in_range (decode_function t a) (decode_as Form.phi t a k)
  phi_tested x first count fits p q r s = rw (p, s, q, r, counted) (sym (phi_range t a k))

  pub return_tested : (x : ℕ) → x ≡ row_left t a k → ltb x n ≡ in_range (decode_function t a) (decode_as Form.return t a k)
  return_tested x p = rw (p, counted) (sym (return_range t a k))

  module _ (blocks : ℕ) (numbered : blocks ≡ block_count t a) where
    pub branch_tested :
        (x y z : ℕ)
        → x ≡ row_left t a k
        → y ≡ jump_first t a k
        → z ≡ jump_second t a k
        → (ltb x n && ltb y blocks && ltb z blocks) ≡ in_range (decode_function t a) (decode_as Form.branch t a k)
    branch_tested x y z p q r = rw (p, q, r, counted, numbered) (sym (branch_range t a k))

pub jump_tested : (t : List ℕ) (a k blocks : ℕ) → blocks ≡ block_count t a → (x : ℕ) → x ≡ jump_first t a k
    → ltb x blocks ≡ in_range (decode_function t a) (decode_as Form.jump t a k)
jump_tested t a k blocks e x p = rw (p, e) (sym (jump_range t a k))

-- ---- a row in the form of its instruction

module _ (t : List ℕ) (a k op form : ℕ) (fetched : op ≡ row_op t a k) (formed : form ≡ form_number (form_of op)) where
  pub row_form : (g : Form) → form ≡ form_number g → form_of (row_op t a k) ≡ g
  row_form g e = ap form_of (sym fetched) ∙ form_is (form_of op) g formed e

  pub in_form : (g : Form) → form ≡ form_number g → (r : Bool) → r ≡ in_range (decode_function t a) (decode_as g t a k) → r ≡ in_range (decode_function t a) (decode_row t a k)
  unfolding decode_row
  in_form g e r p = rw (row_form g e) p

  pub in_nop : form ≡ 0 → true ≡ in_range (decode_function t a) (decode_row t a k)
  in_nop e = in_form Form.nop e true (nop_range t a k)

  pub in_leave : form ≡ 8 → true ≡ in_range (decode_function t a) (decode_row t a k)
  in_leave e = in_form Form.leave e true (leave_range t a k)

  pub in_no_form : None 9 form → false ≡ in_range (decode_function t a) (decode_row t a k)
  unfolding decode_row
  in_no_form r =
      let e : form_of (row_op t a k) ≡ Form.unknown = ap form_of (sym fetched) ∙ form_past (form_of op) formed (past 9 form r) in
      rw e (unknown_range t a k e)
