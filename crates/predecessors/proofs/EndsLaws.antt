-- The blocks that a block's last row names, by the row's cells.
-- Assumes nothing.
use mathlib.Core.Path.{◌≡◌, refl, sym, ap, ◌∙◌}
use mathlib.Core.Bool.{Bool, ◌||◌, or-false, or_self}
use mathlib.Core.List.{List, [], ◌∷◌}
use Prim.Native.Nat.{ℕ, ◌+◌, ◌-◌, ◌<◌}
use native.Mathlib.Omega.{arith}
use lib.Dec.{eqb}
use borrow.Author.Tests.{ne_eqb}
use lib.ListN.{length}
use Rattle.laws.specs.Lists.{member}
use Rattle.language.specs.Instructions.{Form, form_of, jump_op, jump_cond_op}
use Rattle.language.specs.Programs.{Func, Row, rows_at, named_by, max_blocks}
use Rattle.language.specs.Table.{block_count, block_first, block_rows, row_op, jump_first, jump_second, decode_as, decode_row, decode_function}
use Rattle.language.specs.Checking.{last_row, goes_to}
use Rattle.language.proofs.FormLaws.{jump_number, branch_number}
use Rattle.language.proofs.TableView.{block_rows_count, block_row_is}
use Rattle.theorems.proofs.SimulationRows.{last_row_at}
use Rattle.predecessors.specs.Ends.{GoesOn}

-- ---- the blocks that a row names

module _ (t : List ℕ) (a k op : ℕ) (fetched : op ≡ row_op t a k) where
  named_as : (g : Form) → form_of op ≡ g → named_by (decode_row t a k) ≡ named_by (decode_as g t a k)
  unfolding decode_row
  named_as g e = ap (λ g. named_by (decode_as g t a k)) (ap form_of (sym fetched) ∙ e)

  pub jump_names : op ≡ jump_op → named_by (decode_row t a k) ≡ jump_first t a k ∷ []
  unfolding form_of decode_as
  jump_names e = named_as Form.jump (ap form_of e)

  pub branch_names : op ≡ jump_cond_op → named_by (decode_row t a k) ≡ jump_first t a k ∷ jump_second t a k ∷ []
  unfolding form_of decode_as
  branch_names e = named_as Form.branch (ap form_of e)

  others_name : (op ≡ jump_op → ⊥) → (op ≡ jump_cond_op → ⊥) → named_by (decode_row t a k) ≡ []
  unfolding decode_as
  others_name n o = by (form_of op) refl
    where
      by : (g : Form) → form_of op ≡ g → named_by (decode_row t a k) ≡ []
      by Form.nop e = named_as Form.nop e
      by Form.load e = named_as Form.load e
      by Form.unary e = named_as Form.unary e
      by Form.binary e = named_as Form.binary e
      by Form.phi e = named_as Form.phi e
      by Form.jump e = absurd (n (jump_number op e))
      by Form.branch e = absurd (o (branch_number op e))
      by Form.return e = named_as Form.return e
      by Form.leave e = named_as Form.leave e
      by Form.unknown e = named_as Form.unknown e

-- ---- the blocks that a block goes to, by those its last row names; 255 is none

module _ (f : Func) (x : ℕ) where
  abbrev named : List ℕ
  named = named_by (last_row (rows_at f x))

  -- a number of no block is told from every block
  nowhere : (b : Bool) (y : ℕ) → y < max_blocks → (b || eqb 255 y) ≡ b
  nowhere b y l = ap (λ c. b || c) (ne_eqb 255 y (λ e. omega arith)) ∙ or-false b

  goes_nowhere : named ≡ [] → GoesOn f x 255 255
  unfolding goes_to
  goes_nowhere e =
      record {
        goes = λ y l. ap (member y) e ∙ sym (nowhere (eqb 255 y) y l ∙ ne_eqb 255 y (λ d. omega arith));
        once = λ l. absurd (omega arith);
      }

  goes_once : (y : ℕ) (ys : List ℕ) → named ≡ ys → ((z : ℕ) → member z ys ≡ eqb y z) → GoesOn f x y 255
  unfolding goes_to
  goes_once y ys e h = record { goes = λ z l. ap (member z) e ∙ h z ∙ sym (nowhere (eqb y z) z l); once = λ l d. omega arith }

  goes_both : (y z : ℕ) → named ≡ y ∷ z ∷ [] → (y ≡ z → ⊥) → GoesOn f x y z
  unfolding goes_to
  goes_both y z e d = record { goes = λ u l. ap (member u) e ∙ ap (λ c. eqb y u || c) (or-false (eqb z u)); once = λ l. d }

last_none : (xs : List Row) → length xs ≡ 0 → last_row xs ≡ Row.nop
last_none [] e = refl
last_none (r ∷ rs) e = absurd (omega arith)

-- ---- the same of what the code has at hand

module _ (t : List ℕ) (a x : ℕ) (l : x < block_count t a) (rows : ℕ) (q : rows ≡ block_rows t a x) where
  abbrev f : Func
  f = decode_function t a

  pub bare_goes : rows ≡ 0 → GoesOn f x 255 255
  bare_goes z = goes_nowhere f x (ap named_by (last_none (rows_at f x) (block_rows_count t a x l ∙ sym q ∙ z)))

  module _ (first : ℕ) (p : first ≡ block_first t a x) (z : rows ≡ 0 → ⊥) where
    pub last_named : named f x ≡ named_by (decode_row t a (first + rows - 1))
    last_named =
        let n : ℕ = rows - 1 in
        let d : block_first t a x + n ≡ first + rows - 1 = omega arith in
        ap named_by (last_row_at (rows_at f x) n (omega (arith, block_rows_count t a x l)) ∙ block_row_is t a x l n (omega arith))
        ∙ ap (λ k. named_by (decode_row t a k)) d

    module _ (op : ℕ) (fetched : op ≡ row_op t a (first + rows - 1)) where
      pub jump_goes : (y : ℕ) → op ≡ jump_op → y ≡ jump_first t a (first + rows - 1) → GoesOn f x y 255
      jump_goes y e u =
          goes_once f x y (y ∷ []) (last_named ∙ jump_names t a (first + rows - 1) op fetched e ∙ ap (λ y. y ∷ []) (sym u))
          (λ z. or-false (eqb y z))

      pub other_goes : (op ≡ jump_op → ⊥) → (op ≡ jump_cond_op → ⊥) → GoesOn f x 255 255
      other_goes n o = goes_nowhere f x (last_named ∙ others_name t a (first + rows - 1) op fetched n o)

      branch_named :
          (y z : ℕ) → op ≡ jump_cond_op → y ≡ jump_first t a (first + rows - 1) → z ≡ jump_second t a (first + rows - 1) → named f x ≡ y ∷ z ∷ []
      branch_named y z e u v = last_named ∙ branch_names t a (first + rows - 1) op fetched e ∙ rw (u, v)

      -- "each once"
      pub twice_goes :
          (y z : ℕ) → op ≡ jump_cond_op → y ≡ jump_first t a (first + rows - 1) → z ≡ jump_second t a (first + rows - 1) → y ≡ z → GoesOn f x y 255
      twice_goes y z e u v d =
          goes_once f x y (y ∷ z ∷ []) (branch_named y z e u v) (λ w. ap (λ c. eqb y w || c) (or-false (eqb z w)) ∙ rw (sym d) (or_self (eqb y w)))

      pub branch_goes :
          (y z : ℕ) → op ≡ jump_cond_op → y ≡ jump_first t a (first + rows - 1) → z ≡ jump_second t a (first + rows - 1) → (y ≡ z → ⊥) → GoesOn f x y z
      branch_goes y z e u v d = goes_both f x y z (branch_named y z e u v) d
