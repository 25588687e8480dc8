-- The parts of a row, by what its instruction looks like. Assumes nothing.
use mathlib.Core.Bool.{cond}
use mathlib.Core.List.{List, [], ◌∷◌}
use mathlib.Core.Path.{◌≡◌, refl}
use Prim.Native.Nat.{ℕ, ◌≤◌}
use native.Mathlib.Omega.{arith}
use lib.ListN.{take}
use Rattle.language.specs.Instructions.{Form, form_of, source_count, operand_of}
use Rattle.language.specs.Programs.{targets_of, sources_of}
use Rattle.language.specs.Table.{row_op, row_target, row_left, row_right, decode_as, decode_row}
use Rattle.language.specs.Writing.{operand_part}
use Rattle.language.proofs.TableView.{targets_as, sources_as}
use Rattle.instructions.specs.Shapes.{operand_number, shape_of}
use Rattle.row_text.specs.Ready.{titled, operand_tokens}

module _ (t : List ℕ) (a r : ℕ) where
  pub targets_are : targets_of (decode_row t a r) ≡ cond (shape_of (row_op t a r)).target (row_target t a r ∷ []) []
  unfolding decode_row shape_of
  targets_are = targets_as t a r (form_of (row_op t a r))

  pub sources_are : sources_of (decode_row t a r) ≡ take (shape_of (row_op t a r)).sources (row_left t a r ∷ row_right t a r ∷ [])
  unfolding decode_row shape_of
  sources_are = sources_as t a r (form_of (row_op t a r))

  operand_as : (g : Form) → operand_tokens t a r (operand_number (operand_of g)) ≡ operand_part (titled t a) (decode_as g t a r)
  unfolding decode_as
  operand_as Form.nop = refl
  operand_as Form.load = refl
  operand_as Form.unary = refl
  operand_as Form.binary = refl
  operand_as Form.phi = refl
  operand_as Form.jump = refl
  operand_as Form.branch = refl
  operand_as Form.return = refl
  operand_as Form.leave = refl
  operand_as Form.unknown = refl

  pub operand_is : operand_tokens t a r (shape_of (row_op t a r)).operand ≡ operand_part (titled t a) (decode_row t a r)
  unfolding decode_row shape_of
  operand_is = operand_as (form_of (row_op t a r))

few_as : (g : Form) → (source_count g ≤ 2) × (operand_number (operand_of g) ≤ 4)
few_as Form.nop = (omega arith, omega arith)
few_as Form.load = (omega arith, omega arith)
few_as Form.unary = (omega arith, omega arith)
few_as Form.binary = (omega arith, omega arith)
few_as Form.phi = (omega arith, omega arith)
few_as Form.jump = (omega arith, omega arith)
few_as Form.branch = (omega arith, omega arith)
few_as Form.return = (omega arith, omega arith)
few_as Form.leave = (omega arith, omega arith)
few_as Form.unknown = (omega arith, omega arith)

-- at most two sources, and five kinds of operand
pub few : (n : ℕ) → ((shape_of n).sources ≤ 2) × ((shape_of n).operand ≤ 4)
unfolding shape_of
few n = few_as (form_of n)
