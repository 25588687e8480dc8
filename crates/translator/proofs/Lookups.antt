-- What the lookups return: each way is a case of its definition.
-- Assumes nothing.
use mathlib.Core.Path.{◌≡◌, refl, sym, ap₂, ◌∙◌}
use mathlib.Core.Bool.{cond}
use mathlib.Core.List.{List, ◌∷◌}
use Prim.Native.Nat.{ℕ, ◌+◌, ◌*◌, ◌<◌}
use native.Mathlib.Omega.{arith}
use lib.Dec.{eqb, ltb, lit<}
use lib.ListN.{length, get_or}
use lib.Seq.{sets}
use borrow.Author.Tests.{ne_eqb}
use Rattle.laws.specs.Lists.{position}
use Rattle.laws.proofs.Branches.{by_eq, by_ne}
use Rattle.language.specs.Table.{eight_bytes, row_op, row_target, row_left, row_right, load_number, jump_first, jump_second, predecessor_count, stored_predecessors, InTable}
use Rattle.flow.specs.Layout.{phis_in}
use Rattle.instructions.specs.Shapes.{shape_of, operand_number}
use Rattle.instructions.specs.declared.Shape.{Shape}
use Rattle.language.proofs.TableView.{stored_count}
use Rattle.translator.specs.Source.{pairs_in, renamed_as, kept_operand, kept_cells}
use Rattle.language.specs.Programs.{max_blocks}
use Rattle.language.specs.Instructions.{Operand}

module _ (t : List ℕ) (a : ℕ) (m : List ℕ) (b n : ℕ) (e : n ≡ phis_in m b) where
  pub pairs_none : n ≡ 0 → (0 ≡ pairs_in t a m b) × (0 < 65536)
  pairs_none z = (by_eq 0 0 (length (stored_predecessors t a b)) (phis_in m b) 0 (sym e ∙ z) refl, lit< tt)

  pub pairs_some : (n ≡ 0 → ⊥) → InTable t a → b < max_blocks → {r : ℕ} → r ≡ predecessor_count t a b → r < 256 → (r ≡ pairs_in t a m b) × (r < 65536)
  pairs_some z h l {r} p k =
      (by_ne r 0 (length (stored_predecessors t a b)) (phis_in m b) 0 (λ q. z (e ∙ q)) (p ∙ sym (stored_count t a h b l (omega arith))), omega arith)

module _ (t : List ℕ) (a : ℕ) (m plan : List ℕ) (x y n : ℕ) (e : n ≡ phis_in m y) where
  abbrev place : ℕ
  place = position (λ z. eqb z x) (stored_predecessors t a y)

  pub renamed_not : n ≡ 0 → y < max_blocks → (y ≡ renamed_as t a m plan x y) × (y < 131072)
  unfolding renamed_as
  renamed_not z l = (by_eq y y (get_or plan y 0 + place) (phis_in m y) 0 (sym e ∙ z) refl, omega arith)

  pub renamed_so : (n ≡ 0 → ⊥) → (p q : ℕ) → p ≡ get_or plan y 0 → p < 65536 → q ≡ place → q < 256
      → (p + q ≡ renamed_as t a m plan x y) × (p + q < 131072)
  unfolding renamed_as
  renamed_so z p q ep lp eq lq =
      (by_ne (p + q) y (get_or plan y 0 + place) (phis_in m y) 0 (λ w. z (e ∙ w)) (ap₂ (λ u v. u + v) ep eq), omega arith)

-- ---- an operand by its kind

module _ (t : List ℕ) (a : ℕ) (m plan : List ℕ) (x r kind : ℕ) where
  pub of_load : kind ≡ 1 → {n : ℕ} → n ≡ load_number t a r → n ≡ kept_operand t a m plan x r kind
  unfolding kept_operand
  of_load z e = rw z e

  pub of_block : kind ≡ 3 → {y n : ℕ} → y ≡ jump_first t a r → n ≡ renamed_as t a m plan x y → n ≡ kept_operand t a m plan x r kind
  unfolding kept_operand
  of_block z d e = rw (z, ← d) e

  pub of_blocks : kind ≡ 4 → {y u w v : ℕ} → y ≡ jump_first t a r → u ≡ renamed_as t a m plan x y → w ≡ jump_second t a r → v ≡ renamed_as t a m plan x w
      → u + 256 * v ≡ kept_operand t a m plan x r kind
  unfolding kept_operand
  of_blocks z d e d' e' = rw (z, ← d, ← d', ← e, ← e')

  pub of_none : (kind ≡ 1 → ⊥) → (kind ≡ 3 → ⊥) → (kind ≡ 4 → ⊥) → 0 ≡ kept_operand t a m plan x r kind
  unfolding kept_operand
  of_none a b c = rw (ne_eqb kind (operand_number Operand.number) a, ne_eqb kind (operand_number Operand.block) b, ne_eqb kind (operand_number Operand.blocks) c)

-- the cells of a kept row, from what the calls gave
module _ (t : List ℕ) (a : ℕ) (m plan : List ℕ) (x r : ℕ) where
  pub row_kept : {op target left right last : ℕ} {s : Shape} (out next : List ℕ) (k : ℕ) → op ≡ row_op t a r → s ≡ shape_of op
      → target ≡ cond s.target (row_target t a r) 0 → left ≡ cond (ltb 0 s.sources) (row_left t a r) 0
      → right ≡ cond (ltb 1 s.sources) (row_right t a r) 0 → last ≡ kept_operand t a m plan x r s.operand
      → next ≡ sets out k (op ∷ target ∷ left ∷ right ∷ eight_bytes last) → next ≡ sets out k (kept_cells t a m plan x r)
  unfolding kept_cells
  row_kept out next k eo es et el er e n = rw (← eo, ← es, ← et, ← el, ← er, ← e) n
