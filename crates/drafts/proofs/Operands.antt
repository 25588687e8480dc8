-- The cells that go by the shape of an instruction are those that go by its form.
-- Assumes nothing.
use mathlib.Core.Bool.{cond}
use mathlib.Core.Path.{◌≡◌, refl, sym, ap, ◌∙◌}
use mathlib.Core.List.{List, [], ◌∷◌}
use Prim.Native.Nat.{ℕ, ◌%◌, ◌<◌}
use native.Mathlib.Nat.{mod-eq_of_lt}
use native.Mathlib.Omega.{arith}
use lib.Dec.{ltb}
use lib.ListN.{get_or, get_or-eq_default}
use lib.Seq.{sets}
use Rattle.language.specs.Instructions.{Operand, form_of, operand_of}
use Rattle.language.specs.Table.{eight_bytes}
use Rattle.instructions.specs.Shapes.{shape_of, operand_number}
use Rattle.instructions.specs.declared.Shape.{Shape}
use Rattle.drafts.specs.State.{operand_at, row_at}
use Rattle.drafts.specs.declared.state.Draft.{Draft}

-- an operand's kind by its number
abbrev numbered : ℕ → Operand
numbered k = get_or (Operand.none ∷ Operand.number ∷ Operand.registers ∷ Operand.block ∷ []) k Operand.blocks

numbered_as : (o : Operand) → numbered (operand_number o) ≡ o
numbered_as Operand.none = refl
numbered_as Operand.number = refl
numbered_as Operand.registers = refl
numbered_as Operand.block = refl
numbered_as Operand.blocks = refl

pub operand_told : {k : ℕ} (o o' : Operand) → k ≡ operand_number o → k ≡ operand_number o' → o ≡ o'
operand_told o o' e f = sym (numbered_as o) ∙ ap numbered (sym e ∙ f) ∙ numbered_as o'

-- the last is none of the others
pub operand_last : (k : ℕ) (o : Operand) → k ≡ operand_number o → (k ≡ 0 → ⊥) → (k ≡ 1 → ⊥) → (k ≡ 2 → ⊥) → (k ≡ 3 → ⊥) → o ≡ Operand.blocks
operand_last k o e a b c d =
    sym (numbered_as o)
    ∙ ap numbered (sym e)
    ∙ get_or-eq_default (Operand.none ∷ Operand.number ∷ Operand.registers ∷ Operand.block ∷ []) Operand.blocks {n = k} (omega arith)

pub row_put : (s : Draft) (u : List ℕ) (k : ℕ) → s.parts.op < 256 → {i : ℕ} → i ≡ s.parts.op % 256 → {x : Shape} → x ≡ shape_of i → {t l r o : ℕ}
    → t ≡ cond x.target s.parts.target 0 → l ≡ cond (ltb 0 x.sources) s.parts.left 0 → r ≡ cond (ltb 1 x.sources) s.parts.right 0
    → ((y : Operand) → x.operand ≡ operand_number y → o ≡ operand_at y s) → {u' : List ℕ} → u' ≡ sets u k (i ∷ t ∷ l ∷ r ∷ eight_bytes o)
    → u' ≡ sets u k (row_at s)
unfolding shape_of
row_put s u k small {i} low {x} e {t} {l} {r} {o} et el er eo put = put ∙ ap (λ (v : List ℕ). sets u k v) row
  where
    is : i ≡ s.parts.op
    is = low ∙ mod-eq_of_lt small

    shape : x ≡ shape_of s.parts.op
    shape = e ∙ ap shape_of is

    row : i ∷ t ∷ l ∷ r ∷ eight_bytes o ≡ row_at s
    row = rw (eo (operand_of (form_of s.parts.op)) (ap (λ (y : Shape). y.operand) shape), et, el, er, shape, is)
