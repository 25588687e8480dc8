-- `row_text::operands::put_operand`: by the kind's number.
use mathlib.Core.Path.{◌≡◌, sym, ap, ◌∙◌}
use Prim.Native.Nat.{ℕ, ◌≤◌}
use native.Mathlib.Omega.{arith}
use Rattle.laws.proofs.Matches.{past}
use Rattle.language.specs.Table.{row_op}
use Rattle.instructions.specs.Shapes.{shape_of}
use Rattle.page.specs.Page.{puts}
use Rattle.token_text.specs.Spaced.{spaced}
use Rattle.token_text.proofs.Spelled.{puts_none}
use Rattle.row_text.specs.Ready.{operand_tokens}
use Rattle.row_text.proofs.Shapes.{few}
use Rattle.row_text.proofs.operands.put_operand.Goals as goal

-- the kind that is none of the smaller ones
last : (n k : ℕ) → k ≡ (shape_of n).operand → 4 ≤ k → 4 ≡ k
last n k e h = let l = (few n).1 in omega arith

pub put_load-requires : goal.put_load-requires
put_load-requires c = (c.requires.0, c.requires.1, sym c.requires.2 ∙ c.in-1.is)

pub put_phi-requires : goal.put_phi-requires
put_phi-requires c = (c.requires.0, c.requires.1, sym c.requires.2 ∙ c.in-2.is)

pub put_jump-requires : goal.put_jump-requires
put_jump-requires c = (c.requires.0, c.requires.1, sym c.requires.2 ∙ c.in-3.is)

pub put_branch-requires : goal.put_branch-requires
put_branch-requires c =
    let x = c.args in
    (c.requires.0, c.requires.1, sym c.requires.2 ∙ sym (last (row_op x.t.now x.a x.r) x.kind c.requires.2 (past 4 x.kind c.in_default.in_default-own.rest)))

pub returns-in-0 : goal.returns-in-0
returns-in-0 c =
    let x = c.args in
    puts_none _ ∙ ap (puts _) (ap (λ (k : ℕ). spaced (operand_tokens x.t.now x.a x.r k)) (sym c.in-0.is))

pub returns-in-1 : goal.returns-in-1
returns-in-1 c =
    let x = c.args in
    c.put_load.ensures ∙ ap (puts _) (ap (λ (k : ℕ). spaced (operand_tokens x.t.now x.a x.r k)) (sym c.in-1.is))

pub returns-in-2 : goal.returns-in-2
returns-in-2 c =
    let x = c.args in
    c.put_phi.ensures ∙ ap (puts _) (ap (λ (k : ℕ). spaced (operand_tokens x.t.now x.a x.r k)) (sym c.in-2.is))

pub returns-in-3 : goal.returns-in-3
returns-in-3 c =
    let x = c.args in
    c.put_jump.ensures ∙ ap (puts _) (ap (λ (k : ℕ). spaced (operand_tokens x.t.now x.a x.r k)) (sym c.in-3.is))

pub returns-in_default : goal.returns-in_default
returns-in_default c =
    let x = c.args in
    c.put_branch.ensures
    ∙ ap (puts _) (ap (λ (k : ℕ). spaced (operand_tokens x.t.now x.a x.r k)) (last (row_op x.t.now x.a x.r) x.kind c.requires.2 (past 4 x.kind c.in_default.in_default-own.rest)))
