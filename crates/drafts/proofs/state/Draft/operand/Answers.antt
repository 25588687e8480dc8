-- `drafts::state::Draft::operand`: one case for each kind.
use mathlib.Core.Path.{refl}
use Rattle.language.specs.Instructions.{Operand}
use Rattle.drafts.proofs.Operands.{operand_told, operand_last}
use Rattle.drafts.proofs.state.Draft.operand.Goals as goal

pub returns-in-0 : goal.returns-in-0
returns-in-0 c o e = rw (operand_told o Operand.none e c.in-0.is) refl

pub returns-in-1 : goal.returns-in-1
returns-in-1 c o e = rw (operand_told o Operand.number e c.in-1.is) refl

pub returns-in-2 : goal.returns-in-2
returns-in-2 c o e = rw (operand_told o Operand.registers e c.in-2.is) refl

pub returns-in-3 : goal.returns-in-3
returns-in-3 c o e = rw (operand_told o Operand.block e c.in-3.is) refl

pub returns-in_default : goal.returns-in_default
returns-in_default c o e =
    let r = c.in_default.in_default-own.rest in
    rw (operand_last c.args.kind o e r.0.0.0.1 r.0.0.1 r.0.1 r.1) refl
