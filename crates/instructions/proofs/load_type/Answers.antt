-- `instructions::load_type` computes the definition; number 0, of no load, has no number before it.
use mathlib.Core.Path.{refl, sym, ap}
use Rattle.language.specs.Instructions.{load_type}
use Rattle.instructions.proofs.load_type.Goals as goal

pub returns-then-op-eq-NOP : goal.returns-then-op-eq-NOP
unfolding load_type
returns-then-op-eq-NOP c = ap load_type (sym c.if-op-eq-NOP.true)

pub returns : goal.returns
unfolding load_type
returns c = refl
