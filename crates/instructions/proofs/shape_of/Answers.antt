-- `instructions::shape_of`: a single number by its own equation, a range by the law of its form.
use Rattle.instructions.proofs.ShapeLaws.{shape_load, shape_binary, shape_unary, shape_unknown}
use Rattle.instructions.specs.Shapes.{shape_of}
use Rattle.language.specs.Instructions.{form_of}
use mathlib.Core.Logic.{⊎_elim}
use mathlib.Core.Path.{◌∙◌, sym, ap}
use native.Mathlib.Omega.{arith}
use Rattle.instructions.proofs.shape_of.Goals as goal

pub returns-in-0 : goal.returns-in-0
unfolding shape_of form_of
returns-in-0 c = c.new.ensures ∙ ap shape_of (sym c.in-0.is)

pub returns-in-14 : goal.returns-in-14
unfolding shape_of form_of
returns-in-14 c = ⊎_elim (λ e. c.new-in-14.ensures ∙ ap shape_of (sym e)) (λ e. c.new-in-14.ensures ∙ ap shape_of (sym e)) c.in-14.is

pub returns-in-31 : goal.returns-in-31
unfolding shape_of form_of
returns-in-31 c = c.new-in-31.ensures ∙ ap shape_of (sym c.in-31.is)

pub returns-in-32 : goal.returns-in-32
unfolding shape_of form_of
returns-in-32 c = c.new-in-32.ensures ∙ ap shape_of (sym c.in-32.is)

pub returns-in-33 : goal.returns-in-33
unfolding shape_of form_of
returns-in-33 c = c.new-in-33.ensures ∙ ap shape_of (sym c.in-33.is)

pub returns-in-34 : goal.returns-in-34
unfolding shape_of form_of
returns-in-34 c = c.new-in-34.ensures ∙ ap shape_of (sym c.in-34.is)

pub returns-in-35 : goal.returns-in-35
unfolding shape_of form_of
returns-in-35 c = c.new-in-35.ensures ∙ ap shape_of (sym c.in-35.is)

pub returns-in-1-to-8 : goal.returns-in-1-to-8
unfolding shape_of form_of
returns-in-1-to-8 c = c.new-in-1-to-8.ensures ∙ sym (shape_load c.args.op c.in-1-to-8.in_default-own.rest (omega arith))

pub returns-in-9-to-28 : goal.returns-in-9-to-28
unfolding shape_of form_of
returns-in-9-to-28 c = c.new-in-9-to-28.ensures ∙ sym (shape_binary c.args.op c.in-9-to-28.in_default-own.rest (omega arith) (omega arith))

pub returns-in-29-to-30 : goal.returns-in-29-to-30
unfolding shape_of form_of
returns-in-29-to-30 c = c.new-in-29-to-30.ensures ∙ sym (shape_unary c.args.op c.in-29-to-30.in_default-own.rest (omega arith) (omega arith))

pub returns-in_default : goal.returns-in_default
unfolding shape_of form_of
returns-in_default c = c.new-in_default.ensures ∙ sym (shape_unknown c.args.op c.in_default.in_default-own.rest (omega arith))
