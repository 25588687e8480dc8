-- The form is a field of the shape.
use Rattle.instructions.specs.Shapes.{shape_of}
use mathlib.Core.Path.{ap}
use Rattle.rules.proofs.ranges.form_of.Goals as goal

pub returns : goal.returns
unfolding shape_of
returns c = ap (λ s. s.form) c.shape_of-shape.ensures
