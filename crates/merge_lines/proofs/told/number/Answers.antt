-- `number`: what the word says, in the type's range.
use mathlib.Core.Path.{ap, ◌∙◌}
use Rattle.decimal.specs.Meanings.{bits_from}
use Rattle.merge_lines.specs.Lines.{number_in}
use Rattle.merge_lines.proofs.told.number.Goals as goal

pub returns : goal.returns
unfolding number_in
returns c = c.bits_from.ensures ∙ ap (bits_from c.args.kind) c.read_decimal.ensures
