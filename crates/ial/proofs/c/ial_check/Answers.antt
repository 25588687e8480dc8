-- `ial::c::ial_check` passes on what `check` answers.
use mathlib.Core.Path.{◌∙◌, ap}
use Rattle.language.specs.Answers.{verdict_numbers}
use Rattle.ial.proofs.c.ial_check.Goals as goal

pub returns : goal.returns
returns c = c.into.ensures ∙ ap verdict_numbers c.check.ensures
