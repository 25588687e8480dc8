-- `ial::c::ial_run_each` passes on what `run_each` answers.
use mathlib.Core.Path.{◌∙◌, ap}
use Rattle.language.specs.Answers.{Listed, verdict_numbers}
use Rattle.ial.proofs.c.ial_run_each.Goals as goal

pub returns : goal.returns
returns c =
    let e = c.run_each.ensures in
    (c.into.ensures ∙ ap (λ (x : Listed). verdict_numbers x.answer) e.0, ap (λ (x : Listed). x.numbers) e.0, e.1)
