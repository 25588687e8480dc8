-- `ial::c::ial_run` passes on what `run` answers.
use mathlib.Core.Path.{◌∙◌, ap}
use Rattle.language.specs.Answers.{Finished, ran_numbers}
use Rattle.ial.proofs.c.ial_run.Goals as goal

pub returns : goal.returns
returns c =
    let e = c.run.ensures in
    (c.into.ensures ∙ ap (λ (x : Finished). ran_numbers x.answer) e, ap (λ (x : Finished). x.registers) e)
