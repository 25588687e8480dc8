-- `ial::c::ial_read` passes on what `read` answers.
use mathlib.Core.Path.{◌∙◌, ap}
use Rattle.language.specs.Answers.{Filled, verdict_numbers}
use Rattle.ial.proofs.c.ial_read.Goals as goal

pub returns : goal.returns
returns c =
    let e = c.read.ensures in
    (c.into.ensures ∙ ap (λ (x : Filled). verdict_numbers x.answer) e, ap (λ (x : Filled). x.table) e)
