-- `ial::c::ial_write` passes on what `write` answers.
use mathlib.Core.Path.{◌∙◌, ap}
use Rattle.language.specs.Answers.{Shown, wrote_numbers}
use Rattle.ial.proofs.c.ial_write.Goals as goal

pub returns : goal.returns
returns c =
    let e = c.write.ensures in
    (c.into.ensures ∙ ap (λ (x : Shown). wrote_numbers x.answer) e, ap (λ (x : Shown). x.buffer) e)
