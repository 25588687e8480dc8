-- `with_tablet`: a number up to the first tab, then the reading.
use mathlib.Core.Path.{refl, ◌∙◌}
use Rattle.merge_lines.specs.Lines.{with_reading}
use Rattle.merge_lines.proofs.ToldLaws.{ends, outside, goes_on}
use Rattle.merge_lines.proofs.told.with_tablet.Goals as goal

pub returns-in_err-t : goal.returns-in_err-t
returns-in_err-t c =
    let s = c.args in
    c.from_residual.ensures ∙ ends (with_reading s.appliance s.time) s.rest.now c.in_err-t.ensures.place (λ n. refl) refl

pub returns-in_err-tablet : goal.returns-in_err-tablet
returns-in_err-tablet c =
    let s = c.args in
    c.from_residual-in_err-tablet.ensures ∙ outside (with_reading s.appliance s.time) s.rest.now c.in_ok-t.ensures.place c.in_ok-t.ensures.within c.number.ensures c.in_err-tablet.was

pub returns : goal.returns
returns c =
    let s = c.args in
    goes_on (with_reading s.appliance s.time) s.rest.now c.in_ok-t.ensures.place c.in_ok-t.ensures.within c.number.ensures c.in_ok-tablet.was c.with_reading.ensures
