-- `with_time`: a number up to the first tab, then the tablet.
use mathlib.Core.Path.{refl, ◌∙◌}
use Rattle.merge_lines.specs.Lines.{with_tablet}
use Rattle.merge_lines.proofs.ToldLaws.{ends, outside, goes_on}
use Rattle.merge_lines.proofs.told.with_time.Goals as goal

pub returns-in_err-t : goal.returns-in_err-t
returns-in_err-t c =
    let s = c.args in
    c.from_residual.ensures ∙ ends (with_tablet s.appliance) s.rest.now c.in_err-t.ensures.place (λ n. refl) refl

pub returns-in_err-time : goal.returns-in_err-time
returns-in_err-time c =
    let s = c.args in
    c.from_residual-in_err-time.ensures ∙ outside (with_tablet s.appliance) s.rest.now c.in_ok-t.ensures.place c.in_ok-t.ensures.within c.number.ensures c.in_err-time.was

pub returns : goal.returns
returns c =
    let s = c.args in
    goes_on (with_tablet s.appliance) s.rest.now c.in_ok-t.ensures.place c.in_ok-t.ensures.within c.number.ensures c.in_ok-time.was c.with_tablet.ensures
