-- `line_numbers`: a number up to the first tab, then the time.
use mathlib.Core.Path.{refl, ◌∙◌}
use Rattle.merge_lines.specs.Lines.{with_time, line_of}
use Rattle.merge_lines.proofs.ToldLaws.{ends, outside, goes_on}
use Rattle.merge_lines.proofs.told.line_numbers.Goals as goal

pub returns-in_err-t : goal.returns-in_err-t
unfolding line_of
returns-in_err-t c =
    let s = c.args in
    c.from_residual.ensures ∙ ends with_time s.line.now c.in_err-t.ensures.place (λ n. refl) refl

pub returns-in_err-appliance : goal.returns-in_err-appliance
unfolding line_of
returns-in_err-appliance c =
    let s = c.args in
    c.from_residual-in_err-appliance.ensures ∙ outside with_time s.line.now c.in_ok-t.ensures.place c.in_ok-t.ensures.within c.number.ensures c.in_err-appliance.was

pub returns : goal.returns
unfolding line_of
returns c =
    let s = c.args in
    goes_on with_time s.line.now c.in_ok-t.ensures.place c.in_ok-t.ensures.within c.number.ensures c.in_ok-appliance.was c.with_time.ensures
