-- `with_reading`: no tab may follow, and the number fits.
use mathlib.Core.Path.{refl, sym, ◌∙◌}
use Rattle.merge_lines.proofs.ToldLaws.{tab_found, tab_missing, too_many, reads_outside, reads}
use Rattle.merge_lines.proofs.told.with_reading.Goals as goal

pub returns-then-is_some : goal.returns-then-is_some
returns-then-is_some c =
    let s = c.args in
    let f = c.first.ensures in
    too_many s.appliance s.time s.tablet s.rest.now refl (tab_found c.first.result f.place f.within c.if-is_some.ensures)

pub returns-in_err-reading : goal.returns-in_err-reading
returns-in_err-reading c =
    let s = c.args in
    c.from_residual.ensures
    ∙ reads_outside s.appliance s.time s.tablet s.rest.now refl (tab_missing c.first.result c.first.ensures.place c.if-is_some.ensures)
    (sym c.number.ensures ∙ c.in_err-reading.was)

pub returns : goal.returns
returns c =
    let s = c.args in
    reads s.appliance s.time s.tablet s.rest.now refl (tab_missing c.first.result c.first.ensures.place c.if-is_some.ensures)
    (sym c.number.ensures ∙ c.in_ok-reading.was)
