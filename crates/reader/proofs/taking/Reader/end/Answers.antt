-- `Reader::end`: the end of the text ends reading between functions, and is refused in one.
use mathlib.Core.Path.{refl, sym, ◌∙◌}
use Rattle.reader.proofs.Performing.{end_taken, end_refused}
use Rattle.reader.proofs.taking.Reader.end.Goals as goal

pub returns-then-is_top : goal.returns-then-is_top
returns-then-is_top c =
    let a = c.args in
    (λ x. end_taken a.«at» a.self x (sym c.is_top.ensures ∙ c.if-is_top.true), refl)

pub returns : goal.returns
returns c =
    let a = c.args in
    (λ x. end_refused a.«at» a.self x (sym c.is_top.ensures ∙ c.if-is_top.false), tt)
