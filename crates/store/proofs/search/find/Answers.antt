-- `store::find` meets its contract: a record of the appliance stands at its place, or nowhere. Assumes nothing.
use mathlib.Core.Path.{sym, ◌∙◌}
use Rattle.store.proofs.Finding.{looked_there, looked_nowhere}
use Rattle.store.proofs.search.find.Goals as goal

pub returns-then-stands : goal.returns-then-stands
returns-then-stands c =
    looked_there _ _ _ _ c.count-n.ensures.0 c.place-p.ensures (sym c.stands.ensures ∙ c.if-stands.true)

pub returns : goal.returns
returns c =
    looked_nowhere _ _ _ _ c.count-n.ensures.0 c.place-p.ensures (sym c.stands.ensures ∙ c.if-stands.false)
