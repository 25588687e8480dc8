-- `store::put_over` meets its contract: the newcomer is written where it wins. Assumes nothing.
use mathlib.Core.Path.{refl, sym, ◌∙◌, ap}
use Rattle.laws.proofs.Branches.{by_true, by_false}
use Rattle.records.specs.Records.{wins}
use Rattle.store.specs.Inserting.{over_at}
use Rattle.store.proofs.inserting.put_over.Goals as goal

pub returns-then-beats : goal.returns-then-beats
unfolding over_at
returns-then-beats c =
    by_true _ _ _ _
    (ap (λ e. wins c.args.r e) (sym c.record_at-e.ensures)
    ∙ sym c.beats.ensures ∙ c.if-beats.true)
    c.put_record.ensures

pub returns-else-beats : goal.returns-else-beats
unfolding over_at
returns-else-beats c =
    by_false _ _ _ _
    (ap (λ e. wins c.args.r e) (sym c.record_at-e.ensures)
    ∙ sym c.beats.ensures ∙ c.if-beats.false)
    refl
