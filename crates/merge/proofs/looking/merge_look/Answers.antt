-- `merge_look`: the place that is found, told; 22 for another length.
use Rattle.records.specs.Answers.{Looked, LookedIn}
use Rattle.store.specs.Places.{looked_at}
use Rattle.merge.proofs.LookingLaws.{lent_look, lent_other}
use Rattle.merge.proofs.looking.merge_look.Goals as goal

pub returns-then-store-ne-STORE_LENGTH : goal.returns-then-store-ne-STORE_LENGTH
returns-then-store-ne-STORE_LENGTH c =
    (Looked.refused 22, (lent_other c.args.store.now (LookedIn c.args.store.now c.args.appliance) c.if-store-ne-STORE_LENGTH.true, c.nothing.ensures))

pub returns : goal.returns
returns c =
    let l = Looked.looked (looked_at c.args.store.now c.find.result) in
    (l, (lent_look c.args.store.now (LookedIn c.args.store.now c.args.appliance) l c.if-store-ne-STORE_LENGTH.false c.find.ensures, c.told.ensures))
