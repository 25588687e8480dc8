-- `put`: what inserting did, in numbers.
use mathlib.Core.Path.{refl, subst⁻¹}
use Rattle.records.specs.Stores.{insert}
use Rattle.records.specs.Answers.{Kept}
use Rattle.merge.proofs.Told.{lent_right, lent_wrong, told_kept}
use Rattle.merge.proofs.merging.put.Goals as goal

pub returns-then-store-ne-STORE_LENGTH : goal.returns-then-store-ne-STORE_LENGTH
returns-then-store-ne-STORE_LENGTH c =
    lent_wrong c.args.store.now (Kept c.args.store.now (insert c.args.r)) _ c.if-store-ne-STORE_LENGTH.true refl

pub returns : goal.returns
returns c =
    let P = Kept c.args.store.now (insert c.args.r) in
    lent_right c.args.store.now P _ c.if-store-ne-STORE_LENGTH.false
    (subst⁻¹ P (told_kept c.insert.result c.done.result _ c.done.ensures) c.insert.ensures)
