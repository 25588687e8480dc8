-- `merge_store`: what joining did, in numbers.
use mathlib.Core.Path.{refl, subst⁻¹}
use lib.Dec.{eqb}
use lib.ListN.{length}
use borrow.Author.Tests.{eq-eqb, ne_eqb}
use Rattle.records.specs.Stores.{store_length}
use Rattle.records.specs.Answers.{StoreJoined}
use Rattle.merge.proofs.Told.{both_right, first_wrong, second_wrong, told_kept, joined_kept}
use Rattle.merge.proofs.merging.merge_store.Goals as goal

pub returns-then-store-ne-STORE_LENGTH : goal.returns-then-store-ne-STORE_LENGTH
returns-then-store-ne-STORE_LENGTH c =
    first_wrong c.args.store.now (StoreJoined c.args.other.now c.args.store.now) _ (eqb (length c.args.other.now) store_length) c.if-store-ne-STORE_LENGTH.true refl

pub returns-then-other-ne-STORE_LENGTH : goal.returns-then-other-ne-STORE_LENGTH
returns-then-other-ne-STORE_LENGTH c =
    second_wrong c.args.store.now (StoreJoined c.args.other.now c.args.store.now) _ (eqb (length c.args.other.now) store_length) c.if-store-ne-STORE_LENGTH.false
    (ne_eqb (length c.args.other.now) store_length c.if-other-ne-STORE_LENGTH.true) refl

pub returns : goal.returns
returns c =
    let P = StoreJoined c.args.other.now c.args.store.now in
    both_right c.args.store.now P _ (eqb (length c.args.other.now) store_length) c.if-store-ne-STORE_LENGTH.false
    (eq-eqb (length c.args.other.now) store_length c.if-other-ne-STORE_LENGTH.false)
    (subst⁻¹ P (told_kept c.join.result c.done.result _ c.done.ensures)
    (joined_kept c.args.store.now c.args.other.now c.join.result c.join.new.s c.join.auto.s c.join.ensures))
