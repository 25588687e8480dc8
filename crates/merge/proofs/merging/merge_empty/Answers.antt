-- `merge_empty`: all zero is the empty store.
use Rattle.merge.proofs.Told.{told_empty, told_other}
use Rattle.merge.proofs.merging.merge_empty.Goals as goal

pub returns-then-store-ne-STORE_LENGTH : goal.returns-then-store-ne-STORE_LENGTH
returns-then-store-ne-STORE_LENGTH c = told_other c.args.store.now c.if-store-ne-STORE_LENGTH.true

pub returns : goal.returns
returns c =
    told_empty c.args.store.now _ c.if-store-ne-STORE_LENGTH.false c.zero.ensures
