-- `merge_nth`: place n, told; 22 for another length.
use mathlib.Core.Path.{◌≡◌, sym, ap}
use Rattle.records.specs.Stores.{nth, records_of}
use Rattle.records.specs.Answers.{Looked}
use Rattle.store.specs.Places.{looked_at}
use Rattle.merge.proofs.LookingLaws.{lent_look, lent_other, nth_looked}
use Rattle.merge.proofs.looking.merge_nth.Goals as goal

pub returns-then-store-ne-STORE_LENGTH : goal.returns-then-store-ne-STORE_LENGTH
returns-then-store-ne-STORE_LENGTH c = (
  Looked.refused 22,
  (lent_other c.args.store.now (λ l. l ≡ Looked.looked (nth c.args.n (records_of c.args.store.now))) c.if-store-ne-STORE_LENGTH.true, c.nothing.ensures),
)

pub returns : goal.returns
returns c =
    let l = Looked.looked (looked_at c.args.store.now c.args.n) in (
      l,
      (
        lent_look c.args.store.now (λ l. l ≡ Looked.looked (nth c.args.n (records_of c.args.store.now))) l c.if-store-ne-STORE_LENGTH.false
            (ap Looked.looked (sym (nth_looked c.args.store.now c.args.n))),
        c.told.ensures,
      ),
    )
