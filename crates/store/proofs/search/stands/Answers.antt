-- `store::stands` meets its contract: the appliance is compared only of a record that there is. Assumes nothing.
use borrow.Author.Tests.{lt-ltb, le-ltb}
use Rattle.store.specs.Places.{stands_at}
use Rattle.store.proofs.search.stands.Goals as goal

pub returns-then-p-n : goal.returns-then-p-n
unfolding stands_at
returns-then-p-n c =
    let args = c.args in
    rw (lt-ltb args.p args.n c.if-p-n.true, c.appliance_at.ensures)

pub returns : goal.returns
unfolding stands_at
returns c = let args = c.args in rw (le-ltb args.p args.n c.if-p-n.false)
