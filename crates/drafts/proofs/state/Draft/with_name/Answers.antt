-- `drafts::state::Draft::with_name`: one more unless the name is kept or there is no room.
use borrow.Author.Tests.{lt-ltb, le-ltb}
use Rattle.drafts.proofs.state.Draft.with_name.Goals as goal

pub returns-then-k-n : goal.returns-then-k-n
returns-then-k-n c = rw (lt-ltb _ _ c.if-k-n.true)

pub returns-then-n-lt-MAX_NAMES : goal.returns-then-n-lt-MAX_NAMES
returns-then-n-lt-MAX_NAMES c = rw (le-ltb _ _ c.if-k-n.false, lt-ltb _ _ c.if-n-lt-MAX_NAMES.true)

pub returns-else-n-lt-MAX_NAMES : goal.returns-else-n-lt-MAX_NAMES
returns-else-n-lt-MAX_NAMES c = rw (le-ltb _ _ c.if-k-n.false, le-ltb _ _ c.if-n-lt-MAX_NAMES.false)
