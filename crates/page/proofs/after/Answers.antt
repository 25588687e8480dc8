-- `page::after` meets its contract.
use borrow.Author.Tests.{le-leb, lt-leb}
use Rattle.page.specs.Page.{next}
use Rattle.page.proofs.after.Goals as goal

pub returns-then-at-le-MAX_TEXT : goal.returns-then-at-le-MAX_TEXT
unfolding next
returns-then-at-le-MAX_TEXT c = simp (le-leb _ _ c.if-at-le-MAX_TEXT.true)

pub returns : goal.returns
unfolding next
returns c = simp (lt-leb _ _ c.if-at-le-MAX_TEXT.false)
