-- `name_index::hashes::end`: by the length, the bytes that the definition takes.
use borrow.Author.Tests.{le-leb, lt-leb}
use Rattle.name_index.specs.Hashes.{end_of}
use Rattle.name_index.proofs.hashes.end.Goals as goal

pub returns-then-n-ge8 : goal.returns-then-n-ge8
unfolding end_of
returns-then-n-ge8 c = rw (le-leb 8 _ c.if-n-ge8.true) c.eight_at.ensures

pub returns-then-n-ge4 : goal.returns-then-n-ge4
unfolding end_of
returns-then-n-ge4 c = rw (lt-leb 8 _ c.if-n-ge8.false, le-leb 4 _ c.if-n-ge4.true, c.four_at.ensures.0, c.four_at-then-n-ge4.ensures.0)

pub returns-then-n-ge1 : goal.returns-then-n-ge1
unfolding end_of
returns-then-n-ge1 c =
    rw (lt-leb 8 _ c.if-n-ge8.false, lt-leb 4 _ c.if-n-ge4.false, le-leb 1 _ c.if-n-ge1.true, c.from.ensures, c.from-then-n-ge1.ensures, c.from-then-n-ge1-2.ensures)

pub returns : goal.returns
unfolding end_of
returns c = rw (lt-leb 8 _ c.if-n-ge8.false, lt-leb 4 _ c.if-n-ge4.false, lt-leb 1 _ c.if-n-ge1.false)
