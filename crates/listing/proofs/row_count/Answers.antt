-- `listing::row_count`: where the last block begins is how many rows stand before it.
use native.Mathlib.Omega.{arith}
use Rattle.listing.proofs.Counting.{few_blocks, no_rows, all_rows}
use Rattle.listing.proofs.row_count.Goals as goal

pub returns-then-n-eq0 : goal.returns-then-n-eq0
returns-then-n-eq0 c =
    (no_rows c.args.t.now c.args.a c.requires.1 c.block_count-n.ensures.0 c.if-n-eq0.true, omega arith)

pub block_first-requires : goal.block_first-requires
block_first-requires c =
    (c.requires.0, omega (arith, few_blocks c.args.t.now c.args.a c.requires.1 c.block_count-n.ensures.0))

pub block_rows-requires : goal.block_rows-requires
block_rows-requires c =
    (c.requires.0, omega (arith, few_blocks c.args.t.now c.args.a c.requires.1 c.block_count-n.ensures.0))

pub returns : goal.returns
returns c = (
  all_rows c.args.t.now c.args.a c.requires.1 c.block_count-n.ensures.0 c.if-n-eq0.false c.block_first.ensures.0
      c.block_rows.ensures.0,
  omega (arith, c.block_first.ensures.1, c.block_rows.ensures.1),
)
