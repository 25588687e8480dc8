use mathlib.Core.Path.{◌≡◌, ap, ◌∙◌}
use native.Mathlib.Omega.{arith}
use lib.ListN.{length}
use Rattle.laws.specs.Lists.{below, gather}
use Rattle.page.specs.Page.{Page, puts}
use Rattle.page.proofs.Pages.{puts_length}
use Rattle.token_text.proofs.Spelled.{puts_none, puts_then}
use Rattle.row_text.proofs.BlocksLaws.{lines_at, blocks_more, blocks_all}
use Rattle.row_text.proofs.blocks.put_blocks.Goals as goal

pub block_count-n-requires : goal.block_count-n-requires
block_count-n-requires c = c.requires.sized.within

pub loop-b-init : goal.loop-b-init
loop-b-init c = (omega arith, puts_none _)

pub put_block_lines-e-requires : goal.put_block_lines-e-requires
put_block_lines-e-requires c =
    (c.requires, omega (arith, c.block_count-n.ensures.0, c.loop-b-test.true))

pub loop-b-preserved : goal.loop-b-preserved
loop-b-preserved c =
    let x = c.args in
    let inv = c.loop-b.invariant in
    let b = c.loop-b.b in
    let l = c.loop-b-test.true in
    let lines = lines_at x.t.now x.a in (
      omega arith,
      puts_then _ (gather lines (below b)) (lines b) inv.1 c.put_block_lines-e.ensures ∙ ap (puts _) (blocks_more x.t.now x.a b),
    )

pub shape_of-out : goal.shape_of-out
shape_of-out c = ap (λ (q : Page). length q.bytes) c.loop-b.invariant.1 ∙ puts_length _ _

pub returns : goal.returns
returns c =
    let x = c.args in
    let inv = c.loop-b.invariant in
    let l = c.loop-b-test.false in
    let all : c.loop-b.b ≡ c.block_count-n.result = omega arith in
    inv.1 ∙ ap (puts _) (blocks_all x.t.now x.a (all ∙ c.block_count-n.ensures.0))
