use native.Mathlib.Omega.{arith}
use Rattle.language.specs.Table.{decode_function}
use Rattle.language.proofs.TableView.{block_count_law}
use Rattle.checker.proofs.FormsLaws.{blocks_none, blocks_more, blocks_all}
use Rattle.checker.proofs.forms.note_blocks.Goals as goal

pub loop-b-init : goal.loop-b-init
loop-b-init c = let args = c.args in (omega arith, blocks_none (decode_function args.t.now args.a), tt)

pub note_block-x-requires : goal.note_block-x-requires
note_block-x-requires c = record { rows_ranged = c.requires.rows_ranged; b_bound = (omega arith, c.loop-b.invariant.2) }

pub loop-b-preserved : goal.loop-b-preserved
loop-b-preserved c =
    let args = c.args in
    (omega arith, blocks_more (decode_function args.t.now args.a) c.loop-b.b c.loop-b.invariant.1 c.note_block-x.ensures.0, c.note_block-x.ensures.1)

pub returns : goal.returns
returns c =
    let args = c.args in
    (blocks_all (decode_function args.t.now args.a) c.loop-b.invariant.1 (omega (arith, block_count_law args.t.now args.a)), c.loop-b.invariant.2)
