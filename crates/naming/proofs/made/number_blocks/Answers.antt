-- `naming::number_blocks`: the names of the blocks, where the table has them; entry keeps its own.
use Rattle.naming.proofs.InFunction.{blocks_numbered}
use Rattle.naming.proofs.made.number_blocks.Goals as goal

pub returns : goal.returns
returns c =
    blocks_numbered c.args.t.now c.args.a c.block_count-count.ensures.0
    c.function_entry-entry.ensures.0 c.number_names.ensures
