-- `table_text::put_function`: the numbers of the made names are prepared, and its rows are as they need be.
use borrow.Author.Rules.{rules}
use Rattle.row_text.proofs.Accepted.{ready}
use Rattle.table_text.proofs.Accepted.{declared}
use Rattle.table_text.proofs.put_function.Goals as goal

pub put_lines-requires : goal.put_lines-requires
put_lines-requires c =
    (declared c.requires.0 c.requires.1, ready c.requires.0 c.requires.1 c.number_registers.ensures c.number_blocks.ensures (search rules) (search rules))
