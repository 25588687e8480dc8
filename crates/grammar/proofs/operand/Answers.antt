-- `grammar::operand`: the mark, with the stage that comes next.
use Rattle.language.specs.Grammar.{next_move}
use Rattle.grammar.proofs.operand.Goals as goal

pub returns : goal.returns
unfolding next_move
returns c s = rw c.in_operand-stage.ensures at (c.mark.ensures s)
