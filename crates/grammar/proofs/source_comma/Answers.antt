-- `grammar::source_comma`: the mark, with the stage that comes next.
use mathlib.Core.Path.{ap}
use Rattle.language.specs.Grammar.{next_move}
use Rattle.grammar.specs.Meaning.{stage_is}
use Rattle.grammar.proofs.source_comma.Goals as goal

pub returns : goal.returns
unfolding next_move
returns c s = let e = ap stage_is c.new-stage.ensures in rw e at (c.mark.ensures s)
