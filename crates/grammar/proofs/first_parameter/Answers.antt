-- `grammar::first_parameter`: the parenthesis, or a parameter.
use borrow.Author.Rules.{rules}
use Rattle.language.specs.Grammar.{next_move}
use Rattle.grammar.proofs.Taken.{taken}
use Rattle.grammar.proofs.first_parameter.Goals as goal

pub returns-then-is_mark : goal.returns-then-is_mark
unfolding next_move
returns-then-is_mark c s = search (taken, rules)

pub returns : goal.returns
unfolding next_move
returns c s = search (taken, c.parameter.ensures, rules)
