-- `grammar::header`: the word is taken apart, and then tested as the definition does.
use borrow.Author.Rules.{rules}
use Rattle.language.specs.Grammar.{next_move}
use Rattle.grammar.proofs.Taken.{taken}
use Rattle.grammar.proofs.header.Goals as goal

pub returns-in_default : goal.returns-in_default
unfolding next_move
returns-in_default c s = search (taken, rules)

pub returns-then-w-eq-SSA : goal.returns-then-w-eq-SSA
unfolding next_move
returns-then-w-eq-SSA c s = search (taken, rules)

pub returns : goal.returns
unfolding next_move
returns c s = search (taken, c.result_word.ensures, rules)
