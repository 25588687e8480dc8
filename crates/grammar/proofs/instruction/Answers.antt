-- `grammar::instruction`: the word is taken apart.
use borrow.Author.Rules.{rules}
use Rattle.language.specs.Grammar.{next_move}
use Rattle.grammar.proofs.Taken.{taken}
use Rattle.grammar.proofs.instruction.Goals as goal

pub returns-in_default : goal.returns-in_default
unfolding next_move
returns-in_default c s = search (taken, rules)

pub returns : goal.returns
unfolding next_move
returns c s = search (taken, c.word_with_target.ensures, rules)
