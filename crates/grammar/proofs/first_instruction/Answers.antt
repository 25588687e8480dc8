-- `grammar::first_instruction`: a target, or else the word is taken apart.
use borrow.Author.Rules.{rules}
use Rattle.language.specs.Grammar.{next_move}
use Rattle.grammar.proofs.Taken.{taken}
use Rattle.grammar.proofs.first_instruction.Goals as goal

pub returns-in-Name : goal.returns-in-Name
unfolding next_move
returns-in-Name c s = search (taken, rules)

pub returns-in_default-token : goal.returns-in_default-token
unfolding next_move
returns-in_default-token c s = search (taken, rules)

pub returns : goal.returns
unfolding next_move
returns c s = search (taken, c.word_alone.ensures, rules)
