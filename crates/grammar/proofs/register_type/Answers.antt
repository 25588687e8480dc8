-- `grammar::register_type`: the word is taken apart, and a type gives the stage.
use borrow.Author.Rules.{rules}
use Rattle.language.specs.Grammar.{next_move}
use Rattle.grammar.proofs.Numbers.{numbers}
use Rattle.grammar.proofs.Taken.{taken}
use Rattle.grammar.proofs.register_type.Goals as goal

pub returns-in_default : goal.returns-in_default
unfolding next_move
returns-in_default c s = search (taken, numbers, rules)

pub overflow_sub-w : goal.overflow_sub-w
unfolding next_move
overflow_sub-w c = search (numbers, rules)

pub returns-then-is_type : goal.returns-then-is_type
unfolding next_move
returns-then-is_type c s = search (taken, numbers, rules)

pub returns : goal.returns
unfolding next_move
returns c s = search (taken, numbers, rules)
