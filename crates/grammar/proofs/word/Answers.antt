-- `grammar::word`: the word is tested as the definition tests it.
use borrow.Author.Rules.{rules}
use Rattle.grammar.proofs.Taken.{taken}
use Rattle.grammar.proofs.word.Goals as goal

pub returns-in_default : goal.returns-in_default
returns-in_default c s = search (taken, rules)

pub returns-then-w-number : goal.returns-then-w-number
returns-then-w-number c s = search (taken, rules)

pub returns : goal.returns
returns c s = search (taken, rules)
