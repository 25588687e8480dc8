-- `grammar::names_block`: a name, or else the word is tested.
use borrow.Author.Rules.{rules}
use Rattle.grammar.proofs.Taken.{taken}
use Rattle.grammar.proofs.names_block.Goals as goal

pub returns-in-Name : goal.returns-in-Name
returns-in-Name c = search (taken, rules)

pub returns-in-Word : goal.returns-in-Word
returns-in-Word c = search (taken, rules)

pub returns-in_default : goal.returns-in_default
returns-in_default c = search (taken, rules)
