-- `grammar::is_mark`: the mark is taken apart.
use borrow.Author.Rules.{rules}
use Rattle.grammar.proofs.Taken.{taken}
use Rattle.grammar.proofs.is_mark.Goals as goal

pub returns-in_default : goal.returns-in_default
returns-in_default c = search (taken, rules)

pub returns : goal.returns
returns c = search (taken, rules)
