-- `grammar::mark`: the mark is tested as the definition tests it.
use borrow.Author.Rules.{rules}
use Rattle.grammar.proofs.Taken.{taken}
use Rattle.grammar.proofs.mark.Goals as goal

pub returns-in_default : goal.returns-in_default
returns-in_default c s = search (taken, rules)

pub returns-then-b-byte : goal.returns-then-b-byte
returns-then-b-byte c s = search (taken, rules)

pub returns : goal.returns
returns c s = search (taken, rules)
