-- `grammar::after_mention`: by whether there are more.
use borrow.Author.Rules.{rules}
use Rattle.grammar.proofs.Numbers.{numbers}
use Rattle.grammar.proofs.Taken.{taken}
use Rattle.grammar.proofs.after_mention.Goals as goal

pub returns-then-more-eq0 : goal.returns-then-more-eq0
returns-then-more-eq0 c = search (taken, numbers, rules)

pub returns : goal.returns
returns c = search (taken, numbers, rules)
