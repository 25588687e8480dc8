-- `grammar::after_word`: by whether there are sources.
use borrow.Author.Rules.{rules}
use Rattle.grammar.proofs.Numbers.{numbers}
use Rattle.grammar.proofs.Taken.{taken}
use Rattle.grammar.proofs.after_word.Goals as goal

pub returns-then-sources-eq0 : goal.returns-then-sources-eq0
returns-then-sources-eq0 c = search (taken, numbers, rules)

pub returns : goal.returns
returns c = search (taken, numbers, rules)
