-- `grammar::after_sources`: by whether there is an operand.
use borrow.Author.Rules.{rules}
use Rattle.grammar.proofs.Numbers.{numbers}
use Rattle.grammar.proofs.Taken.{taken}
use Rattle.grammar.proofs.after_sources.Goals as goal

pub returns-then-operand-eq0 : goal.returns-then-operand-eq0
returns-then-operand-eq0 c = search (taken, numbers, rules)

pub returns : goal.returns
returns c = search (taken, numbers, rules)
