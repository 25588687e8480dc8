-- `grammar::in_operand`: by the operand.
use borrow.Author.Rules.{rules}
use Rattle.grammar.proofs.Numbers.{numbers}
use Rattle.grammar.proofs.Taken.{taken}
use Rattle.grammar.proofs.in_operand.Goals as goal

pub returns-in-1 : goal.returns-in-1
returns-in-1 c = search (taken, numbers, rules)

pub returns-in-2 : goal.returns-in-2
returns-in-2 c = search (taken, numbers, rules)

pub returns-in-3 : goal.returns-in-3
returns-in-3 c = search (taken, numbers, rules)

pub returns-in_default : goal.returns-in_default
returns-in_default c = search (taken, numbers, rules)
