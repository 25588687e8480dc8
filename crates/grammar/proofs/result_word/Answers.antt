-- `grammar::result_word`: the tests are the definition's.
use borrow.Author.Rules.{rules}
use Rattle.grammar.proofs.Numbers.{numbers}
use Rattle.grammar.proofs.Taken.{taken}
use Rattle.grammar.proofs.result_word.Goals as goal

pub returns-then-w-eq-VOID : goal.returns-then-w-eq-VOID
returns-then-w-eq-VOID c s = search (taken, numbers, rules)

pub overflow_sub-w : goal.overflow_sub-w
overflow_sub-w c = search (numbers, rules)

pub returns-then-is_type : goal.returns-then-is_type
returns-then-is_type c s = search (taken, numbers, rules)

pub returns : goal.returns
returns c s = search (taken, numbers, rules)
