-- `grammar::word_with_target`: the tests are the definition's.
use borrow.Author.Rules.{rules}
use Rattle.grammar.proofs.Numbers.{numbers}
use Rattle.grammar.proofs.Taken.{taken}
use Rattle.grammar.proofs.word_with_target.Goals as goal

pub returns-then-not-is_instruction : goal.returns-then-not-is_instruction
returns-then-not-is_instruction c s = search (taken, numbers, rules)

pub overflow_sub-op : goal.overflow_sub-op
overflow_sub-op c = search (numbers, rules)

pub returns-then-shape : goal.returns-then-shape
returns-then-shape c s = search (taken, numbers, rules)

pub returns : goal.returns
returns c s = search (taken, numbers, rules)
