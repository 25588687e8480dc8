-- `grammar::declarations`: the brace, or else the word is taken apart.
use borrow.Author.Rules.{rules}
use Rattle.language.specs.Grammar.{next_move}
use Rattle.grammar.proofs.Numbers.{numbers}
use Rattle.grammar.proofs.Taken.{taken}
use Rattle.grammar.proofs.declarations.Goals as goal

pub returns-then-is_mark : goal.returns-then-is_mark
unfolding next_move
returns-then-is_mark c s = search (taken, numbers, rules)

pub returns-in_default : goal.returns-in_default
unfolding next_move
returns-in_default c s = search (taken, numbers, rules)

pub returns-then-w-eq-REGISTER : goal.returns-then-w-eq-REGISTER
unfolding next_move
returns-then-w-eq-REGISTER c s = search (taken, numbers, rules)

pub returns-then-w-eq-BLOCK : goal.returns-then-w-eq-BLOCK
unfolding next_move
returns-then-w-eq-BLOCK c s = search (taken, numbers, rules)

pub returns : goal.returns
unfolding next_move
returns c s = search (taken, numbers, rules)
