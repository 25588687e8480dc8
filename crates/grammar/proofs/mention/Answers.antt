-- `grammar::mention`: whether the token names a block, and then its bytes.
use borrow.Author.Rules.{rules}
use Rattle.language.specs.Grammar.{next_move}
use Rattle.grammar.proofs.Taken.{taken}
use Rattle.grammar.proofs.mention.Goals as goal

pub returns-then-names_block : goal.returns-then-names_block
unfolding next_move
returns-then-names_block c s = search (taken, rules)

pub returns : goal.returns
unfolding next_move
returns c s = search (taken, rules)
