-- `grammar::top`: the end, or the word.
use borrow.Author.Rules.{rules}
use Rattle.language.specs.Grammar.{next_move}
use Rattle.grammar.proofs.Taken.{taken}
use Rattle.grammar.proofs.top.Goals as goal

pub returns-in-End : goal.returns-in-End
unfolding next_move
returns-in-End c s = search (taken, rules)

pub returns : goal.returns
unfolding next_move
returns c s = let h = rw c.to-2.ensures at (c.word.ensures s) in search (taken, h, rules)
