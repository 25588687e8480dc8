-- `grammar::entry_end`: one mark, or the other.
use borrow.Author.Rules.{rules}
use Rattle.language.specs.Grammar.{next_move}
use Rattle.grammar.proofs.Taken.{taken}
use Rattle.grammar.proofs.entry_end.Goals as goal

pub returns-then-is_mark : goal.returns-then-is_mark
unfolding next_move
returns-then-is_mark c s = search (taken, rules)

pub returns : goal.returns
unfolding next_move
returns c s = let h = rw c.to-2.ensures at (c.mark.ensures s) in search (taken, h, rules)
