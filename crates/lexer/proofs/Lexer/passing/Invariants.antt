-- `lexer::Lexer::passing`: the bytes passed found nothing, and the lexer in hand stands for the definition's after them.
use mathlib.Core.Path.{◌≡◌}
use mathlib.Core.List.{List}
use Prim.Native.Nat.{ℕ, ◌-◌, ◌≤◌}
use lib.ListN.{length}
use Rattle.lexer.specs.declared.Lexer.{Lexer}
use Rattle.lexer.specs.Lexing.{left, Passed}
use Rattle.lexer.proofs.Lexer.passing.Given as goal

-- The bytes up to l are passed, and less is left.
pub record On (text : List ℕ) (o : Lexer) (h : List ℕ) (l : Lexer) (g : List ℕ) : Type 0 where
  pub passed : Passed text o h l g
  pub less : left text l ≤ left text o
  pub long : length g ≡ length h

abbrev pub invariant-loop-l : goal.invariant-loop-l
invariant-loop-l l = On l.text l.initial.l l.initial.held l.l l.held

abbrev pub decreases-loop-l : goal.decreases-loop-l
decreases-loop-l l = length l.text - l.l.next
