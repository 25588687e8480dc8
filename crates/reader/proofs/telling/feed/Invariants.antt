-- `reader::telling::feed`: function by function, each into its cells of the table.
use mathlib.Core.Path.{◌≡◌}
use lib.ListN.{length}
use Rattle.lexer.specs.Lexing.{left}
use Rattle.reader.proofs.Through.{Goes}
use Rattle.reader.proofs.telling.feed.Given as goal

abbrev pub invariant-loop-r : goal.invariant-loop-r
invariant-loop-r l =
    Goes l.text l.ends l.initial.s l.initial.t l.initial.names l.initial.pend l.initial.held l.s l.t l.names l.pend l.held × (length l.t ≡ length l.initial.t) × (length l.names ≡ length l.initial.names) × (length l.pend ≡ length l.initial.pend)
    × (length l.held ≡ length l.initial.held)

abbrev pub decreases-loop-r : goal.decreases-loop-r
decreases-loop-r l = left l.text l.s.lexer
