-- `reader::telling::judge_text`: function by function, all in the same cells.
use mathlib.Core.Path.{◌≡◌}
use lib.ListN.{length}
use Rattle.language.specs.Programs.{max_name}
use Rattle.language.specs.Table.{function_length}
use Rattle.lexer.specs.Lexing.{left}
use Rattle.drafts.specs.State.{names_length, pending_length}
use Rattle.reader.proofs.Through.{JudgedTo}
use Rattle.reader.proofs.telling.judge_text.Given as goal

abbrev pub invariant-loop-r : goal.invariant-loop-r
invariant-loop-r l =
    JudgedTo l.text l.x l.f l.names l.pend l.held × (length l.names ≡ names_length) × (length l.pend ≡ pending_length) × (length l.f ≡ function_length) × (length l.held ≡ max_name)

abbrev pub decreases-loop-r : goal.decreases-loop-r
decreases-loop-r l = left l.text l.x.lexer
