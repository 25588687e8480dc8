-- `reader::telling::end_of`: behind the last function there are no cells.
use mathlib.Core.Path.{ap}
use Prim.Native.Nat.{ℕ, ◌+◌}
use borrow.Author.Tests.{lt-ltb, le-ltb}
use Rattle.language.specs.Programs.{max_functions}
use Rattle.language.specs.Table.{function_length}
use Rattle.reader.proofs.telling.end_of.Goals as goal

pub returns-then-n-lt-MAX_FUNCTIONS : goal.returns-then-n-lt-MAX_FUNCTIONS
returns-then-n-lt-MAX_FUNCTIONS c =
    rw (lt-ltb c.args.n max_functions c.if-n-lt-MAX_FUNCTIONS.true) (ap (λ (n : ℕ). n + function_length) c.function_at.ensures)

pub returns : goal.returns
returns c = rw (le-ltb c.args.n max_functions c.if-n-lt-MAX_FUNCTIONS.false) c.function_at-2.ensures
