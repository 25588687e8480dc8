-- `reader::reading::index_registers`: the names of the cells in chains.
use mathlib.Core.Path.{◌∙◌}
use native.Mathlib.Omega.{arith}
use Rattle.reader.proofs.reading.index_registers.Goals as goal

pub index-requires : goal.index-requires
index-requires c =
    let d = c.requires.cells_for.cells c.if-d-lt-MAX_FUNCTIONS.true in
    record { names_within = (omega arith, c.requires.bounded.registers); indexed = c.requires.cells_for.empty }

pub shape_of-last : goal.shape_of-last
shape_of-last c = c.index.auto.last

pub shape_of-before : goal.shape_of-before
shape_of-before c = c.index.auto.before

pub returns-then-d-lt-MAX_FUNCTIONS : goal.returns-then-d-lt-MAX_FUNCTIONS
returns-then-d-lt-MAX_FUNCTIONS c = λ few once. c.index.ensures.indexed (c.index.ensures.tells ∙ once)

pub returns-else-d-lt-MAX_FUNCTIONS : goal.returns-else-d-lt-MAX_FUNCTIONS
returns-else-d-lt-MAX_FUNCTIONS c = λ few once. absurd (omega arith)
