-- What the code has noted, as `Notes` notes it: nothing is `unbroken`.
-- Assumes nothing.
use Rattle.std.specs.Prelude.{Option, None, Some, ◌<◌, ◌≤◌}
use Rattle.language.specs.Programs.{max_rows}
use Rattle.answers.specs.Reasons.{reason_number}
use Rattle.checker.specs.declared.forms.Fault.{Fault}
use Rattle.checker.specs.Notes.{Lowest, unbroken}

abbrev pub low_of : Option Fault → Lowest
low_of None = unbroken
low_of (Some x) = record { number = reason_number x.reason; row = x.row }

-- What is noted of rows: a number of 10 to 16, at a row or where one would begin.
abbrev pub IsOfRow : Option Fault → Type 0
IsOfRow None = Unit {0}
IsOfRow (Some x) = (reason_number x.reason < 17) × (x.row ≤ max_rows)
