-- What a row breaks, as a number: 0 for nothing.
-- Assumes nothing.
use Rattle.std.specs.Prelude.{Option, None, Some, ℕ}
use Rattle.answers.specs.declared.reasons.Reason.{Reason}
use Rattle.answers.specs.Reasons.{reason_number}

abbrev pub fault_number : Option Reason → ℕ
fault_number None = 0
fault_number (Some r) = reason_number r
