-- The numbers of refusals and stops (document 01, "Numbers we answer", and document 02's 32, 33, 60 and 61). Assumes nothing.
use Rattle.std.specs.Prelude.{ℕ}
use Rattle.answers.specs.declared.reasons.Reason.{Reason}
use Rattle.answers.specs.declared.reasons.Reason.TheVariants as reasons
use Rattle.answers.specs.declared.reasons.Stop.{Stop}
use Rattle.answers.specs.declared.reasons.Stop.TheVariants as stops

abbrev pub reason_number : Reason → ℕ
reason_number reasons.TextTooLong = 1
reason_number reasons.NoToken = 2
reason_number reasons.TokenNotAllowed = 3
reason_number reasons.NumberOutOfRange = 4
reason_number reasons.SizeExceeded = 5
reason_number reasons.DeclaredTwice = 6
reason_number reasons.NotDeclared = 7
reason_number reasons.NoEntry = 8
reason_number reasons.TableUnsound = 9
reason_number reasons.TerminatorMisplaced = 10
reason_number reasons.TypesWrong = 11
reason_number reasons.AssignedTwice = 12
reason_number reasons.MarkMismatched = 13
reason_number reasons.PhiMisplaced = 14
reason_number reasons.PhiMiscounted = 15
reason_number reasons.NeverAssigned = 16
reason_number reasons.LateAssigned = 17
reason_number reasons.ArgumentsWrong = 20
reason_number reasons.NoSuchFunction = 21
reason_number reasons.LengthWrong = 22
reason_number reasons.NotSsa = 30
reason_number reasons.TranslationTooLarge = 31
reason_number reasons.BufferTooShort = 32
reason_number reasons.WrittenTooLong = 33
reason_number reasons.StoreFull = 60
reason_number reasons.NoLimitFunction = 61

abbrev pub stop_number : Stop → ℕ
stop_number stops.ZeroDivisor = 40
stop_number stops.ShiftTooFar = 41
stop_number stops.QuotientOverflows = 42
stop_number stops.BudgetUsedUp = 43
