-- Every reason has a number above 0.
-- Assumes nothing.
use native.Mathlib.Omega.{arith}
use Prim.Native.Nat.{◌<◌}
use Rattle.answers.specs.declared.reasons.Reason.{Reason}
use Rattle.answers.specs.declared.reasons.Reason.TheVariants as reasons
use Rattle.answers.specs.Reasons.{reason_number}

pub reason_above : (r : Reason) → 0 < reason_number r
reason_above reasons.TextTooLong = omega arith
reason_above reasons.NoToken = omega arith
reason_above reasons.TokenNotAllowed = omega arith
reason_above reasons.NumberOutOfRange = omega arith
reason_above reasons.SizeExceeded = omega arith
reason_above reasons.DeclaredTwice = omega arith
reason_above reasons.NotDeclared = omega arith
reason_above reasons.NoEntry = omega arith
reason_above reasons.TableUnsound = omega arith
reason_above reasons.TerminatorMisplaced = omega arith
reason_above reasons.TypesWrong = omega arith
reason_above reasons.AssignedTwice = omega arith
reason_above reasons.MarkMismatched = omega arith
reason_above reasons.PhiMisplaced = omega arith
reason_above reasons.PhiMiscounted = omega arith
reason_above reasons.NeverAssigned = omega arith
reason_above reasons.LateAssigned = omega arith
reason_above reasons.ArgumentsWrong = omega arith
reason_above reasons.NoSuchFunction = omega arith
reason_above reasons.LengthWrong = omega arith
reason_above reasons.NotSsa = omega arith
reason_above reasons.TranslationTooLarge = omega arith
reason_above reasons.BufferTooShort = omega arith
reason_above reasons.WrittenTooLong = omega arith
reason_above reasons.StoreFull = omega arith
reason_above reasons.NoLimitFunction = omega arith
