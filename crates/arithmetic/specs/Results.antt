-- What the answers of this crate stand for.
-- Assumes nothing.
use Rattle.std.specs.Prelude.{ℕ, ◌+◌, ◌-◌, ◌^◌, Bool, true, false, cond, ℤ, pos, negsuc, nat_lt, Result, Ok, Err}
use Rattle.language.specs.Arithmetic.{Computed}
use Rattle.answers.specs.declared.reasons.Stop.{Stop}
use Rattle.answers.specs.Reasons.{stop_number}

-- An answer is document 01's value, or its stop by number (40, 41, 42).
abbrev pub result_of : Result ℕ Stop → Computed
result_of (Ok v) = Computed.value v
result_of (Err e) = Computed.stops (stop_number e)

abbrev pub is_negative : ℤ → Bool
is_negative (pos n) = false
is_negative (negsuc n) = true

-- Where a number's meaning stands among the signed ones of w bits: the upper half comes first.
unfoldable pub rank_of : ℕ → ℕ → ℕ
rank_of w x = let h = 2 ^ (w - 1) in cond (nat_lt x h) (x + h) (x - h)
