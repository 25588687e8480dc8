-- What numbers of the code can hold. Assumes nothing.
use Rattle.std.specs.Prelude.{ℕ}

-- 2^64: every number of 64 bits is below it.
abbrev pub beyond : ℕ
beyond = 18446744073709551616
