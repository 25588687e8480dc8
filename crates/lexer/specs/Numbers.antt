-- Numbers of any size in a word of 64 bits. Assumes nothing.
use Rattle.std.specs.Prelude.{Bool, cond, ℕ, ◌+◌, ◌*◌, ltb, Option, Some, None}
use Rattle.instructions.specs.Ranges.{beyond}

-- How a number is kept: itself below 2^64, else not.
unfoldable pub amount_of : ℕ → Option ℕ
amount_of n = cond (ltb n beyond) (Some n) None

-- What a value and its flag say, that it is 2^64 or more.
abbrev pub amount_said : (value : ℕ) (over : Bool) → Option ℕ
amount_said v o = cond o None (Some v)

-- One digit more of what is kept.
abbrev pub grown_at : (value : Option ℕ) (base digit : ℕ) → Option ℕ
grown_at None base d = None
grown_at (Some v) base d = amount_of (base * v + d)
