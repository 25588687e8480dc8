-- A record and which of two wins (document 02, A8): "For one appliance the later test time wins; then fail over pass; then the lower tablet
-- number; then the larger reading by meaning."
-- Assumes nothing.
use Rattle.std.specs.Prelude.{Bool, cond, ℕ, ◌<◌, ◌^◌, eqb, ltb, ℤ}
use Rattle.std.specs.Int.Signed.{le_z}
use Rattle.language.specs.Instructions.{int64}
use Rattle.language.specs.Arithmetic.{meaning}
use Rattle.records.specs.declared.Record.{Record}

-- "each below 2^64"; the verdict is a pass or a fail.
pub record SizedRecord (r : Record) : Type 0 where
  pub appliance : r.appliance < 2 ^ 64
  pub time : r.time < 2 ^ 64
  pub fail : r.fail < 2
  pub tablet : r.tablet < 2 ^ 64
  pub reading : r.reading < 2 ^ 64

-- Two records by a number of each: of different ones the one that is ahead wins; else what comes next decides.
unfoldable pub compared : (ahead : ℕ → ℕ → Bool) → (Record → ℕ) → (Record → Record → Bool) → Record → Record → Bool
compared ahead k next x y = cond (eqb (k x) (k y)) (next x y) (ahead (k x) (k y))

-- The greater number is ahead, or the lower.
abbrev pub greater : ℕ → ℕ → Bool
greater m n = ltb n m

abbrev pub lower : ℕ → ℕ → Bool
lower m n = ltb m n

-- The number that a record's reading means.
unfoldable pub meant : Record → ℤ
meant r = meaning int64 r.reading

-- x's reading is the larger by meaning, or the same.
unfoldable pub larger : Record → Record → Bool
larger x y = le_z (meant y) (meant x)

-- x wins over y, or they are the same: later time, fail over pass, lower tablet, larger reading.
unfoldable pub wins : Record → Record → Bool
wins = compared greater (λ r. r.time) (compared greater (λ r. r.fail) (compared lower (λ r. r.tablet) larger))

-- The winner of two.
unfoldable pub best : Record → Record → Record
best x y = cond (wins x y) x y
