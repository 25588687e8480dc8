-- The numbers prepared of a function: where each kind stands, from the parts, and its accessor. No other page says these places.
-- Assumes nothing.
use Rattle.std.specs.Prelude.{List, ℕ, ◌+◌, get_or}
use Rattle.language.specs.Programs.{max_registers, max_blocks}

-- For each register what assigns it first, at the register's own number, and the block that does.
abbrev pub homes_offset : ℕ
homes_offset = max_registers

-- For each block the count of its leading phi.
abbrev pub phis_offset : ℕ
phis_offset = homes_offset + max_registers

abbrev pub flow_length : ℕ
flow_length = phis_offset + max_blocks

-- ---- The accessors.

-- 1 and the first row that assigns register u, or 0.
abbrev pub assignment_in : List ℕ → ℕ → ℕ
assignment_in m u = get_or m u 0

-- The block of that row.
abbrev pub home_in : List ℕ → ℕ → ℕ
home_in m u = get_or m (homes_offset + u) 0

-- How many phi lead block b.
abbrev pub phis_in : List ℕ → ℕ → ℕ
phis_in m b = get_or m (phis_offset + b) 0
