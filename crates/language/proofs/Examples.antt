-- Small programs for the facts: what a text would spell, with as few names as the check allows.
-- Assumes nothing.
use mathlib.Core.Bool.{true}
use mathlib.Core.List.{List, [], map}
use Prim.Native.Nat.{ℕ}
use Prim.Native.String.{String}
use Rattle.language.specs.Bytes.{bytes_of}
use Rattle.language.specs.Programs.{Row, Register, Block, Func}

-- Registers and blocks without a name, of these types and rows.
abbrev pub plain_registers : List ℕ → List Register
plain_registers ts = map (λ t. record { type = t; name = [] }) ts

abbrev pub plain_blocks : List (List Row) → List Block
plain_blocks bs = map (λ rows. record { name = []; rows = rows }) bs

-- A function of this name: ssa mark, return type, parameters, types of the registers, rows of the blocks, the first being entry.
abbrev pub named : String → ℕ → ℕ → ℕ → List ℕ → List (List Row) → Func
named s ssa result params types blocks =
    record {
      name = bytes_of s;
      ssa = ssa;
      result = result;
      params = params;
      registers = plain_registers types;
      blocks = plain_blocks blocks;
      entry = 0;
      placed = true;
    }

-- The same, of the name `f`.
abbrev pub func : ℕ → ℕ → ℕ → List ℕ → List (List Row) → Func
func = named "f"

-- The same with other registers' and blocks' names.
abbrev pub with_names : List Register → List Block → Func
with_names rs bs =
    record
    { name = bytes_of "f"; ssa = 0; result = 10; params = 0; registers = rs; blocks = bs; entry = 0; placed = true }
