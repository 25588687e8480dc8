-- Tests of a row by its cells and by what is prepared of its function: what the code computes. The laws in
-- `proofs/FaultLaws.antt` say which tests of the language they are.
-- Assumes nothing.
use Rattle.std.specs.Prelude.{Bool, cond, not, ◌&&◌, ◌||◌, ◌≡◌, List, ℕ, ◌+◌, ◌<◌, T, eqb, leb, ltb, length}
use Rattle.language.specs.Instructions.{Form, form_of, uint, cmp_eq_op, shl_op}
use Rattle.language.specs.Programs.{Func, Row, is_ssa}
use Rattle.language.specs.Table.{function_ssa, function_params, block_count, block_first, block_rows, row_op, decode_as, decode_function}
use Rattle.language.specs.Checking.{Spot, in_range}
use Rattle.flow.specs.Layout.{flow_length, assignment_in}
use Rattle.flow.specs.Sized.{Sized}
use Rattle.flow.specs.Prepared.{Prepared}
use Rattle.rules.specs.Tests.{lowest, later_tests}

-- m is prepared of a function that is marked ssa. Of others nothing that is prepared is asked: 12 and 16 are of ssa alone, and where a phi would
-- break 14 it breaks 13.
pub record SsaPrepared (f : Func) (m : List ℕ) : Type 0 where
  pub count : length m ≡ flow_length
  pub in_ssa : T (is_ssa f) → Prepared f m

-- Row k of the function at cell a stands at place j of block b, and m is prepared as the tests of that function ask.
pub record RowStands (t : List ℕ) (a : ℕ) (m : List ℕ) (b j k : ℕ) : Type 0 where
  pub sized : Sized t a
  pub prepared : SsaPrepared (decode_function t a) m
  pub block : b < block_count t a
  pub index : j < block_rows t a b
  pub row : k ≡ block_first t a b + j

-- A row at a place.
abbrev pub spot : ℕ → ℕ → Row → Spot
spot b j r = record { block = b; index = j; row = r }

-- r is the lowest of 11 to 16 that row k breaks, if it is of form g and its numbers are in their ranges.
unfoldable pub Judged : Form → List ℕ → ℕ → List ℕ → ℕ → ℕ → ℕ → ℕ → Type 0
Judged g t a m b j k r =
    RowStands t a m b j k
    → form_of (row_op t a k) ≡ g
    → T (in_range (decode_function t a) (decode_as g t a k))
    → r ≡ lowest 11 (later_tests (decode_function t a) (spot b j (decode_as g t a k)))

-- 12 of row k, which assigns register u: a parameter, or first assigned by another row.
unfoldable pub retaken : List ℕ → ℕ → List ℕ → ℕ → ℕ → Bool
retaken t a m u k = eqb (function_ssa t a) 1 && (ltb u (function_params t a) || not (eqb (assignment_in m u) (k + 1)))

-- 16 of a row that uses register u: no parameter, and assigned by no row.
unfoldable pub unset : List ℕ → ℕ → List ℕ → ℕ → Bool
unset t a m u = eqb (function_ssa t a) 1 && (leb (function_params t a) u && eqb (assignment_in m u) 0)

-- The types of a row with two sources, as `typed` has them.
unfoldable pub binary_typed : (op target left right : ℕ) → Bool
binary_typed op target left right =
    cond (ltb op shl_op) (eqb target left && eqb left right)
    (cond (ltb op cmp_eq_op) (eqb target left && eqb right uint) (eqb left right && eqb target uint))
