-- 10 to 16 of a function, noted row by row: the lowest number so far, and its earliest row.
-- Assumes nothing.
use Rattle.std.specs.Prelude.{cond, ℕ, ◌<◌, T, eqb, ltb, length}
use mathlib.Core.List.{List, foldl}
use Rattle.laws.specs.Lists.{below, empty}
use Rattle.language.specs.Programs.{Func, rows_at, first_row}
use Rattle.language.specs.Table.{row_count, decode_row, decode_function}
use Rattle.language.specs.Checking.{Spot, spots_in, row_number, in_range}
use Rattle.flow.specs.Sized.{Sized}
use Rattle.rules.specs.Cells.{SsaPrepared}
use Rattle.rules.specs.Tests.{form_fault}

-- The lowest number noted so far and its earliest row.
pub record Lowest : Type 0 where
  pub number : ℕ
  pub row : ℕ

-- Nothing noted yet: 17 is the number after those of a row.
abbrev pub unbroken : Lowest
unbroken = record { number = 17; row = 0 }

-- Number k (0: none) at a row is noted if it is lower than what is noted.
unfoldable pub noted : Lowest → ℕ → ℕ → Lowest
noted s k r = cond (eqb k 0) s (cond (ltb k s.number) (record { number = k; row = r }) s)

-- A row's lowest number.
abbrev pub noted_row : Func → Lowest → Spot → Lowest
noted_row f s x = noted s (form_fault f x) (row_number f x)

-- The rows of block b. "A block with no rows is placed at the row where it would begin": 10.
unfoldable pub noted_in : Func → Lowest → ℕ → Lowest
noted_in f s b = cond (empty (rows_at f b)) (noted s 10 (first_row f b)) (foldl (noted_row f) s (spots_in f b))

-- All rows of a function.
unfoldable pub noted_of : Func → Lowest
noted_of f = foldl (noted_in f) unbroken (below (length f.blocks))

-- What the tests of a function's rows take for granted: 9 does not hold of it, and m is prepared as they ask.
pub record RowsRanged (t : List ℕ) (a : ℕ) (m : List ℕ) : Type 0 where
  pub sized : Sized t a
  pub prepared : SsaPrepared (decode_function t a) m
  pub ranges : (k : ℕ) → k < row_count t a → T (in_range (decode_function t a) (decode_row t a k))
