-- Line and column: where something stands in a text (document 02, A3). Assumes nothing.
use Rattle.std.specs.Prelude.{cond, ℕ, ◌+◌, eqb, take}
use mathlib.Core.List.{List, foldl}
use Rattle.language.specs.Bytes.{line_feed}

-- "line and column, both from 1"
pub record LinePlace : Type 0 where
  pub line : ℕ
  pub column : ℕ

abbrev pub at_line : (line column : ℕ) → LinePlace
at_line l c = record { line = l; column = c }

-- The first byte's, and the end's of a text of no bytes.
abbrev pub first_place : LinePlace
first_place = at_line 1 1

-- Stands where there is none.
abbrev pub no_place : LinePlace
no_place = at_line 0 0

-- "LF ends a line, every other byte is one column": the place after the byte b at p.
unfoldable pub past : LinePlace → ℕ → LinePlace
past p b = cond (eqb b line_feed) (at_line (p.line + 1) 1) (at_line p.line (p.column + 1))

-- The place after bytes the first of which is at p.
abbrev pub past_all : LinePlace → List ℕ → LinePlace
past_all p bytes = foldl past p bytes

-- The line and column of byte k of a text, counted from 0, or of its end, if k is its length.
unfoldable pub line_place_in : List ℕ → ℕ → LinePlace
line_place_in text k = past_all first_place (take k text)
