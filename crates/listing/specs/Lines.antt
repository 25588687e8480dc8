-- Parts of a function's line. Assumes nothing.
use Rattle.std.specs.Prelude.{List, [], ◌∷◌, ◌++◌, ℕ, ◌+◌, ◌*◌, length}
use Rattle.language.specs.Bytes.{line_feed}
use Rattle.language.specs.Listing.{tab, digits}
use Rattle.language.specs.Programs.{Func, rows_of, max_name, max_functions}

-- A name of `max_name` quotes in quotes, each with its backslash.
abbrev pub spelling_most : ℕ
spelling_most = 2 * max_name + 2

-- How many bytes a line takes at most, each number with its tab: the sizes with the line's end, a function's line, those of all functions, a refusal's.
abbrev pub field_most : ℕ
field_most = 21

abbrev pub sizes_most : ℕ
sizes_most = 3 * field_most + 1

abbrev pub line_most : ℕ
line_most = spelling_most + field_most + sizes_most

abbrev pub listing_most : ℕ
listing_most = max_functions * line_most

abbrev pub refusal_most : ℕ
refusal_most = 7 + 2 * field_most + 1

-- "registers, blocks, instructions", and the line's end
unfoldable pub sizes_written : Func → List ℕ
sizes_written f = (tab ∷ digits (length f.registers)) ++ (tab ∷ digits (length f.blocks)) ++ (tab ∷ digits (length (rows_of f))) ++ (line_feed ∷ [])
