-- The predecessor list that each block's record keeps (document 02, A5): right in every table that is handed out, and what the check makes of a lent
-- table by it.
-- Assumes nothing.
use Rattle.std.specs.Prelude.{◌≡◌, ◌↔◌, ◌&&◌, List, map, ℕ, ◌<◌, length}
use Rattle.laws.specs.Lists.{below}
use Rattle.laws.specs.Sections.{Bytes}
use Rattle.language.specs.Programs.{Program, function_in}
use Rattle.language.specs.Checking.{Verdict, predecessors, check}
use Rattle.language.specs.Table.{function_count, function_at, block_count, stored_predecessors, blocks_placed, phis_placed, decode_at, decode_function, decode, cells}
use Rattle.language.specs.Answers.{read_answer, translate_answer}
use Rattle.theorems.specs.TableLaw.{Fits}
use Rattle.theorems.specs.Accepted.{Fault}

-- The list that block b of function i stores is document 01's.
abbrev pub ListRight : List ℕ → ℕ → ℕ → Type 0
ListRight t i b = stored_predecessors t (function_at i) b ≡ predecessors (decode_function t (function_at i)) b

-- So is every list of the table.
abbrev pub ListsRight : List ℕ → Type 0
ListsRight t = (i b : ℕ) → i < function_count t → b < block_count t (function_at i) → ListRight t i b

-- ---- "Reading, checking and translating must leave it equal to 01's definition at every return that hands out a table."

-- What is handed out are the cells of a program that fits: they hold the program's own lists.
abbrev pub ListsInCells : Type 0
ListsInCells =
    (p : Program)
    → Fits p
    → (i b : ℕ)
    → i < length p
    → b < length (function_in p i).blocks
    → stored_predecessors (cells p) (function_at i) b ≡ predecessors (function_in p i) b

-- Of the lent output of any length, refused or not: what a refusal leaves holds no function.
abbrev pub ListsInRead : Type 0
ListsInRead = (text : List ℕ) (n : ℕ) → Bytes text → ListsRight (read_answer text n).table

abbrev pub ListsInTranslation : Type 0
ListsInTranslation = (t : List ℕ) (i n : ℕ) → ListsRight (translate_answer t i n).table

-- The check hands out nothing: it leaves a table accepted only if its lists are right.
abbrev pub AcceptedListsRight : Type 0
AcceptedListsRight = (t : List ℕ) → check (decode t) ≡ Verdict.accepted → ListsRight t

-- ---- "A lent table whose stored list differs is refused with 9"

-- A differing list is a 9 of its function, whatever else is wrong with the table. (RefusedExactly says which of a table's faults is answered.)
abbrev pub DiffersIsFault : Type 0
DiffersIsFault =
    (t : List ℕ) (i b : ℕ) → i < function_count t → b < block_count t (function_at i) → ¬ ListRight t i b → Fault (decode t) i 9 0

-- The program of a table, its lists not looked at.
unfoldable pub decode_apart : List ℕ → Program
decode_apart t =
    map (λ i. decode_at t (function_at i) (blocks_placed t (function_at i) && phis_placed t (function_at i))) (below (function_count t))

-- All but the lists is in order.
abbrev pub InOrderApart : List ℕ → Type 0
InOrderApart t = check (decode_apart t) ≡ Verdict.accepted

-- Such a table is accepted exactly if its lists are right,
abbrev pub AcceptsExactlyRightLists : Type 0
AcceptsExactlyRightLists = (t : List ℕ) → InOrderApart t → (check (decode t) ≡ Verdict.accepted) ↔ ListsRight t

-- and else refused with 9 at the first function that has another list.
pub record FirstDiffers (t : List ℕ) (i : ℕ) : Type 0 where
  pub block : ℕ
  pub function : i < function_count t
  pub inside : block < block_count t (function_at i)
  pub differs : ¬ ListRight t i block
  pub before : (j b : ℕ) → j < i → b < block_count t (function_at j) → ListRight t j b

abbrev pub DiffersIs9 : Type 0
DiffersIs9 = (t : List ℕ) (i : ℕ) → InOrderApart t → FirstDiffers t i → check (decode t) ≡ Verdict.refused 9 i
