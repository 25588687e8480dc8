-- A page: a lent buffer's bytes and the place of the next one. A byte with no room is dropped and counted, so that the place tells at the end
-- whether the text fits. A place past 65,536 stays where it is: no longer text is told apart.
-- Assumes nothing.
use Rattle.std.specs.Prelude.{ℕ, ◌+◌, ◌-◌, cond, leb, set, take, length, replicate}
use mathlib.Core.List.{List, ◌++◌, foldl}
use Rattle.language.specs.Programs.{max_text}

pub record Page : Type 0 where
  pub bytes : List ℕ
  pub place : ℕ

abbrev pub page : List ℕ → ℕ → Page
page l n = record { bytes = l; place = n }

unfoldable pub next : ℕ → ℕ
next n = cond (leb n max_text) (n + 1) n

abbrev pub put : Page → ℕ → Page
put p b = page (set p.bytes p.place b) (next p.place)

-- Bytes put down one after the other.
unfoldable pub puts : Page → List ℕ → Page
puts p bs = foldl put p bs

-- The bytes before the place, and zeros.
unfoldable pub closed : List ℕ → ℕ → List ℕ
closed l n = take n l ++ replicate (length l - n) 0
