-- Line and column of a byte (document 02, A3): "line and column, both from 1 ..; LF ends a line, every other byte is one column."
-- Assumes nothing.
use Rattle.std.specs.Prelude.{not, List, [], ◌∷◌, ◌++◌, ◌≡◌, ℕ, ◌+◌, T, eqb, length}
use Rattle.laws.specs.Lists.{all, keep}
use Rattle.language.specs.Bytes.{line_feed}
use Rattle.language.specs.LinePlaces.{at_line, line_place_in}

-- ---- the line and column of a byte

-- Lines up to and with the LF that ends the last of them.
pub data WholeLines : List ℕ → Type 0 where
  none : WholeLines []
  ended : (bytes : List ℕ) → WholeLines (bytes ++ (line_feed ∷ []))

abbrev pub line_feeds : List ℕ → ℕ
line_feeds bytes = length (keep (λ b. eqb b line_feed) bytes)

-- The byte behind whole lines and `left`, which has no LF, is one line further than there are LF above it, and one column further than there
-- are bytes on its left. So is the end, where nothing follows.
abbrev pub LineAndColumn : Type 0
LineAndColumn =
    (above left rest : List ℕ) → WholeLines above → T (all (λ b. not (eqb b line_feed)) left)
    → line_place_in (above ++ left ++ rest) (length above + length left) ≡ at_line (1 + line_feeds above) (1 + length left)
