-- The names of blocks that the jumps of the function in hand mention. Until its closing brace they are kept each once, with the place of
-- its first mention, and no more than 65 of them: a function has 64 blocks, so of 65 names one is not declared, and "7 with the first
-- undeclared mention" is at one of these.
-- Assumes nothing.
use Rattle.std.specs.Prelude.{cond, ℕ, suc, ltb, length}
use mathlib.Core.List.{List, [], ◌∷◌, ◌++◌, foldl}
use Rattle.laws.specs.Lists.{position, same, gather}
use Rattle.language.specs.Programs.{max_blocks}
use Rattle.language.specs.Reading.{Mention, Draft, mentions_in, open_rows}

abbrev pub max_names : ℕ
max_names = suc max_blocks

-- The number of a name among those kept, or their count.
unfoldable pub name_number : List Mention → List ℕ → ℕ
name_number ks n = position (λ k. same k.name n) ks

-- One more mention: its name is kept if it is new and there is room for it.
unfoldable pub keep_mention : List Mention → Mention → List Mention
keep_mention ks m =
    cond (ltb (name_number ks m.name) (length ks)) ks (cond (ltb (length ks) max_names) (ks ++ (m ∷ [])) ks)

unfoldable pub kept_of : List Mention → List Mention
kept_of ms = foldl keep_mention [] ms

-- The mentions of the function in hand, in the order of the text: those of its rows, then those of the instruction in hand.
unfoldable pub mentions_of : Draft → List Mention
mentions_of d = gather mentions_in (open_rows d) ++ d.parts.mentions

unfoldable pub kept : Draft → List Mention
kept d = kept_of (mentions_of d)
