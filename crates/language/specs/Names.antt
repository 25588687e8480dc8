-- Names by their contents (document 02, A2: "Names are from now kept in tables and compared by contents: no outer quotes, and each backslash
-- directly before a quote is dropped"), and how contents are spelled. Assumes nothing.
use Rattle.std.specs.Prelude.{Bool, false, cond, not, ◌&&◌, List, [], ◌∷◌, ◌++◌, ℕ, ◌-◌, eqb, ltb, leb, length, get_or}
use Rattle.laws.specs.Lists.{all, empty, gather}
use Rattle.language.specs.Bytes.{name_byte, letter_byte, quote_byte, backslash}
use Rattle.language.specs.Words.{word_of, word_count}
use Rattle.language.specs.Programs.{max_name}

-- ---- contents

-- A quote comes next.
abbrev pub quote_next : List ℕ → Bool
quote_next [] = false
quote_next (b ∷ bs) = eqb b quote_byte

-- The contents of a name with these bytes between its outer quotes: "each backslash directly before a quote is dropped".
abbrev pub unquoted : List ℕ → List ℕ
unquoted [] = []
unquoted (b ∷ bs) = cond (eqb b backslash && quote_next bs) (unquoted bs) (b ∷ unquoted bs)

-- What may stand between the outer quotes, and whether the byte before is a backslash: "Any byte but a bare quote may stand inside; a backslash
-- directly before a quote makes that quote part of the name", the closing one too.
abbrev pub inside_after : (slash : Bool) → List ℕ → Bool
inside_after slash [] = not slash
inside_after slash (b ∷ bs) = cond (eqb b quote_byte) (slash && inside_after false bs) (inside_after (eqb b backslash) bs)

-- The last byte is a backslash.
unfoldable pub slash_last : List ℕ → Bool
slash_last n = eqb (get_or n (length n - 1) 0) backslash

-- Some text can spell these contents: "1 to 64 bytes", counted on them. A backslash does not come last: it would make the closing quote part of
-- the name. Any byte may stand anywhere else; a number that is no byte's is in no text.
unfoldable pub spellable : List ℕ → Bool
spellable n = not (empty n) && leb (length n) max_name && not (slash_last n) && all (λ b. ltb b 256) n

-- ---- spellings

-- "letter, `.` or `_`, then those or digits"
abbrev pub plain_bytes : List ℕ → Bool
plain_bytes [] = false
plain_bytes (b ∷ n) = letter_byte b && all name_byte n

-- A plain spelling is possible: a word is "never a name".
unfoldable pub plain_name : List ℕ → Bool
plain_name n = plain_bytes n && eqb (word_of n) word_count

-- "a backslash directly before a quote makes that quote part of the name"
unfoldable pub escaped : List ℕ → List ℕ
escaped n = gather (λ b. cond (eqb b quote_byte) (backslash ∷ b ∷ []) (b ∷ [])) n

-- How contents are spelled: "quotes only where plain spelling isn't possible".
unfoldable pub spelling : List ℕ → List ℕ
spelling n = cond (plain_name n) n (quote_byte ∷ (escaped n ++ (quote_byte ∷ [])))
