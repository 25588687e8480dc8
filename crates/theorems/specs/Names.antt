-- What holds of names and their spellings (document 02, A2): names are "kept in tables and compared by contents: no outer quotes, and each
-- backslash directly before a quote is dropped. The 64 bytes are counted on the contents. A quoted keyword is still a name."
-- Assumes nothing.
use Rattle.std.specs.Prelude.{◌≡◌, false, ◌↔◌, List, [], ◌∷◌, ◌++◌, ℕ, ◌+◌, ◌≤◌, T, length, get_or}
use Rattle.laws.specs.Sections.{Bytes}
use Rattle.language.specs.Bytes.{name_byte, quote_byte}
use Rattle.language.specs.Programs.{max_name}
use Rattle.language.specs.Names.{unquoted, inside_after, spellable, plain_bytes, spelling}
use Rattle.language.specs.Tokens.{Token, Found, token, stray, Mode, Lexer, tokens_from, tokens_of}

-- ---- spellings

-- The name is found in its spelling, and nothing else.
abbrev pub Alone : List ℕ → Type 0
Alone n = tokens_of (spelling n) ≡ token 0 (Token.name n) ∷ token (length (spelling n)) Token.end ∷ []

abbrev pub AloneInSpelling : Type 0
AloneInSpelling = (n : List ℕ) → T (spellable n) → Alone n

-- A name no text can spell is not found so.
abbrev pub SpellableExactly : Type 0
SpellableExactly = (n : List ℕ) → Bytes n → T (spellable n) ↔ Alone n

-- Every name found in a text, wherever among the tokens, is spellable.
abbrev pub NamesSpellable : Type 0
NamesSpellable = (text : List ℕ) → Bytes text → (i place : ℕ) (n : List ℕ) → get_or (tokens_of text) i (stray 0) ≡ token place (Token.name n) → T (spellable n)

-- Nothing is open in l, nor in l', which stands so many bytes later.
pub record Later (bytes : ℕ) (l l' : Lexer) : Type 0 where
  pub before : l.mode ≡ Mode.between
  pub after : l'.mode ≡ Mode.between
  pub next : l'.next ≡ l.next + bytes

-- Anywhere in a text, a name's spelling before a byte that is no name character is that name, and what follows is found as after it.
abbrev pub BeforeSeparator : Type 0
BeforeSeparator =
    (n : List ℕ) → T (spellable n) → (b : ℕ) → name_byte b ≡ false
    → (l l' : Lexer) → Later (length (spelling n)) l l'
    → (rest : List ℕ) → tokens_from l (spelling n ++ (b ∷ rest)) ≡ token l.next (Token.name n) ∷ tokens_from l' (b ∷ rest)

-- ---- bytes in quotes

-- "A name has 1 to 64 bytes", "counted on the contents".
abbrev pub Sized : List ℕ → Type 0
Sized n = (1 ≤ length n) × (length n ≤ max_name)

abbrev pub in_quotes : List ℕ → List ℕ → List ℕ
in_quotes bs rest = quote_byte ∷ (bs ++ (quote_byte ∷ rest))

-- Bytes between two quotes, the second being the first that is bare, are a name by their contents, before any bytes.
abbrev pub QuotedContents : Type 0
QuotedContents =
    (bs : List ℕ) → T (inside_after false bs) → Sized (unquoted bs)
    → (l l' : Lexer) → Later (length bs + 2) l l'
    → (rest : List ℕ) → tokens_from l (in_quotes bs rest) ≡ token l.next (Token.name (unquoted bs)) ∷ tokens_from l' rest

-- With no contents, or more than 64 bytes of them, they are no token, and the first quote is the stray.
abbrev pub QuotedSpoils : Type 0
QuotedSpoils =
    (bs : List ℕ) → T (inside_after false bs) → ¬ Sized (unquoted bs)
    → (l : Lexer) → l.mode ≡ Mode.between
    → (rest : List ℕ) → (later : List Found) × (tokens_from l (in_quotes bs rest) ≡ stray l.next ∷ later)

-- "A client declared `x` and used `'x'`", "A quoted keyword is still a name": the bytes of a plain name or a word, in quotes, are these contents.
abbrev pub QuotedPlain : Type 0
QuotedPlain =
    (n : List ℕ) → T (plain_bytes n) → length n ≤ max_name
    → (l l' : Lexer) → Later (length n + 2) l l'
    → (rest : List ℕ) → tokens_from l (in_quotes n rest) ≡ token l.next (Token.name n) ∷ tokens_from l' rest
