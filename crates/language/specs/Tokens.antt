-- Tokens and the lexer, a machine that takes a text byte by byte (document 01, "The text"). Assumes nothing.
use Rattle.std.specs.Prelude.{Bool, false, cond, ℕ, ◌+◌, ◌-◌, ◌*◌, eqb, leb, length}
use mathlib.Core.List.{List, [], ◌∷◌, ◌++◌, foldl}
use Rattle.language.specs.Bytes.{Class, class_of, name_byte, digit_byte, hex_byte, hex_value, quote_byte, slash_byte, minus, digit_zero, line_feed, backslash, letter_x}
use Rattle.language.specs.Words.{word_of, word_count}
use Rattle.language.specs.Programs.{max_name}

-- "A token is a name, a word, a number, a mark or the end." A name is its contents (document 02, A2).
pub data Token : Type 0 where
  name : (contents : List ℕ) → Token
  word : (number : ℕ) → Token
  number : (negative : Bool) (magnitude : ℕ) → Token
  mark : (byte : ℕ) → Token
  end : Token

-- Where something stands in a text: at a byte, counted from 0.
abbrev pub TextPlace : Type 0
TextPlace = ℕ

-- What the lexer finds: a token, or a place that has none (answer 2). "A token's byte is its first", and what would have been
-- a token is placed in the same way.
pub data Found : Type 0 where
  token : (place : TextPlace) (token : Token) → Found
  stray : (place : TextPlace) → Found

-- What the bytes so far leave open: nothing; a plain name; a quoted name, in it or directly after a backslash in it, which may be dropped;
-- one slash; a comment; a sign; a first digit 0; decimal digits; `0x`; `0x` and hexadecimal digits.
pub data Mode : Type 0 where
  between plain quoted escaping slash comment sign leading_zero decimal prefix hexadecimal : Mode

-- `next` is the place of the next byte, `start` that of the byte which began what is open, `bytes` are a name's contents so far,
-- `negative` and `value` are a number's so far.
pub record Lexer : Type 0 where
  pub mode : Mode
  pub next : ℕ
  pub start : ℕ
  pub bytes : List ℕ
  pub negative : Bool
  pub value : ℕ

-- The lexer after a byte, and what that byte ended: nothing, one or two.
pub record Lexed : Type 0 where
  pub lexer : Lexer
  pub found : List Found

-- The byte at p begins this mode.
abbrev pub begun : Mode → ℕ → Lexer
begun m p = record { mode = m; next = p + 1; start = p; bytes = []; negative = false; value = 0 }

abbrev pub begun_name : Mode → ℕ → ℕ → Lexer
begun_name m p b = record { mode = m; next = p + 1; start = p; bytes = b ∷ []; negative = false; value = 0 }

abbrev pub begun_number : Mode → ℕ → Bool → ℕ → Lexer
begun_number m p s v = record { mode = m; next = p + 1; start = p; bytes = []; negative = s; value = v }

-- One byte more of a name, with which its contents have these bytes more.
abbrev pub longer_name : Mode → Lexer → List ℕ → Lexer
longer_name m l bs = record { mode = m; next = l.next + 1; start = l.start; bytes = l.bytes ++ bs; negative = false; value = 0 }

-- A backslash more, which waits: the contents are as they were.
abbrev pub waiting_name : Lexer → Lexer
waiting_name l = record { mode = Mode.escaping; next = l.next + 1; start = l.start; bytes = l.bytes; negative = false; value = 0 }

abbrev pub longer_number : Mode → Lexer → ℕ → Lexer
longer_number m l v = record { mode = m; next = l.next + 1; start = l.start; bytes = []; negative = l.negative; value = v }

abbrev pub quiet : Lexer → Lexed
quiet l = record { lexer = l; found = [] }

abbrev pub finds : Found → Lexer → Lexed
finds f l = record { lexer = l; found = f ∷ [] }

-- A byte makes what is open no token.
abbrev pub spoils : Lexer → Lexed
spoils l = finds (stray l.start) (begun Mode.between l.next)

-- Zero begins `0x` too.
abbrev pub digit_mode : ℕ → Mode
digit_mode b = cond (eqb b digit_zero) Mode.leading_zero Mode.decimal

-- The byte b at p with nothing open, by its class.
abbrev pub begin_as : Class → ℕ → ℕ → Lexed
begin_as Class.letter p b = quiet (begun_name Mode.plain p b)
begin_as Class.digit p b = quiet (begun_number (digit_mode b) p false (b - digit_zero))
begin_as Class.space p b = quiet (begun Mode.between p)
begin_as Class.quote p b = quiet (begun Mode.quoted p)
begin_as Class.sign p b = quiet (begun_number Mode.sign p (eqb b minus) 0)
begin_as Class.slash p b = quiet (begun Mode.slash p)
begin_as Class.mark p b = finds (token p (Token.mark b)) (begun Mode.between p)
begin_as Class.other p b = finds (stray p) (begun Mode.between p)

unfoldable pub begin : ℕ → ℕ → Lexed
begin p b = begin_as (class_of b) p b

-- "A plain spelling of .. is a word and never a name."
unfoldable pub name_or_word : List ℕ → Token
name_or_word n = cond (eqb (word_of n) word_count) (Token.name n) (Token.word (word_of n))

-- What is open, ended by a byte that does not belong to it or by the text's end: "one slash alone is no token", nor is a sign
-- alone, `0x` alone or a quoted name that is not closed.
abbrev pub ended_as : Mode → Lexer → List Found
ended_as Mode.between l = []
ended_as Mode.plain l = token l.start (name_or_word l.bytes) ∷ []
ended_as Mode.quoted l = stray l.start ∷ []
ended_as Mode.escaping l = stray l.start ∷ []
ended_as Mode.slash l = stray l.start ∷ []
ended_as Mode.comment l = []
ended_as Mode.sign l = stray l.start ∷ []
ended_as Mode.leading_zero l = token l.start (Token.number l.negative l.value) ∷ []
ended_as Mode.decimal l = token l.start (Token.number l.negative l.value) ∷ []
ended_as Mode.prefix l = stray l.start ∷ []
ended_as Mode.hexadecimal l = token l.start (Token.number l.negative l.value) ∷ []

unfoldable pub ended : Lexer → List Found
ended l = ended_as l.mode l

-- What is open ends before this byte, which begins something itself.
unfoldable pub ends : Lexer → ℕ → Lexed
ends l b =
    let x = begin l.next b in
    record { lexer = x.lexer; found = ended l ++ x.found }

-- "The 64 bytes are counted on the contents."
unfoldable pub extends : Mode → Lexer → List ℕ → Lexed
extends m l bs = cond (leb (length l.bytes + length bs) max_name) (quiet (longer_name m l bs)) (spoils l)

-- The quote that closes: "quote, one or more bytes, quote", of which the contents have "no outer quotes".
unfoldable pub closes : Lexer → Lexed
closes l =
    cond (eqb (length l.bytes) 0) (spoils l)
    (finds (token l.start (Token.name l.bytes)) (begun Mode.between l.next))

-- A byte inside quotes. A backslash waits outside the contents for the byte after it.
unfoldable pub quotes : Lexer → ℕ → Lexed
quotes l b =
    cond (eqb b quote_byte) (closes l)
    (cond (eqb b backslash) (quiet (waiting_name l)) (extends Mode.quoted l (b ∷ [])))

-- The byte after a backslash: "a backslash directly before a quote makes that quote part of the name" and "is dropped"; before any other
-- byte it stays, and if that is a backslash, it waits in its turn.
unfoldable pub escapes : Lexer → ℕ → Lexed
escapes l b =
    cond (eqb b quote_byte) (extends Mode.quoted l (b ∷ []))
    (cond (eqb b backslash) (extends Mode.escaping l (b ∷ [])) (extends Mode.quoted l (backslash ∷ b ∷ [])))

-- A byte after a number. "A name character directly after makes it no token."
unfoldable pub ends_number : Lexer → ℕ → Lexed
ends_number l b = cond (name_byte b) (spoils l) (ends l b)

unfoldable pub decimal_digit : Mode → Lexer → ℕ → Lexed
decimal_digit m l b = quiet (longer_number m l (10 * l.value + (b - digit_zero)))

unfoldable pub hexadecimal_digit : Lexer → ℕ → Lexed
hexadecimal_digit l b = quiet (longer_number Mode.hexadecimal l (16 * l.value + hex_value b))

-- "optional sign directly before decimal digits, or before `0x` and hexadecimal digits"; "`//` starts a comment up to LF or the
-- end".
abbrev pub step_as : Mode → Lexer → ℕ → Lexed
step_as Mode.between l b = begin l.next b
step_as Mode.plain l b = cond (name_byte b) (extends Mode.plain l (b ∷ [])) (ends l b)
step_as Mode.quoted l b = quotes l b
step_as Mode.escaping l b = escapes l b
step_as Mode.slash l b = cond (eqb b slash_byte) (quiet (begun Mode.comment l.next)) (ends l b)
step_as Mode.comment l b = quiet (begun (cond (eqb b line_feed) Mode.between Mode.comment) l.next)
step_as Mode.sign l b = cond (digit_byte b) (decimal_digit (digit_mode b) l b) (ends l b)
step_as Mode.leading_zero l b =
    cond (eqb b letter_x) (quiet (longer_number Mode.prefix l 0))
    (cond (digit_byte b) (decimal_digit Mode.decimal l b) (ends_number l b))
step_as Mode.decimal l b = cond (digit_byte b) (decimal_digit Mode.decimal l b) (ends_number l b)
step_as Mode.prefix l b = cond (hex_byte b) (hexadecimal_digit l b) (ends l b)
step_as Mode.hexadecimal l b = cond (hex_byte b) (hexadecimal_digit l b) (ends_number l b)

-- One byte.
unfoldable pub lex_step : Lexer → ℕ → Lexed
lex_step l b = step_as l.mode l b

-- The end of the text: "A token's byte is its first, the end's the text's length."
unfoldable pub lex_end : Lexer → List Found
lex_end l = ended l ++ (token l.next Token.end ∷ [])

-- Before the first byte.
abbrev pub lexer₀ : Lexer
lexer₀ = record { mode = Mode.between; next = 0; start = 0; bytes = []; negative = false; value = 0 }

-- One byte more of a text whose bytes so far gave x.
unfoldable pub lex_more : Lexed → ℕ → Lexed
lex_more x b =
    let y = lex_step x.lexer b in
    record { lexer = y.lexer; found = x.found ++ y.found }

-- All that is found in bytes, with what is open in l before them.
unfoldable pub tokens_from : Lexer → List ℕ → List Found
tokens_from l bytes =
    let x = foldl lex_more (quiet l) bytes in
    x.found ++ lex_end x.lexer

-- All that is found in a text.
unfoldable pub tokens_of : List ℕ → List Found
tokens_of text = tokens_from lexer₀ text
