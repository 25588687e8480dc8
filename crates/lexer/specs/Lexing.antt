-- What the lexer's numbers stand for: the definition's lexer and what it finds (document 01, "The text"). Assumes nothing.
use Rattle.std.specs.Prelude.{Bool, true, false, cond, List, [], ◌∷◌, ◌++◌, ◌≡◌, ℕ, ◌+◌, ◌-◌, ◌*◌, ◌≤◌, ◌<◌, eqb, length, take, drop, Option}
use Rattle.language.specs.Programs.{max_name}
use Rattle.language.specs.Tokens as meaning
use Rattle.language.specs.Tokens.{name_or_word, tokens_from}
use Rattle.lexer.specs.declared.Lexer.{Lexer}
use Rattle.text_place.specs.declared.TextPlace.{TextPlace}
use Rattle.lexer.specs.declared.Lexeme.{Lexeme}
use Rattle.lexer.specs.declared.Lexeme.TheVariants as lexemes
use Rattle.lexer.specs.declared.Found.{Found}
use Rattle.lexer.specs.declared.Found.TheVariants as founds
use Rattle.lexer.specs.declared.Lexed.{Lexed}
use Rattle.lexer.specs.Numbers.{amount_of, amount_said}
use Rattle.lexer.specs.Contents.{gathered_place, contents_in}
use Rattle.lexer.specs.Actions.{mode_number}

abbrev pub lexer_from : (mode next start : ℕ) (negative : Bool) (value : ℕ) (over : Bool) → Lexer
lexer_from m n s g v o = record { mode = m; next = n; start = s; negative = g; value = v; over = o }

-- Between tokens or in a comment, before the byte at p.
abbrev pub idle_at : (mode place : ℕ) → Lexer
idle_at m p = lexer_from m p p false 0 false

abbrev pub lexed_from : Lexer → Found → Lexed
lexed_from l f = record { lexer = l; found = f }

abbrev pub place_at : ℕ → TextPlace
place_at p = record { byte = p }

-- ---- what the numbers stand for

-- The contents of a name; in another mode there are none.
abbrev pub held : meaning.Mode → List ℕ → List ℕ
held meaning.Mode.between xs = []
held meaning.Mode.plain xs = xs
held meaning.Mode.quoted xs = xs
held meaning.Mode.escaping xs = xs
held meaning.Mode.slash xs = []
held meaning.Mode.comment xs = []
held meaning.Mode.sign xs = []
held meaning.Mode.leading_zero xs = []
held meaning.Mode.decimal xs = []
held meaning.Mode.prefix xs = []
held meaning.Mode.hexadecimal xs = []

-- "1 to 64 bytes"
abbrev pub NameSize : ℕ → Type 0
NameSize n = (1 ≤ n) × (n ≤ max_name)

-- A plain name that is open has them already, a quoted one not more.
abbrev pub Sized : meaning.Mode → ℕ → Type 0
Sized meaning.Mode.between n = Unit {0}
Sized meaning.Mode.plain n = NameSize n
Sized meaning.Mode.quoted n = n ≤ max_name
Sized meaning.Mode.escaping n = n ≤ max_name
Sized meaning.Mode.slash n = Unit {0}
Sized meaning.Mode.comment n = Unit {0}
Sized meaning.Mode.sign n = Unit {0}
Sized meaning.Mode.leading_zero n = Unit {0}
Sized meaning.Mode.decimal n = Unit {0}
Sized meaning.Mode.prefix n = Unit {0}
Sized meaning.Mode.hexadecimal n = Unit {0}

-- What is kept of a number's value; a name has none.
abbrev pub Valued : meaning.Mode → (value : Option ℕ) → ℕ → Type 0
Valued meaning.Mode.between v n = v ≡ amount_of n
Valued meaning.Mode.plain v n = Unit {0}
Valued meaning.Mode.quoted v n = Unit {0}
Valued meaning.Mode.escaping v n = Unit {0}
Valued meaning.Mode.slash v n = v ≡ amount_of n
Valued meaning.Mode.comment v n = v ≡ amount_of n
Valued meaning.Mode.sign v n = v ≡ amount_of n
Valued meaning.Mode.leading_zero v n = v ≡ amount_of n
Valued meaning.Mode.decimal v n = v ≡ amount_of n
Valued meaning.Mode.prefix v n = v ≡ amount_of n
Valued meaning.Mode.hexadecimal v n = v ≡ amount_of n

-- The lexer c stands for the definition's l, with the contents of a name that is open in h. Where no name is open, a value of 2^64 or more is kept as 0.
pub record Stands (h : List ℕ) (l : meaning.Lexer) (c : Lexer) : Type 0 where
  pub room : length h ≡ max_name
  pub mode : c.mode ≡ mode_number l.mode
  pub next : c.next ≡ l.next
  pub start : c.start ≡ l.start
  pub bytes : l.bytes ≡ held l.mode (take c.value h)
  pub size : Sized l.mode c.value
  pub negative : c.negative ≡ l.negative
  pub amount : Valued l.mode (amount_said c.value c.over) l.value
  pub zeroed : held l.mode (0 ∷ []) ≡ [] → c.over ≡ true → c.value ≡ 0

-- A lexeme, with contents in the text or in h, and the definition's token: a number that is kept as this one. The end is found in no bytes.
pub data Means (text h : List ℕ) : Lexeme → meaning.Token → Type 0 where
  plain : (s n : ℕ) → Means text h (lexemes.Plain s n) (name_or_word (contents_in text h s n))
  quoted : (s n : ℕ) → Means text h (lexemes.Quoted s n) (meaning.Token.name (contents_in text h s n))
  number : (g : Bool) (v : Option ℕ) (n : ℕ) → v ≡ amount_of n → Means text h (lexemes.Number g v) (meaning.Token.number g n)
  mark : (b : ℕ) → Means text h (lexemes.Mark b) (meaning.Token.mark b)

-- The contents lie in the text or in h, and are a name's by their size.
pub record Lies (text h : List ℕ) (s n : ℕ) : Type 0 where
  pub size : NameSize n
  pub room : n ≤ length h
  pub part : (s ≡ gathered_place → ⊥) → s + n ≤ length text

abbrev pub Within : (text h : List ℕ) → Lexeme → Type 0
Within text h (lexemes.Plain s n) = Lies text h s n
Within text h (lexemes.Quoted s n) = Lies text h s n
Within text h (lexemes.Number g v) = Unit {0}
Within text h (lexemes.Mark b) = Unit {0}
Within text h lexemes.End = Unit {0}

-- What an answer of the lexer stands for: nothing, or one thing found.
pub data Finds (text h : List ℕ) : Found → List meaning.Found → Type 0 where
  nothing : Finds text h founds.Nothing []
  lexeme : (p : TextPlace) (x : Lexeme) (t : meaning.Token) → Means text h x t → Within text h x → p.byte ≤ length text
      → Finds text h (founds.Lexeme p x) (meaning.Found.token p.byte t ∷ [])
  stray : (p : TextPlace) → Finds text h (founds.Stray p) (meaning.Found.stray p.byte ∷ [])

-- ---- what the functions promise

-- From the definition's l, for which c stands, the bytes from c's place up to d's find `one` and lead to a lexer for which d stands, whatever
-- bytes come after the text.
pub record Reaches (text : List ℕ) (l : meaning.Lexer) (c d : Lexer) (h : List ℕ) (one : List meaning.Found) : Type 0 where
  pub after : meaning.Lexer
  pub stands : Stands h after d
  pub tokens : (more : List ℕ) → tokens_from l (drop c.next text ++ more) ≡ one ++ tokens_from after (drop d.next text ++ more)

-- The bytes from c's place up to d's find nothing; h and h' are what is gathered before and after them.
pub record Passed (text : List ℕ) (c : Lexer) (h : List ℕ) (d : Lexer) (h' : List ℕ) : Type 0 where
  pub forth : c.next ≤ d.next
  pub within : d.next ≤ length text
  pub order : d.start ≤ d.next
  pub reaches : (l : meaning.Lexer) → Stands h l c → Reaches text l c d h' []

-- The answer stands for what the bytes from c's place up to the answer's find.
pub record Gives (text : List ℕ) (l : meaning.Lexer) (c : Lexer) (r : Lexed) (h : List ℕ) : Type 0 where
  pub one : List meaning.Found
  pub finds : Finds text h r.found one
  pub reaches : Reaches text l c r.lexer h one

pub record Lexes (text : List ℕ) (c : Lexer) (h : List ℕ) (r : Lexed) (h' : List ℕ) : Type 0 where
  pub forth : c.next ≤ r.lexer.next
  pub within : r.lexer.next ≤ length text
  pub order : r.lexer.start ≤ r.lexer.next
  pub gives : (l : meaning.Lexer) → Stands h l c → Gives text l c r h'

-- What is left to do: a byte counts two, and one more if something is open, which a byte may end without being passed.
unfoldable pub left : List ℕ → Lexer → ℕ
left text c = 2 * (length text - c.next) + cond (eqb c.mode 0) 0 1

-- After a scan less is left.
pub record Scanned (text : List ℕ) (c : Lexer) (h : List ℕ) (r : Lexed) (h' : List ℕ) : Type 0 where
  pub lexes : Lexes text c h r h'
  pub less : left text r.lexer < left text c

-- At the end of the text: with nothing open the end is found,
pub record FindsEnd (l : meaning.Lexer) (c : Lexer) (r : Lexed) : Type 0 where
  pub found : r.found ≡ founds.Lexeme (place_at c.next) lexemes.End
  pub tokens : tokens_from l [] ≡ meaning.Found.token l.next meaning.Token.end ∷ []

-- and else what is open, after which nothing is.
pub record FindsLast (text h : List ℕ) (l : meaning.Lexer) (c : Lexer) (r : Lexed) : Type 0 where
  pub one : List meaning.Found
  pub finds : Finds text h r.found one
  pub idle : r.lexer ≡ idle_at 0 c.next
  pub less : left text r.lexer < left text c
  pub after : meaning.Lexer
  pub stands : Stands h after r.lexer
  pub tokens : tokens_from l [] ≡ one ++ tokens_from after []

pub data Ending (text h : List ℕ) (l : meaning.Lexer) (c : Lexer) (r : Lexed) : Type 0 where
  end : FindsEnd l c r → Ending text h l c r
  last : FindsLast text h l c r → Ending text h l c r

-- In any text that is as long as the bytes that the lexer has passed.
pub record LexerFinished (c : Lexer) (r : Lexed) : Type 0 where
  pub gives : (text h : List ℕ) → length text ≡ c.next → (l : meaning.Lexer) → Stands h l c → c.start ≤ c.next → Ending text h l c r
