-- What lexemes, and the loops over a text, come to. Assumes nothing.
use Rattle.std.specs.Prelude.{◌≡◌, Bool, true, false, cond, ℕ, ◌+◌, ◌≤◌, ◌<◌, T, ltb, length, get_or, drop, Result, Ok, Err}
use mathlib.Core.List.{List, [], ◌∷◌, ◌++◌, foldl, map}
use Rattle.laws.specs.Lists.{gather}
use Rattle.laws.specs.Sections.{pad}
use Rattle.language.specs.Answers.{zeros}
use Rattle.language.specs.Programs.{Func, Program, max_functions, max_registers, max_name}
use Rattle.language.specs.Checking.{distinct}
use Rattle.language.specs.Table.{function_at, function_length, functions_length, register_length, register_names_offset, function_cells, cells}
use Rattle.language.specs.Tokens.{Token as Tokenᴸ, Found as Foundᴸ, Lexer as Lexerᴸ, tokens_from}
use Rattle.language.specs.Grammar.{Stage}
use Rattle.language.specs.Reading.{Draft, Parse, Reading, fresh}
use Rattle.language.specs.Reading as meaning
use Rattle.name_index.specs.Chains.{Indexed}
use Rattle.name_index.specs.Hashes.{heads}
use Rattle.name_index.specs.Names.{names_in}
use Rattle.grammar.specs.Meaning.{bytes_of, stage_is}
use Rattle.grammar.specs.declared.Token.{Token}
use Rattle.lexer.specs.Contents.{gathered_place, contents_in}
use Rattle.lexer.specs.Lexing as lexing
use Rattle.lexer.specs.Lexing.{Finds, Scanned, LexerFinished, left, idle_at}
use Rattle.lexer.specs.declared.Lexer.{Lexer}
use Rattle.lexer.specs.declared.Lexeme.{Lexeme}
use Rattle.lexer.specs.declared.Lexeme.TheVariants as lexemes
use Rattle.lexer.specs.declared.Found.{Found}
use Rattle.lexer.specs.declared.Found.TheVariants as founds
use Rattle.lexer.specs.declared.Lexed.{Lexed}
use Rattle.drafts.specs.State.{Bounded, Lent, lent_of, CellsIndexed, NamesHeld, function_names, fresh_at, names_length, pending_length}
use Rattle.drafts.specs.declared.state.Draft.{Draft as Draftᶜ}
use Rattle.drafts.specs.declared.state.Fault.{Fault}
use Rattle.answers.specs.Reasons.{reason_number}
use Rattle.text_place.specs.declared.TextPlace.{TextPlace}
use Rattle.reader.specs.Parse.{reader_at, Follows, Reads, Means, is_end}
use Rattle.reader.specs.declared.taking.Reader.{Reader}
use Rattle.reader.specs.declared.taking.Step.{Step}
use Rattle.reader.specs.declared.taking.Step.TheVariants as steps
use Rattle.reader.specs.declared.tokens.Spelled.{Spelled}
use Rattle.reader.specs.declared.reading.Progress.{Progress}

-- ---- a lexeme

abbrev pub is_end_lexeme : Lexeme → Bool
is_end_lexeme (lexemes.Plain s n) = false
is_end_lexeme (lexemes.Quoted s n) = false
is_end_lexeme (lexemes.Number g v) = false
is_end_lexeme (lexemes.Mark b) = false
is_end_lexeme lexemes.End = true

-- A token that is no name.
abbrev pub nameless : Token → Spelled
nameless t = record { token = t; from = 0; bytes = 0 }

-- The contents that a spelled token names.
abbrev pub spelled_bytes : (text h : List ℕ) → Spelled → List ℕ
spelled_bytes text h y = contents_in text h y.from y.bytes

-- A lexeme as a token, with the contents of a name in the text or in h.
pub record SpelledAs (text h : List ℕ) (x : Lexeme) (y : Spelled) : Type 0 where
  pub within : (y.from ≡ gathered_place → ⊥) → y.from + y.bytes ≤ length text
  pub room : y.bytes ≤ length h
  pub short : y.bytes ≤ max_name
  pub own : bytes_of y.token (spelled_bytes text h y) ≡ spelled_bytes text h y
  pub means : (m : Tokenᴸ) → lexing.Means text h x m → Means (spelled_bytes text h y) y.token m
  pub end : is_end y.token ≡ is_end_lexeme x

-- What the lexer found: what it finds in bytes, or the end.
pub data FoundAs (text h : List ℕ) : Found → List Foundᴸ → Type 0 where
  finds : {f : Found} {one : List Foundᴸ} → Finds text h f one → FoundAs text h f one
  end : (p : TextPlace) → p.byte ≤ length text → FoundAs text h (founds.Lexeme p lexemes.End) (Foundᴸ.token p.byte Tokenᴸ.end ∷ [])

pub record FoundHere (text h : List ℕ) (f : Found) : Type 0 where
  pub one : List Foundᴸ
  pub found : FoundAs text h f one

abbrev pub is_end_found : Found → Bool
is_end_found founds.Nothing = false
is_end_found (founds.Lexeme p x) = is_end_lexeme x
is_end_found (founds.Stray p) = false

abbrev pub TakesFound : (text h : List ℕ) (f : Found) (c : Reader) (x : Lent) (r : Result (Step Reader) Fault) (x' : Lent) → Type 0
TakesFound text h f c x r x' =
    (fs : List Func) (parse : Parse) → Reads fs x parse (Ok (steps.Reading c)) → (one : List Foundᴸ) → FoundAs text h f one
    → Reads fs x' (foldl meaning.take_token parse one) r

-- What comes next in a text: what a scan finds; at the end what the end ends, and the end.
pub data Nexts (text : List ℕ) (c : Lexer) (h : List ℕ) (r : Lexed) (h' : List ℕ) : Type 0 where
  scanned : c.next < length text → Scanned text c h r h' → Nexts text c h r h'
  finished : length text ≡ c.next → LexerFinished c r → h' ≡ h → Nexts text c h r h'

-- ---- between two bytes

-- Before the first byte.
abbrev pub progress_start : Progress
progress_start = record { lexer = idle_at 0 0; reader = reader_at 0 }

-- What is gathered of an open name is in h.
pub record LexerAt (text h : List ℕ) (l : Lexerᴸ) (c : Lexer) : Type 0 where
  pub stands : lexing.Stands h l c
  pub order : c.start ≤ c.next
  pub within : c.next ≤ length text

abbrev pub names_of : Draft → List (List ℕ)
names_of d = map (λ r. r.name) d.function.registers

-- With these functions closed, the reader, the cells of the function in hand, the functions' names and the names mentioned stand for a parse,
-- with whatever chains have the registers' names.
pub record Between (fs : List Func) (parse : Parse) (c : Reader) (f n p : List ℕ) : Type 0 where
  pub stage : Stage
  pub draft : Draft
  pub is : parse ≡ Parse.reading stage draft
  pub functions : draft.functions ≡ fs
  pub count : c.draft.functions ≡ length fs
  pub bounded : Bounded c.draft
  pub cells : length fs < max_functions → length f ≡ function_length
  pub follows :
      (last before : List ℕ) → length last ≡ heads → length before ≡ max_registers
      → (length fs < max_functions → Indexed (names_of draft) last before) → Follows stage draft c (lent_of f n p last before)
  pub names : length fs < max_functions → names_in f register_names_offset register_length c.draft.head.registers ≡ names_of draft
  pub once : length fs < max_functions → distinct (names_of draft) ≡ true

pub record ProgressReached (text : List ℕ) (x : Progress) (f n p h : List ℕ) : Type 0 where
  pub functions : List Func
  pub parse : Parse
  pub lexer : Lexerᴸ
  pub at : LexerAt text h lexer x.lexer
  pub between : Between functions parse x.reader f n p

-- What the chains of a function's registers need, and have.
pub record CellsFor (d : Draftᶜ) (f last before : List ℕ) : Type 0 where
  pub cells : d.functions < max_functions → length f ≡ function_length
  pub empty : Indexed [] last before

abbrev pub RegistersIndexed : (d : Draftᶜ) (f last before : List ℕ) → Type 0
RegistersIndexed d f last before =
    d.functions < max_functions → distinct (names_in f register_names_offset register_length d.head.registers) ≡ true → CellsIndexed d f last before

-- ---- bytes read

-- Bytes that end the text have none after them.
abbrev pub Rest : Bool → List ℕ → Type 0
Rest ends more = T ends → more ≡ []

-- What bytes come to, with what is open and what is read so far.
unfoldable pub to_go : Parse → Lexerᴸ → List ℕ → Parse
to_go parse l bytes = foldl meaning.take_token parse (tokens_from l bytes)

-- With g one function more is closed: its cells and its name are what is lent, and nothing is in hand.
pub record ClosedWith (fs : List Func) (g : Func) (c : Reader) (f n p : List ℕ) : Type 0 where
  pub less : length fs < max_functions
  pub stage : stage_is c.stage ≡ Stage.top
  pub draft : c.draft ≡ fresh_at (length fs + 1)
  pub cells : f ≡ function_cells g
  pub names : NamesHeld (function_names (fs ++ (g ∷ []))) n
  pub lengths : (length f ≡ function_length) × (length n ≡ names_length) × (length p ≡ pending_length)

-- From a parse and a lexer, with the functions fs closed, the bytes lent come to an answer, to one function more, to their end, or to the
-- text's. Whatever comes after them, all bytes come to the same from here and from there.
pub data Arrives (text : List ℕ) (ends : Bool) (fs : List Func) (parse : Parse) (l : Lexerᴸ) (c : Lexer) (f n p h : List ℕ) : Result (Step Progress) Fault → Type 0 where
  refused : (e : Fault) → ((more : List ℕ) → Rest ends more → to_go parse l (drop c.next text ++ more) ≡ Parse.refused (reason_number e.reason) e.at.byte)
      → Arrives text ends fs parse l c f n p h (Err e)
  closed : (g : Func) (y : Progress) (l' : Lexerᴸ) → LexerAt text h l' y.lexer → left text y.lexer < left text c → ClosedWith fs g y.reader f n p
      → ((more : List ℕ) → Rest ends more
      → to_go parse l (drop c.next text ++ more) ≡ to_go (Parse.reading Stage.top (fresh (fs ++ (g ∷ [])))) l' (drop y.lexer.next text ++ more))
      → Arrives text ends fs parse l c f n p h (Ok (steps.Closed y))
  reading : (parse' : Parse) (y : Progress) (l' : Lexerᴸ) → ends ≡ false → LexerAt text h l' y.lexer → length text ≤ y.lexer.next → Between fs parse' y.reader f n p
      → ((more : List ℕ) → to_go parse l (drop c.next text ++ more) ≡ to_go parse' l' (drop y.lexer.next text ++ more))
      → Arrives text ends fs parse l c f n p h (Ok (steps.Reading y))
  ended : (y : Progress) → ends ≡ true → y.reader.draft.functions ≡ length fs → (length fs < max_functions → f ≡ zeros function_length) → to_go parse l (drop c.next text ++ []) ≡ Parse.reading Stage.top (fresh fs)
      → Arrives text ends fs parse l c f n p h (Ok (steps.Ended y))

abbrev pub Advances : (text : List ℕ) (ends : Bool) (x : Progress) (f n p h : List ℕ) (r : Result (Step Progress) Fault) (f' n' p' h' : List ℕ) → Type 0
Advances text ends x f n p h r f' n' p' h' =
    (fs : List Func) (parse : Parse) (l : Lexerᴸ) → LexerAt text h l x.lexer → Between fs parse x.reader f n p
    → Arrives text ends fs parse l x.lexer f' n' p' h' r

-- ---- a table

-- Where the cells of function n end; behind the last there are none.
abbrev pub end_of : ℕ → ℕ
end_of n = cond (ltb n max_functions) (function_at n + function_length) (function_at n)

-- The table with functions closed and the cells of the function in hand, as far as there is room for it. The count is put down at the end.
unfoldable pub table_with : List Func → List ℕ → List ℕ
table_with fs f = 0 ∷ pad functions_length (gather function_cells fs ++ f)

-- The function in hand has its cells in the table.
pub record InTable (fs : List Func) (parse : Parse) (c : Reader) (t n p : List ℕ) : Type 0 where
  pub cells : List ℕ
  pub few : length fs ≤ max_functions
  pub whole : (g : Func) (i : ℕ) → i < length fs → length (function_cells (get_or fs i g)) ≡ function_length
  pub size : length cells ≡ cond (ltb (length fs) max_functions) function_length 0
  pub table : t ≡ table_with fs cells
  pub between : Between fs parse c cells n p

pub record TableReached (text : List ℕ) (x : Progress) (t n p h : List ℕ) : Type 0 where
  pub functions : List Func
  pub parse : Parse
  pub lexer : Lexerᴸ
  pub at : LexerAt text h lexer x.lexer
  pub in_table : InTable functions parse x.reader t n p

-- The same through all functions: the bytes lent come to an answer, to their end, or to the text's, with the table of all functions.
pub data Fed (text : List ℕ) (ends : Bool) (parse : Parse) (l : Lexerᴸ) (c : Lexer) (t n p h : List ℕ) : Result (Step Progress) Fault → Type 0 where
  refused : (e : Fault) → ((more : List ℕ) → Rest ends more → to_go parse l (drop c.next text ++ more) ≡ Parse.refused (reason_number e.reason) e.at.byte)
      → Fed text ends parse l c t n p h (Err e)
  reading : (fs : List Func) (parse' : Parse) (y : Progress) (l' : Lexerᴸ) → ends ≡ false → LexerAt text h l' y.lexer → length text ≤ y.lexer.next
      → InTable fs parse' y.reader t n p
      → ((more : List ℕ) → to_go parse l (drop c.next text ++ more) ≡ to_go parse' l' (drop y.lexer.next text ++ more))
      → Fed text ends parse l c t n p h (Ok (steps.Reading y))
  ended : (fs : List Func) (y : Progress) → ends ≡ true → y.reader.draft.functions ≡ length fs → length fs ≤ max_functions → t ≡ table_with fs []
      → to_go parse l (drop c.next text ++ []) ≡ Parse.reading Stage.top (fresh fs) → Fed text ends parse l c t n p h (Ok (steps.Ended y))

abbrev pub Feeds : (text : List ℕ) (ends : Bool) (x : Progress) (t n p h : List ℕ) (r : Result (Step Progress) Fault) (t' n' p' h' : List ℕ) → Type 0
Feeds text ends x t n p h r t' n' p' h' =
    (fs : List Func) (parse : Parse) (l : Lexerᴸ) → LexerAt text h l x.lexer → InTable fs parse x.reader t n p
    → Fed text ends parse l x.lexer t' n' p' h' r

-- ---- a whole text

-- The definition's answer, or the table of its program.
pub data ToldOf (t : List ℕ) : Reading → Result Unit Fault → Type 0 where
  refused : (e : Fault) → ToldOf t (Reading.refused (reason_number e.reason) e.at.byte) (Err e)
  program : (p : Program) → t ≡ cells p → ToldOf t (Reading.program p) (Ok tt)

-- The same without a table.
pub data JudgedAs : Reading → Result Unit Fault → Type 0 where
  refused : (e : Fault) → JudgedAs (Reading.refused (reason_number e.reason) e.at.byte) (Err e)
  program : (p : Program) → JudgedAs (Reading.program p) (Ok tt)
