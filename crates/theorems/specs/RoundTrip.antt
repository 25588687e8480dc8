-- The round trip (document 02, A1): "Read back, the text gives the same table, cells not needed 0, with the made names filled in." First over
-- programs, then over tables and lent buffers, then of a translation.
-- Assumes nothing.
use Rattle.std.specs.Prelude.{◌≡◌, Bool, not, ◌&&◌, ◌⊎◌, ◌↔◌, ℕ, ◌+◌, ◌-◌, ◌*◌, ◌≤◌, ◌<◌, T, leb, ltb, length, get_or, take, drop}
use mathlib.Core.List.{List, [], ◌∷◌, ◌++◌, map, foldl}
use Rattle.laws.specs.Lists.{any, all}
use Rattle.language.specs.Bytes.{digit_zero}
use Rattle.language.specs.Programs.{Func, Program, function_in, is_phi, rows_of, max_text}
use Rattle.language.specs.Tokens.{Token, Found, token, tokens_of}
use Rattle.language.specs.Reading.{Reading, read}
use Rattle.language.specs.Checking.{Verdict, check}
use Rattle.language.specs.Running.{run_of, arguments_fit}
use Rattle.language.specs.Table.{table_length, cells, decode}
use Rattle.language.specs.Translating.{translation}
use Rattle.language.specs.Listing.{digits}
use Rattle.language.specs.Writing.{tokens}
use Rattle.language.specs.MadeNames.{register_prefix, block_prefix, made_name, named_function, named, written}
use Rattle.language.specs.Answers.{Wrote, Shown, zeros, fill, wrote_numbers, check_answer, read_answer, run_answer, translate_answer, write_answer}
use Rattle.theorems.specs.TableNeeds.{Needed}
use Rattle.theorems.specs.Demand3.{RunsAlike}
use Rattle.theorems.specs.OverTables.{function_in_table, TranslatableIn, RunsAgree}

-- ---- numbers in the text

-- A decimal digit, and the number that digits stand for.
abbrev pub is_decimal : ℕ → Bool
is_decimal b = leb digit_zero b && ltb b (digit_zero + 10)

abbrev pub worth : List ℕ → ℕ
worth ds = foldl (λ v b. 10 * v + (b - digit_zero)) 0 ds

-- "shortest decimal numbers": there are digits, they stand for the number, and no digits that do are fewer.
pub record Shortest (n : ℕ) (ds : List ℕ) : Type 0 where
  pub some : 0 < length ds
  pub decimal : T (all is_decimal ds)
  pub stands : worth ds ≡ n
  pub fewest : (others : List ℕ) → 0 < length others → T (all is_decimal others) → worth others ≡ n → length ds ≤ length others

abbrev pub ShortestNumbers : Type 0
ShortestNumbers = (n : ℕ) → Shortest n (digits n)

-- ---- the text of an accepted program

-- These tokens are found, wherever they stand, and nothing else.
pub data FindsTokens : List Token → List Found → Type 0 where
  none : FindsTokens [] []
  more : {t : Token} {ts : List Token} {fs : List Found} (place : ℕ) → FindsTokens ts fs → FindsTokens (t ∷ ts) (token place t ∷ fs)

-- The lexer finds the tokens of its lines, and the end.
abbrev pub TokensFound : Type 0
TokensFound = (p : Program) → check p ≡ Verdict.accepted → FindsTokens (tokens (named p) ++ (Token.end ∷ [])) (tokens_of (written p))

-- "Read back, the text gives" the program "with the made names filled in".
abbrev pub ReadsBack : Type 0
ReadsBack = (p : Program) → check p ≡ Verdict.accepted → length (written p) ≤ max_text → read (written p) ≡ Reading.program (named p)

-- ---- the program read back

-- "the same table .. with the made names filled in": g is f but for the names of registers and blocks.
pub record AlikeButNames (f g : Func) : Type 0 where
  pub name : g.name ≡ f.name
  pub ssa : g.ssa ≡ f.ssa
  pub result : g.result ≡ f.result
  pub params : g.params ≡ f.params
  pub types : map (λ r. r.type) g.registers ≡ map (λ r. r.type) f.registers
  pub rows : map (λ b. b.rows) g.blocks ≡ map (λ b. b.rows) f.blocks
  pub entry : g.entry ≡ f.entry
  pub placed : g.placed ≡ f.placed

abbrev pub OnlyNamesFilled : Type 0
OnlyNamesFilled = (f : Func) → AlikeButNames f (named_function f)

-- It passes its check.
abbrev pub StillAccepted : Type 0
StillAccepted = (p : Program) → check p ≡ Verdict.accepted → check (named p) ≡ Verdict.accepted

-- All its names are there, so that writing it again gives the same text.
abbrev pub NamedOnce : Type 0
NamedOnce = (p : Program) → check p ≡ Verdict.accepted → named (named p) ≡ named p

abbrev pub WrittenAgain : Type 0
WrittenAgain = (p : Program) → check p ≡ Verdict.accepted → written (named p) ≡ written p

-- Names do not matter to a run: its place, steps, registers and outcome are the same after any number of steps.
abbrev pub NamesDoNotMatter : Type 0
NamesDoNotMatter = (f g : Func) (args : List ℕ) (n : ℕ) → AlikeButNames f g → run_of g args n ≡ run_of f args n

-- ---- made names

-- The names of one kind in a function, in table order: as the function has them, and with the made ones filled in. Number i is unnamed where it is
-- to be given one.
pub record NamesMade (prefix : List ℕ) (Unnamed : ℕ → Type 0) (kept filled : List (List ℕ)) : Type 0 where
  pub count : length filled ≡ length kept
  -- a name that is there stays
  pub stays : (i : ℕ) → i < length kept → ¬ Unnamed i → get_or filled i [] ≡ get_or kept i []
  -- "called `p.` .. `e.`, with .. decimal numbers": this one, for number i
  pub number : ℕ → ℕ
  pub made : (i : ℕ) → i < length kept → Unnamed i → get_or filled i [] ≡ made_name prefix (number i)
  -- "not in use by that kind in the function"
  pub unused : (i j : ℕ) → i < length kept → j < length kept → Unnamed i → ¬ (get_or kept j [] ≡ made_name prefix (number i))
  -- "the smallest", and "from 0": every smaller one is in use, or was given to an earlier number
  pub smallest :
      (i n : ℕ)
      → i < length kept
      → Unnamed i
      → n < number i
      → ((j : ℕ) × (j < length kept) × (get_or kept j [] ≡ made_name prefix n)) ⊎ ((j : ℕ) × (j < i) × Unnamed j × (number j ≡ n))
  -- "in table order"
  pub rising : (i j : ℕ) → i < j → j < length kept → Unnamed i → Unnamed j → number i < number j

-- These sentences leave no choice: names that are made by them are the same ones.
abbrev pub MadeOneWay : Type 1
MadeOneWay =
    (prefix : List ℕ) (Unnamed : ℕ → Type 0) (kept filled other : List (List ℕ))
    → NamesMade prefix Unnamed kept filled
    → NamesMade prefix Unnamed kept other
    → (i : ℕ)
    → i < length kept
    → Unnamed i
    → get_or other i [] ≡ get_or filled i []

-- "Unnamed registers are called `p.`"
abbrev pub RegistersNamed : Type 0
RegistersNamed =
    (f : Func)
    → (let names = map (λ r. r.name) f.registers in
    NamesMade register_prefix (λ i. get_or names i [] ≡ []) names (map (λ r. r.name) (named_function f).registers))

-- "and unnamed blocks but entry `e.`"
abbrev pub BlocksNamed : Type 0
BlocksNamed =
    (f : Func)
    → (let names = map (λ b. b.name) f.blocks in
    NamesMade block_prefix (λ i. (get_or names i [] ≡ []) × ¬ (i ≡ f.entry)) names (map (λ b. b.name) (named_function f).blocks))

-- No two are the same.
abbrev pub AllApart : List (List ℕ) → Type 0
AllApart names = (i j : ℕ) → i < j → j < length names → ¬ (get_or names i [] ≡ get_or names j [])

-- In an accepted program the names of registers are all different then, and so are those of blocks, entry's name of no bytes among them.
abbrev pub NamesDiffer : Type 0
NamesDiffer =
    (p : Program) (i : ℕ)
    → check p ≡ Verdict.accepted
    → i < length p
    → (let f = named_function (function_in p i) in AllApart (map (λ r. r.name) f.registers) × AllApart (map (λ b. b.name) f.blocks))

-- ---- over tables and lent buffers

-- Writing table t to a buffer of n bytes is not refused, and answers k: "The table is checked first, as for running", and the text exceeds neither
-- 65,536 bytes nor the buffer.
pub record Writes (t : List ℕ) (n k : ℕ) : Type 0 where
  pub passes : check_answer t ≡ Verdict.accepted
  pub count : k ≡ length (written (decode t))
  pub within : k ≤ max_text
  pub room : k ≤ n

abbrev pub WrittenExactly : Type 0
WrittenExactly = (t : List ℕ) (n k : ℕ) → ((write_answer t n).answer ≡ Wrote.wrote k) ↔ Writes t n k

-- "Refusals: 33 if the text exceeds 65,536 bytes, then 32 exactly if it exceeds the buffer", behind those of the check.
pub data NotWritten (t : List ℕ) (n : ℕ) : (number place : ℕ) → Type 0 where
  unsound : (k p : ℕ) → check_answer t ≡ Verdict.refused k p → NotWritten t n k p
  long : check_answer t ≡ Verdict.accepted → max_text < length (written (decode t)) → NotWritten t n 33 0
  full :
      check_answer t ≡ Verdict.accepted
      → length (written (decode t)) ≤ max_text
      → n < length (written (decode t))
      → NotWritten t n 32 0

abbrev pub NotWrittenExactly : Type 0
NotWrittenExactly = (t : List ℕ) (n k p : ℕ) → ((write_answer t n).answer ≡ Wrote.refused k p) ↔ NotWritten t n k p

-- These two numbers are no others'.
abbrev pub LongIs33 : Type 0
LongIs33 =
    (t : List ℕ) (n : ℕ)
    → ((wrote_numbers (write_answer t n).answer).number ≡ 33)
    ↔ ((check_answer t ≡ Verdict.accepted) × (max_text < length (written (decode t))))

abbrev pub FullIs32 : Type 0
FullIs32 =
    (t : List ℕ) (n : ℕ)
    → ((wrote_numbers (write_answer t n).answer).number ≡ 32)
    ↔ ((check_answer t ≡ Verdict.accepted) × (length (written (decode t)) ≤ max_text) × (n < length (written (decode t))))

-- Number 0 says that a text was written; its length is the answer's value.
abbrev pub WrittenIs0 : Type 0
WrittenIs0 =
    (t : List ℕ) (n : ℕ)
    → (let a = wrote_numbers (write_answer t n).answer in a.number ≡ 0 → (write_answer t n).answer ≡ Wrote.wrote a.value)

-- A refusal zeroes the buffer.
abbrev pub RefusedZeroes : Type 0
RefusedZeroes = (t : List ℕ) (n k p : ℕ) → (write_answer t n).answer ≡ Wrote.refused k p → (write_answer t n).buffer ≡ zeros n

-- "the same table, cells not needed 0, with the made names filled in"
abbrev pub filled_table : List ℕ → List ℕ
filled_table t = cells (named (decode t))

-- The text that an answer k and the buffer after it give a caller.
abbrev pub text_in : Shown → ℕ → List ℕ
text_in x k = take k x.buffer

-- What holds where writing table t to n bytes answered k.
pub record RoundTrip (t : List ℕ) (n k : ℕ) : Type 0 where
  -- "The answer is the text's length; past it the buffer is zero."
  pub count : k ≡ length (written (decode t))
  pub text : text_in (write_answer t n) k ≡ written (decode t)
  pub rest : drop k (write_answer t n).buffer ≡ zeros (n - k)
  -- "Read back, the text gives the same table", for an output of any length: reading refuses none but with 22.
  pub reads : (m : ℕ) → read_answer (text_in (write_answer t n) k) m ≡ fill m (named (decode t))
  pub gives : read_answer (text_in (write_answer t n) k) table_length ≡ record { answer = Verdict.accepted; table = filled_table t }
  -- That table holds the program with the made names filled in, and "cells not needed 0".
  pub holds : decode (filled_table t) ≡ named (decode t)
  pub unneeded : (c : ℕ) → (get_or (filled_table t) c 0 ≡ 0) ⊎ Needed (filled_table t) c
  -- It passes its check, its runs answer as those of t, and writing it again gives the same text.
  pub passes : check_answer (filled_table t) ≡ Verdict.accepted
  pub runs : (i : ℕ) (args : List ℕ) (budget c : ℕ) → run_answer (filled_table t) i args budget c ≡ run_answer t i args budget c
  pub again : (m : ℕ) → write_answer (filled_table t) m ≡ write_answer t m

abbrev pub RoundTripLaw : Type 0
RoundTripLaw = (t : List ℕ) (n k : ℕ) → (write_answer t n).answer ≡ Wrote.wrote k → RoundTrip t n k

-- ---- of a translation

-- What demand 3 says of the source, function i of t, and of table v, which the text of its translation u gives: as of u, the made names apart.
pub record TranslatedAsText (t : List ℕ) (i : ℕ) (u v : List ℕ) : Type 0 where
  pub passes : check_answer v ≡ Verdict.accepted
  pub holds : decode v ≡ function_in_table v 0 ∷ []
  pub defined : function_in_table v 0 ≡ named_function (translation (function_in_table t i))
  pub no_phi : T (not (any is_phi (rows_of (function_in_table v 0))))
  pub unmarked : (function_in_table v 0).ssa ≡ 0
  -- it runs as the translation does,
  pub answers : (args : List ℕ) (budget c : ℕ) → run_answer v 0 args budget c ≡ run_answer u 0 args budget c
  -- and so as the source does, without a budget,
  pub runs : (args : List ℕ) → T (arguments_fit (function_in_table t i) args) → RunsAlike (function_in_table t i) (function_in_table v 0) args
  -- and with one
  pub agree :
      (args : List ℕ) (b b' c c' : ℕ)
      → T (arguments_fit (function_in_table t i) args)
      → length (function_in_table t i).registers ≤ c
      → length (function_in_table v 0).registers ≤ c'
      → RunsAgree (λ r. r) (function_in_table t i) (function_in_table v 0) args b b' (run_answer t i args b c).answer (run_answer v 0 args b' c').answer

-- Demand 3 of the text that the client sees: translate function i of t, write that to a buffer of n bytes, and read the text back.
abbrev pub Demand3AsText : Type 0
Demand3AsText =
    (t : List ℕ) (i n k : ℕ)
    → TranslatableIn t i
    → (let u = (translate_answer t i table_length).table in
    (write_answer u n).answer ≡ Wrote.wrote k
    → (let back = read_answer (text_in (write_answer u n) k) table_length in (back.answer ≡ Verdict.accepted) × TranslatedAsText t i u back.table))
