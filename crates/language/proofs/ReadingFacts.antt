-- Facts of reading, by computation. Assumes nothing.
use mathlib.Core.Bool.{Bool, true, ◌&&◌}
use mathlib.Core.List.{List, [], ◌∷◌, ◌++◌, map}
use mathlib.Core.Path.{◌≡◌, refl}
use Prim.Native.Nat.{ℕ, ◌+◌}
use Prim.Native.String.{String}
use lib.Dec.{eqb}
use Rattle.laws.specs.Lists.{gather, all, below}
use Rattle.language.specs.Bytes.{bytes_of}
use Rattle.language.specs.Instructions.{type_count, instruction_count, form_of, load_type, width, signed}
use Rattle.language.specs.Programs.{Row, Register, Block, Func, op_of, rows_of, entry_count}
use Rattle.language.specs.Grammar.{next_move, after_word, word_with_target, word_alone}
use Rattle.language.specs.Reading.{Reading, read, read_end, read_byte, take_token, perform_act, begin_function, mark_ssa, set_result, name_function, begin_register, name_register, begin_block, name_block, end_block, begin_instruction, set_target, set_instruction, add_source, add_entry, add_mention, number_in_range, bits_of, set_number, row_of, end_instruction, resolve, undeclared, end_function, function_number, register_number, block_number, open_rows, draft_rows, phi_entries}
use Rattle.language.specs.Names.{plain_name, escaped, spelling}
use Rattle.language.specs.Listing.{listing_of, function_line, line, digits}
use Rattle.language.proofs.TokenFacts.{lexing}

-- All that reading and the listing are made of, to be opened by one name.
unfoldable pub reads : Unit {0}
unfolding lexing read read_end read_byte take_token perform_act begin_function mark_ssa set_result name_function begin_register name_register begin_block name_block end_block begin_instruction set_target set_instruction add_source add_entry add_mention number_in_range bits_of set_number row_of end_instruction resolve undeclared end_function function_number register_number block_number open_rows draft_rows phi_entries next_move after_word word_with_target word_alone form_of load_type width signed rows_of entry_count listing_of function_line line digits spelling plain_name escaped
reads = tt

-- A text by its lines.
abbrev pub lines : List String → List ℕ
lines ls = gather (λ l. bytes_of l ++ (10 ∷ [])) ls

-- Document 01's whole function.
unfoldable pub turn_text : List ℕ
turn_text =
    lines
    ("function ssa uint64 turn(uint64 a, uint64 b, uint8 n) {"
    ∷ " register uint64 x; register uint64 y; register uint8 k;"
    ∷ " register uint8 one; register uint8 z; register uint8 m; register uint c;"
    ∷ " block entry { one = load.ui8 (1); z = load.ui8 (0); jump (head); }"
    ∷ " block head { x = phi (a, y); y = phi (b, x); k = phi (n, m);"
    ∷ "  c = cmp.eq k, z; jump.cond c (out, body); }"
    ∷ " block body { m = ari.sub k, one; jump (head); }"
    ∷ " block out { return x; }"
    ∷ "}"
    ∷ [])

abbrev register : ℕ → String → Register
register t n = record { type = t; name = bytes_of n }

abbrev block : String → List Row → Block
block n rs = record { name = bytes_of n; rows = rs }

unfoldable pub turn : Func
turn =
    record {
      name = bytes_of "turn";
      ssa = 1;
      result = 7;
      params = 3;
      registers =
          register 7 "a" ∷ register 7 "b" ∷ register 4 "n"
          ∷ register 7 "x" ∷ register 7 "y" ∷ register 4 "k"
          ∷ register 4 "one" ∷ register 4 "z" ∷ register 4 "m" ∷ register 9 "c" ∷ [];
      blocks =
          block "" (Row.load 2 6 1 ∷ Row.load 2 7 0 ∷ Row.jump 1 ∷ [])
          ∷ block "head"
          (Row.phi 3 (0 ∷ 4 ∷ []) ∷ Row.phi 4 (1 ∷ 3 ∷ []) ∷ Row.phi 5 (2 ∷ 8 ∷ [])
          ∷ Row.binary 23 9 5 7 ∷ Row.branch 9 3 2 ∷ [])
          ∷ block "body" (Row.binary 10 8 5 6 ∷ Row.jump 1 ∷ [])
          ∷ block "out" (Row.return 3 ∷ [])
          ∷ [];
      entry = 0;
      placed = true;
    }

pub turn_reads : read turn_text ≡ Reading.program (turn ∷ [])
unfolding reads turn_text turn
turn_reads = refl

-- "Whole output here: `turn`⇥`1`⇥`10`⇥`4`⇥`11`."
pub turn_listing : listing_of (turn ∷ []) ≡ bytes_of "turn\t1\t10\t4\t11\n"
unfolding reads turn
turn_listing = refl

-- The number that a row loads.
abbrev loaded_by : Row → List ℕ
loaded_by Row.nop = []
loaded_by (Row.load op t n) = n ∷ []
loaded_by (Row.unary op t s) = []
loaded_by (Row.binary op t l r) = []
loaded_by (Row.phi t es) = []
loaded_by (Row.jump b) = []
loaded_by (Row.branch s x y) = []
loaded_by (Row.return s) = []
loaded_by Row.leave = []
loaded_by (Row.unknown op) = []

-- Every type and every instruction, in the order of their numbers.
every_text : List ℕ
every_text =
    lines
    ("function int8 every() {"
    ∷ "register int8 a; register int16 b; register int32 c; register int64 d; register uint8 e;"
    ∷ "register uint16 f; register uint32 g; register uint64 h; register int i; register uint j;"
    ∷ "block entry { nop; a = load.i8 (-1); e = load.ui8 (1); b = load.i16 (-1); f = load.ui16 (1);"
    ∷ "c = load.i32 (-1); g = load.ui32 (1); d = load.i64 (-1); h = load.ui64 (1);"
    ∷ "a = ari.add a, a; a = ari.sub a, a; a = ari.mul a, a; a = ari.div a, a; a = ari.rem a, a; a = ari.neg a;"
    ∷ "a = bit.and a, a; a = bit.or a, a; a = bit.xor a, a; a = bit.neg a;"
    ∷ "a = shl a, j; a = shr a, j; a = rol a, j; a = ror a, j; j = cmp.eq a, a; j = cmp.neq a, a;"
    ∷ "j = cmp.gt a, a; j = cmp.lt a, a; j = cmp.gteq a, a; j = cmp.lteq a, a;"
    ∷ "b = conv a; a = copy a; a = phi (a, a); jump (entry); jump.cond j (entry, entry); return a; leave; } }"
    ∷ [])

-- The numbers of a program's types and instructions, and of what its loads load.
abbrev numbers_of : Reading → List (List ℕ)
numbers_of (Reading.refused n p) = []
numbers_of (Reading.program p) =
    gather (λ f. map (λ r. r.type) f.registers) p ∷ gather (λ f. map op_of (rows_of f)) p ∷ gather (λ f. gather loaded_by (rows_of f)) p ∷ []

every_number : numbers_of (read every_text) ≡ below type_count ∷ below instruction_count ∷ (255 ∷ 1 ∷ 65535 ∷ 1 ∷ 4294967295 ∷ 1 ∷ 18446744073709551615 ∷ 1 ∷ []) ∷ []
unfolding reads every_text
every_number = refl

-- A text with its answer: number and place, or 0 and 0 where it reads.
abbrev pub answer_to : Reading → ℕ × ℕ
answer_to (Reading.refused n p) = (n, p)
answer_to (Reading.program p) = (0, 0)

pub record Case : Type 0 where
  pub text : List ℕ
  pub answer : ℕ × ℕ

infix 70 ◌refused◌at◌
abbrev pub ◌refused◌at◌ : String → ℕ → ℕ → Case
s refused n at p = record { text = bytes_of s; answer = (n, p) }

-- In a function's entry block, with two parameters; places count from where the rows begin.
abbrev in_block : String → ℕ × ℕ → Case
in_block s a =
    record {
      text = bytes_of "function void f(uint8 a, uint c) { block entry { " ++ bytes_of s ++ bytes_of " leave; } }";
      answer = a;
    }

abbrev reading : String → Case
reading s = in_block s (0, 0)

abbrev refusing : String → ℕ → ℕ → Case
refusing s n p = in_block s (n, 49 + p)

cases : List Case
cases =
    -- 2, at the first byte of what would have been a token, and at a name too long where no name may stand
    "\"" refused 2 at 0
    ∷ "x /" refused 3 at 0
    ∷ "/ x" refused 2 at 0
    ∷ "aaaaaaaaaaaaaaaaaaaaaaaaaaaaaaaaaaaaaaaaaaaaaaaaaaaaaaaaaaaaaaaaa" refused 2 at 0
    -- 3, at the first token with which the text so far can no longer begin a text
    ∷ "" refused 0 at 0
    ∷ "x" refused 3 at 0
    ∷ "function" refused 3 at 8
    ∷ "function void f(){block entry{leave;}}5" refused 3 at 38
    ∷ "function f" refused 3 at 9
    ∷ "function void entry" refused 3 at 14
    ∷ "function void f(){register float32 x;" refused 3 at 27
    ∷ "function void f(){block entry{}" refused 3 at 30
    ∷ "function void f(){block entry{leave;}register" refused 3 at 37
    ∷ refusing "x" 7 0
    ∷ refusing "a = nop;" 3 4
    ∷ refusing "ari.add a, a;" 3 0
    ∷ refusing "a = not a;" 3 4
    ∷ refusing "dead;" 7 0
    ∷ refusing "a = phi ();" 3 9
    ∷ refusing "a = phi (a a);" 3 11
    ∷ refusing "jump (entry, entry);" 3 11
    ∷ refusing "jump.cond c (entry);" 3 18
    ∷ refusing "a = ari.add a;" 3 13
    ∷ refusing "a = ari.neg a, a;" 3 13
    ∷ refusing "return;" 3 6
    ∷ refusing "leave a;" 3 6
    ∷ refusing "a = load.ui8 (a);" 3 14
    ∷ refusing "99999999999999999999;" 3 0
    -- 4, at the number's first byte, by the instruction's range
    ∷ reading "a = load.ui8 (255);"
    ∷ refusing "a = load.ui8 (256);" 4 14
    ∷ reading "a = load.ui8 (-0);"
    ∷ refusing "a = load.ui8 (-1);" 4 14
    ∷ reading "a = load.i8 (127);"
    ∷ refusing "a = load.i8 (128);" 4 13
    ∷ reading "a = load.i8 (-0x80);"
    ∷ refusing "a = load.i8 (-129);" 4 13
    ∷ refusing "a = load.i8 (0xFF);" 4 13
    ∷ reading "a = load.ui64 (+0000018446744073709551615);"
    ∷ refusing "a = load.ui64 (18446744073709551616);" 4 15
    ∷ reading "a = load.i64 (-9223372036854775808);"
    ∷ refusing "a = load.i64 (9223372036854775808);" 4 14
    -- 6, at the second declaration's name: functions, registers and blocks are three kinds of names
    ∷ "function void f(){block entry{leave;}}function void f" refused 6 at 52
    ∷ "function void f(int a, int a" refused 6 at 27
    ∷ "function void f(int a){register int a" refused 6 at 36
    ∷ "function void f(){block a{nop;}block a" refused 6 at 37
    ∷ "function void f(){block entry{nop;}block entry" refused 6 at 41
    ∷ "function void f(int f){block f{leave;}block entry{jump(f);}}" refused 0 at 0
    -- 2, 6 and 7 by the contents: `a` and `'a'` are one name, `'\\a'` is another, and a word in quotes is a name
    ∷ reading "'a' = copy a; a = copy 'a';"
    ∷ refusing "a = copy '\\a';" 7 9
    ∷ "function void f(int ''" refused 2 at 20
    ∷ "function void f(int a, int 'a'" refused 6 at 27
    ∷ "function void f(int 'a\\'b', int 'a\\'b'" refused 6 at 32
    ∷ "function void f(){block entry{leave;}}function void 'f'" refused 6 at 52
    ∷ "function void f(int 'jump'){block 'entry'{leave;}block entry{jump('entry');}}" refused 0 at 0
    -- 7, a register at once, a block at the closing brace, after 8
    ∷ refusing "c = cmp.eq a, b;" 7 14
    ∷ refusing "a = phi (a, b);" 7 12
    ∷ refusing "jump (x);" 7 6
    ∷ refusing "jump.cond c (x, y);" 7 13
    ∷ refusing "jump (x); y;" 7 10
    ∷ refusing "jump (x); )" 3 10
    ∷ "function void f(){block b{jump(x);}}\"" refused 8 at 35
    ∷ "function void f(){block entry{jump(x);}}\"" refused 7 at 35
    ∷ "function void f(){block entry{jump(b);}block b{jump(entry);}}" refused 0 at 0
    -- 8, at the closing brace; `'entry'` is an ordinary name
    ∷ "function void f(){}" refused 8 at 18
    ∷ "function void f(){block 'entry'{leave;}}" refused 8 at 39
    ∷ "function void f(){block b{leave;}block entry{jump(b);}}" refused 0 at 0
    ∷ []

-- each text of the list has the answer written beside it
abbrev pub agrees : ℕ × ℕ → ℕ × ℕ → Bool
agrees a b = eqb a.0 b.0 && eqb a.1 b.1

answers : all (λ c. agrees (answer_to (read c.text)) c.answer) cases ≡ true
unfolding reads cases
answers = refl
