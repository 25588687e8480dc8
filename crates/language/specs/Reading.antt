-- Reading a text: its program, or one of the answers 1 to 8 with its place (document 01, "Numbers we answer").
-- "Order: 1 first; then the earliest byte, lowest number there." Tokens come in the order of their bytes, so the first answer
-- given stands; at one token the tests come in the order of their numbers.
--
--   No.  Place                                      Given by
--   1    0                                          read
--   2    the first byte of what is no token         take_token, of a place that has none
--   3    the token, the end included                perform_act, of a token that is wrong
--   4    the number                                 set_number
--   5    the first token of the item beyond         if_room, in begin_function, begin_register, begin_block,
--                                                   begin_instruction, set_target and add_entry
--   6    the name declared again, or `entry`        if_new
--   7    the name that is no register's             if_declared
--        the first mention of a block not declared  if_resolved, at the function's closing brace
--   8    the function's closing brace               if_entry
--
-- What is begun where 5 is tested is put down later with no other test: Rooms says what there is room for at each stage. What is
-- claimed of 3 and 5, of every text, is in Refusals.
-- Assumes nothing.
use Rattle.std.specs.Prelude.{Bool, true, cond, ℕ, ◌+◌, ◌-◌, ◌%◌, ◌^◌, eqb, ltb, leb, length, get_or}
use mathlib.Core.List.{List, [], ◌∷◌, ◌++◌, map, foldl}
use Rattle.laws.specs.Lists.{position, keep, same, gather, sum}
use Rattle.language.specs.Instructions.{Form, form_of, load_type, width, signed}
use Rattle.language.specs.Programs.{Row, Register, Block, Func, Program, entries_of, max_text, max_functions, max_registers, max_blocks, max_rows, max_entries}
use Rattle.language.specs.Tokens.{TextPlace, Found, Lexer, lexer₀, lex_step, lex_end}
use Rattle.language.specs.Grammar.{Stage, Act, next_move}

-- A block's name in a jump, with its place.
pub record Mention : Type 0 where
  pub name : List ℕ
  pub place : TextPlace

-- A row of the function in hand. "Block names are resolved at the function's closing brace": until then a jump and a branch
-- mention blocks by name. Any other row stands as it will.
pub data OpenRow : Type 0 where
  row : (row : Row) → OpenRow
  jump : (block : Mention) → OpenRow
  branch : (source : ℕ) (first second : Mention) → OpenRow

-- A block of the function in hand.
pub record OpenBlock : Type 0 where
  pub name : List ℕ
  pub rows : List OpenRow

-- Of the function in hand, what stands before its blocks.
pub record Head : Type 0 where
  pub name : List ℕ
  pub ssa : ℕ
  pub result : ℕ
  pub params : ℕ
  pub registers : List Register

-- The instruction in hand: its number, target, sources, operand number, phi entries, and the blocks it mentions.
pub record Parts : Type 0 where
  pub op : ℕ
  pub target : ℕ
  pub sources : List ℕ
  pub number : ℕ
  pub entries : List ℕ
  pub mentions : List Mention

-- What is read so far: the functions closed; of the function in hand its head, its closed blocks, the block in hand and the
-- instruction in hand.
pub record Draft : Type 0 where
  pub functions : List Func
  pub function : Head
  pub blocks : List OpenBlock
  pub block : OpenBlock
  pub parts : Parts

abbrev pub parts_of : (op target : ℕ) (sources : List ℕ) (number : ℕ) (entries : List ℕ) → List Mention → Parts
parts_of op t ss n es ms = record { op = op; target = t; sources = ss; number = n; entries = es; mentions = ms }

abbrev pub head_of : (name : List ℕ) (ssa result params : ℕ) → List Register → Head
head_of n s t k rs = record { name = n; ssa = s; result = t; params = k; registers = rs }

abbrev pub draft_of : List Func → Head → List OpenBlock → OpenBlock → Parts → Draft
draft_of fs f bs b x = record { functions = fs; function = f; blocks = bs; block = b; parts = x }

-- What stands where there is none: no mention, no block, no instruction in hand.
abbrev pub no_mention : Mention
no_mention = record { name = []; place = 0 }

abbrev pub no_open_block : OpenBlock
no_open_block = record { name = []; rows = [] }

abbrev pub no_parts : Parts
no_parts = parts_of 0 0 [] 0 [] []

-- Between two functions.
abbrev pub fresh : List Func → Draft
fresh fs = draft_of fs (head_of [] 0 0 0 []) [] no_open_block no_parts

abbrev pub with_function : Draft → Head → Draft
with_function d f = draft_of d.functions f d.blocks d.block d.parts

abbrev pub with_block : Draft → OpenBlock → Draft
with_block d b = draft_of d.functions d.function d.blocks b d.parts

abbrev pub with_parts : Draft → Parts → Draft
with_parts d x = draft_of d.functions d.function d.blocks d.block x

-- The rows of blocks; the registers in a phi's list; the blocks that a row mentions.
abbrev pub rows_in : List OpenBlock → List OpenRow
rows_in bs = gather (λ b. b.rows) bs

abbrev pub entries_in : OpenRow → List ℕ
entries_in (OpenRow.row r) = entries_of r
entries_in (OpenRow.jump m) = []
entries_in (OpenRow.branch s m n) = []

abbrev pub mentions_in : OpenRow → List Mention
mentions_in (OpenRow.row r) = []
mentions_in (OpenRow.jump m) = m ∷ []
mentions_in (OpenRow.branch s m n) = m ∷ n ∷ []

-- The rows of the function in hand, how many they are, and how many phi entries it has, those in hand included.
unfoldable pub open_rows : Draft → List OpenRow
open_rows d = rows_in d.blocks ++ d.block.rows

unfoldable pub draft_rows : Draft → ℕ
draft_rows d = length (open_rows d)

unfoldable pub phi_entries : Draft → ℕ
phi_entries d = sum (map (λ r. length (entries_in r)) (open_rows d)) + length d.parts.entries

-- The number of a name among the functions, registers or blocks declared, or their count.
-- "Names are compared by the bytes written"; the entry block has no bytes.
unfoldable pub function_number : List Func → List ℕ → ℕ
function_number fs n = position (λ f. same f.name n) fs

unfoldable pub register_number : List Register → List ℕ → ℕ
register_number rs n = position (λ r. same r.name n) rs

unfoldable pub block_number : List OpenBlock → List ℕ → ℕ
block_number bs n = position (λ b. same b.name n) bs

-- What a token comes to: an answer, or the draft after it.
pub data ActOutcome : Type 0 where
  refuse : (number : ℕ) (place : TextPlace) → ActOutcome
  proceed : (draft : Draft) → ActOutcome

-- 5, unless there is room for one more. "The place of 5 is the first token of the item beyond."
abbrev pub if_room : (count limit : ℕ) (place : TextPlace) → ActOutcome → ActOutcome
if_room k m p o = cond (ltb k m) o (refuse 5 p)

-- 6, unless the name whose number this is among so many is not declared yet.
abbrev pub if_new : (number count : ℕ) (place : TextPlace) → ActOutcome → ActOutcome
if_new i k p o = cond (ltb i k) (refuse 6 p) o

-- 7, unless it is declared.
abbrev pub if_declared : (number count : ℕ) (place : TextPlace) → ActOutcome → ActOutcome
if_declared i k p o = cond (ltb i k) o (refuse 7 p)

-- A function: 5 at `function`, 6 at its name.
unfoldable pub begin_function : TextPlace → Draft → ActOutcome
begin_function p d = if_room (length d.functions) max_functions p (proceed d)

unfoldable pub mark_ssa : Draft → ActOutcome
mark_ssa d =
    let f = d.function in
    proceed (with_function d (head_of f.name 1 f.result f.params f.registers))

unfoldable pub set_result : ℕ → Draft → ActOutcome
set_result t d =
    let f = d.function in
    proceed (with_function d (head_of f.name f.ssa t f.params f.registers))

unfoldable pub name_function : List ℕ → TextPlace → Draft → ActOutcome
name_function n p d =
    let f = d.function in
    if_new (function_number d.functions n) (length d.functions) p
    (proceed (with_function d (head_of n f.ssa f.result f.params f.registers)))

-- A register: 5 at a parameter's type or at `register`, 6 at its name.
unfoldable pub begin_register : TextPlace → Draft → ActOutcome
begin_register p d = if_room (length d.function.registers) max_registers p (proceed d)

-- "A parameter is a register assigned at entry": k is 1 for a parameter and 0 for another register.
unfoldable pub name_register : (k type : ℕ) → List ℕ → TextPlace → Draft → ActOutcome
name_register k t n p d =
    let f = d.function in
    let rs = f.registers ++ (record { type = t; name = n } ∷ []) in
    if_new (register_number f.registers n) (length f.registers) p
    (proceed (with_function d (head_of f.name f.ssa f.result (f.params + k) rs)))

-- A block: 5 at `block`, 6 at its name or at `entry`.
unfoldable pub begin_block : TextPlace → Draft → ActOutcome
begin_block p d = if_room (length d.blocks) max_blocks p (proceed d)

unfoldable pub name_block : List ℕ → TextPlace → Draft → ActOutcome
name_block n p d =
    if_new (block_number d.blocks n) (length d.blocks) p
    (proceed (with_block d (record { name = n; rows = [] })))

unfoldable pub end_block : Draft → ActOutcome
end_block d = proceed (draft_of d.functions d.function (d.blocks ++ (d.block ∷ [])) no_open_block d.parts)

-- An instruction: 5 at its first token, 7 at a name that is no register's.
unfoldable pub begin_instruction : ℕ → TextPlace → Draft → ActOutcome
begin_instruction op p d = if_room (draft_rows d) max_rows p (proceed (with_parts d (parts_of op 0 [] 0 [] [])))

unfoldable pub set_target : List ℕ → TextPlace → Draft → ActOutcome
set_target n p d =
    let r = register_number d.function.registers n in
    if_room (draft_rows d) max_rows p
    (if_declared r (length d.function.registers) p
    (proceed (with_parts d (parts_of 0 r [] 0 [] []))))

unfoldable pub set_instruction : ℕ → Draft → ActOutcome
set_instruction op d = proceed (with_parts d (parts_of op d.parts.target [] 0 [] []))

unfoldable pub add_source : List ℕ → TextPlace → Draft → ActOutcome
add_source n p d =
    let r = register_number d.function.registers n in
    let x = d.parts in
    if_declared r (length d.function.registers) p
    (proceed (with_parts d (parts_of x.op x.target (x.sources ++ (r ∷ [])) x.number x.entries x.mentions)))

-- A phi entry: 5 or 7 at its name.
unfoldable pub add_entry : List ℕ → TextPlace → Draft → ActOutcome
add_entry n p d =
    let r = register_number d.function.registers n in
    let x = d.parts in
    if_room (phi_entries d) max_entries p
    (if_declared r (length d.function.registers) p
    (proceed (with_parts d (parts_of x.op x.target x.sources x.number (x.entries ++ (r ∷ [])) x.mentions))))

-- A block that a jump mentions, declared or not.
unfoldable pub add_mention : List ℕ → TextPlace → Draft → ActOutcome
add_mention n p d =
    let x = d.parts in
    let ms = x.mentions ++ (record { name = n; place = p } ∷ []) in
    proceed (with_parts d (parts_of x.op x.target x.sources x.number x.entries ms))

-- A number with its sign lies in the range of type t: from 0 to 2^w - 1, or from -2^(w-1) to 2^(w-1) - 1. "`-0` is 0."
unfoldable pub number_in_range : (type : ℕ) (negative : Bool) (magnitude : ℕ) → Bool
number_in_range t s v =
    cond (signed t)
    (cond s (leb v (2 ^ (width t - 1))) (ltb v (2 ^ (width t - 1))))
    (cond s (eqb v 0) (ltb v (2 ^ width t)))

-- That number modulo 2^w, as a register holds it.
unfoldable pub bits_of : (type : ℕ) (negative : Bool) (magnitude : ℕ) → ℕ
bits_of t s v = cond s ((2 ^ width t - v) % 2 ^ width t) v

-- 4: "number in its range", which is the load's.
unfoldable pub set_number : Bool → ℕ → TextPlace → Draft → ActOutcome
set_number s v p d =
    let x = d.parts in
    let t = load_type x.op in
    cond (number_in_range t s v)
    (proceed (with_parts d (parts_of x.op x.target x.sources (bits_of t s v) x.entries x.mentions)))
    (refuse 4 p)

-- The row that an instruction makes.
abbrev pub row_as : Form → Parts → OpenRow
row_as Form.nop x = OpenRow.row Row.nop
row_as Form.load x = OpenRow.row (Row.load x.op x.target x.number)
row_as Form.unary x = OpenRow.row (Row.unary x.op x.target (get_or x.sources 0 0))
row_as Form.binary x = OpenRow.row (Row.binary x.op x.target (get_or x.sources 0 0) (get_or x.sources 1 0))
row_as Form.phi x = OpenRow.row (Row.phi x.target x.entries)
row_as Form.jump x = OpenRow.jump (get_or x.mentions 0 no_mention)
row_as Form.branch x = OpenRow.branch (get_or x.sources 0 0) (get_or x.mentions 0 no_mention) (get_or x.mentions 1 no_mention)
row_as Form.return x = OpenRow.row (Row.return (get_or x.sources 0 0))
row_as Form.leave x = OpenRow.row Row.leave
row_as Form.unknown x = OpenRow.row (Row.unknown x.op)

unfoldable pub row_of : Parts → OpenRow
row_of x = row_as (form_of x.op) x

unfoldable pub end_instruction : Draft → ActOutcome
end_instruction d =
    let b : OpenBlock = record { name = d.block.name; rows = d.block.rows ++ (row_of d.parts ∷ []) } in
    proceed (draft_of d.functions d.function d.blocks b no_parts)

-- A row with the number of each block that it mentions.
abbrev pub resolve_row : List OpenBlock → OpenRow → Row
resolve_row bs (OpenRow.row r) = r
resolve_row bs (OpenRow.jump m) = Row.jump (block_number bs m.name)
resolve_row bs (OpenRow.branch s m n) = Row.branch s (block_number bs m.name) (block_number bs n.name)

abbrev pub resolve_block : List OpenBlock → OpenBlock → Block
resolve_block bs b = record { name = b.name; rows = map (resolve_row bs) b.rows }

-- The closed function.
unfoldable pub resolve : Head → List OpenBlock → Func
resolve f bs =
    record {
      name = f.name;
      ssa = f.ssa;
      result = f.result;
      params = f.params;
      registers = f.registers;
      blocks = map (resolve_block bs) bs;
      entry = block_number bs [];
      placed = true;
    }

-- The mentions whose block is not declared.
unfoldable pub undeclared : List OpenBlock → List Mention
undeclared bs = keep (λ m. eqb (block_number bs m.name) (length bs)) (gather mentions_in (rows_in bs))

-- 7, placed at the first of them.
abbrev pub if_resolved : List Mention → ActOutcome → ActOutcome
if_resolved [] o = o
if_resolved (m ∷ ms) o = refuse 7 m.place

-- 8, unless the entry block is declared.
abbrev pub if_entry : List OpenBlock → TextPlace → ActOutcome → ActOutcome
if_entry bs p o = cond (ltb (block_number bs []) (length bs)) o (refuse 8 p)

-- "Block names are resolved at the function's closing brace: 8, then 7 with the first undeclared mention."
unfoldable pub end_function : TextPlace → Draft → ActOutcome
end_function p d =
    if_entry d.blocks p
    (if_resolved (undeclared d.blocks)
    (proceed (fresh (d.functions ++ (resolve d.function d.blocks ∷ [])))))

-- An act on the token at place p. 3 for a token that is not allowed here.
unfoldable pub perform_act : Act → TextPlace → Draft → ActOutcome
perform_act Act.wrong p d = refuse 3 p
perform_act Act.pass p d = proceed d
perform_act Act.begin_function p d = begin_function p d
perform_act Act.mark_ssa p d = mark_ssa d
perform_act Act.begin_register p d = begin_register p d
perform_act Act.begin_block p d = begin_block p d
perform_act (Act.set_result t) p d = set_result t d
perform_act (Act.name_function n) p d = name_function n p d
perform_act (Act.name_block n) p d = name_block n p d
perform_act (Act.name_parameter t n) p d = name_register 1 t n p d
perform_act (Act.name_register t n) p d = name_register 0 t n p d
perform_act (Act.begin_instruction op) p d = begin_instruction op p d
perform_act (Act.set_instruction op) p d = set_instruction op d
perform_act (Act.set_target n) p d = set_target n p d
perform_act (Act.add_source n) p d = add_source n p d
perform_act (Act.add_entry n) p d = add_entry n p d
perform_act (Act.add_mention n) p d = add_mention n p d
perform_act (Act.set_number s v) p d = set_number s v p d
perform_act Act.end_instruction p d = end_instruction d
perform_act Act.end_block p d = end_block d
perform_act Act.end_function p d = end_function p d

-- The tokens so far: refused, or a stage and a draft.
pub data Parse : Type 0 where
  refused : (number : ℕ) (place : TextPlace) → Parse
  reading : (stage : Stage) (draft : Draft) → Parse

abbrev pub after_act : Stage → ActOutcome → Parse
after_act s (refuse n p) = Parse.refused n p
after_act s (proceed d) = Parse.reading s d

-- One more token, or a place with none: "2 | no token here, or name too long".
unfoldable pub take_token : Parse → Found → Parse
take_token (Parse.refused n p) x = Parse.refused n p
take_token (Parse.reading s d) (Found.token p t) = after_act (next_move s t).stage (perform_act (next_move s t).act p d)
take_token (Parse.reading s d) (Found.stray p) = Parse.refused 2 p

abbrev pub parse₀ : Parse
parse₀ = Parse.reading Stage.top (fresh [])

-- The bytes so far.
pub record Reader : Type 0 where
  pub lexer : Lexer
  pub parse : Parse

abbrev pub reader₀ : Reader
reader₀ = record { lexer = lexer₀; parse = parse₀ }

-- One more byte.
unfoldable pub read_byte : Reader → ℕ → Reader
read_byte r b =
    let x = lex_step r.lexer b in
    record { lexer = x.lexer; parse = foldl take_token r.parse x.found }

-- A text's meaning.
pub data Reading : Type 0 where
  refused : (number : ℕ) (place : TextPlace) → Reading
  program : Program → Reading

-- The end token is allowed between functions alone, so that none is open.
abbrev pub finish : Parse → Reading
finish (Parse.refused n p) = Reading.refused n p
finish (Parse.reading s d) = Reading.program d.functions

unfoldable pub read_end : Reader → Reading
read_end r = finish (foldl take_token r.parse (lex_end r.lexer))

-- "1 | text too long | 0", and else what the bytes give, one after the other.
unfoldable pub read : List ℕ → Reading
read text = cond (ltb max_text (length text)) (Reading.refused 1 0) (read_end (foldl read_byte reader₀ text))
