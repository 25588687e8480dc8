-- The grammar of a text as a machine over tokens (document 01, "The text"). It keeps no program: a move names the stage that
-- comes next and what is to be done about the token, and a token that may not stand there is `wrong`, answer 3.
-- Assumes nothing.
use Rattle.std.specs.Prelude.{Bool, cond, not, ◌&&◌, List, [], ℕ, zero, suc, eqb}
use Rattle.language.specs.Instructions.{Operand, form_of, has_target, source_count, operand_of, void}
use Rattle.language.specs.Bytes.{left_paren, right_paren, left_brace, right_brace, comma, semicolon, equals}
use Rattle.language.specs.Words.{is_type, type_of, is_instruction, instruction_of, function_word, ssa_word, void_word, register_word, block_word, entry_word}
use Rattle.language.specs.Tokens.{Token}

-- What an operand's parentheses hold: a number, a list of registers, one block, two blocks.
pub data Bracketed : Type 0 where
  number registers block blocks : Bracketed

-- What comes next.
pub data Stage : Type 0 where
  -- "A text is any number of functions, none included"
  top : Stage
  -- "`function`, optional `ssa`, return type or `void`, name"
  header result function_name : Stage
  -- "parameters in parentheses (type and name, parted by commas; house rule)"
  parameters first_parameter parameter parameter_end : Stage
  parameter_name : (type : ℕ) → Stage
  -- "`{`, register declarations (`register` type name `;`)"
  body declarations register_type register_end : Stage
  register_name : (type : ℕ) → Stage
  -- "then blocks (`block`, `entry` or a name, `{`, one or more instructions, `}`), `}`"
  blocks block_name block_body first_instruction next_instruction : Stage
  -- "An instruction is optional target and `=`, instruction word"
  assignment instruction : Stage
  -- "source registers parted by commas": a source or a comma, and so many sources more after it
  source source_comma : (more : ℕ) (operand : Operand) → Stage
  -- "optional operand in parentheses": a number, a list of registers, a block and so many more after it; "`;`"
  operand : (inside : Bracketed) → Stage
  number entry entry_end : Stage
  mention mention_comma : (more : ℕ) → Stage
  operand_end instruction_end : Stage

-- What is to be done about a token. Where a block is named, no bytes stand for the word `entry`.
pub data Act : Type 0 where
  wrong pass : Act
  begin_function mark_ssa begin_register begin_block : Act
  set_result : (type : ℕ) → Act
  name_function name_block : (name : List ℕ) → Act
  name_parameter name_register : (type : ℕ) (name : List ℕ) → Act
  begin_instruction set_instruction : (op : ℕ) → Act
  set_target add_source add_entry add_mention : (name : List ℕ) → Act
  set_number : (negative : Bool) (magnitude : ℕ) → Act
  end_instruction end_block end_function : Act

pub record Move : Type 0 where
  pub stage : Stage
  pub act : Act

abbrev pub to : Stage → Act → Move
to s a = record { stage = s; act = a }

abbrev pub wrong_move : Move
wrong_move = to Stage.top Act.wrong

-- A token taken apart: a word, a name or a number is wanted, and every other token is wrong.
abbrev pub on_word : (ℕ → Move) → Token → Move
on_word k (Token.name n) = wrong_move
on_word k (Token.word w) = k w
on_word k (Token.number s v) = wrong_move
on_word k (Token.mark b) = wrong_move
on_word k Token.end = wrong_move

abbrev pub on_name : (List ℕ → Move) → Token → Move
on_name k (Token.name n) = k n
on_name k (Token.word w) = wrong_move
on_name k (Token.number s v) = wrong_move
on_name k (Token.mark b) = wrong_move
on_name k Token.end = wrong_move

abbrev pub on_number : (Bool → ℕ → Move) → Token → Move
on_number k (Token.name n) = wrong_move
on_number k (Token.word w) = wrong_move
on_number k (Token.number s v) = k s v
on_number k (Token.mark b) = wrong_move
on_number k Token.end = wrong_move

-- "`entry` or a name"
abbrev pub on_block : (List ℕ → Move) → Token → Move
on_block k (Token.name n) = k n
on_block k (Token.word w) = cond (eqb w entry_word) (k []) wrong_move
on_block k (Token.number s v) = wrong_move
on_block k (Token.mark b) = wrong_move
on_block k Token.end = wrong_move

-- This mark, or else what another token may be; this mark alone; the text's end, or else.
abbrev pub on_mark_or : ℕ → Move → (Token → Move) → Token → Move
on_mark_or c m k (Token.name n) = k (Token.name n)
on_mark_or c m k (Token.word w) = k (Token.word w)
on_mark_or c m k (Token.number s v) = k (Token.number s v)
on_mark_or c m k (Token.mark b) = cond (eqb b c) m (k (Token.mark b))
on_mark_or c m k Token.end = k Token.end

abbrev pub on_mark : ℕ → Move → Token → Move
on_mark c m = on_mark_or c m (λ t. wrong_move)

abbrev pub on_end_or : Move → (Token → Move) → Token → Move
on_end_or m k (Token.name n) = k (Token.name n)
on_end_or m k (Token.word w) = k (Token.word w)
on_end_or m k (Token.number s v) = k (Token.number s v)
on_end_or m k (Token.mark b) = k (Token.mark b)
on_end_or m k Token.end = m

-- This word, or else what another word may be; this word alone; a type; "return type or `void`".
abbrev pub is_word_or : ℕ → Move → (ℕ → Move) → ℕ → Move
is_word_or v m k w = cond (eqb w v) m (k w)

abbrev pub is_word : ℕ → Move → ℕ → Move
is_word v m = is_word_or v m (λ w. wrong_move)

abbrev pub a_type : (ℕ → Move) → ℕ → Move
a_type k w = cond (is_type w) (k (type_of w)) wrong_move

abbrev pub a_result : ℕ → Move
a_result = is_word_or void_word (to Stage.function_name (Act.set_result void)) (a_type λ t. to Stage.function_name (Act.set_result t))

-- What follows the sources, a source of which so many more come, and a block of which so many more come.
abbrev pub after_sources : Operand → Stage
after_sources Operand.none = Stage.instruction_end
after_sources Operand.number = Stage.operand Bracketed.number
after_sources Operand.registers = Stage.operand Bracketed.registers
after_sources Operand.block = Stage.operand Bracketed.block
after_sources Operand.blocks = Stage.operand Bracketed.blocks

abbrev pub after_source : ℕ → Operand → Stage
after_source zero o = after_sources o
after_source (suc k) o = Stage.source_comma k o

abbrev pub after_mention : ℕ → Stage
after_mention zero = Stage.operand_end
after_mention (suc k) = Stage.mention_comma k

-- What follows the instruction word: "Which of these must be present comes from the next section."
abbrev pub sources : ℕ → Operand → Stage
sources zero o = after_sources o
sources (suc k) o = Stage.source k o

unfoldable pub after_word : ℕ → Stage
after_word op = sources (source_count (form_of op)) (operand_of (form_of op))

-- What follows the operand's opening parenthesis.
abbrev pub in_operand : Bracketed → Stage
in_operand Bracketed.number = Stage.number
in_operand Bracketed.registers = Stage.entry
in_operand Bracketed.block = Stage.mention 0
in_operand Bracketed.blocks = Stage.mention 1

-- The instruction word after a target, and one that stands without.
unfoldable pub word_with_target : ℕ → Move
word_with_target w =
    let op = instruction_of w in
    cond (is_instruction w && has_target (form_of op)) (to (after_word op) (Act.set_instruction op)) wrong_move

unfoldable pub word_alone : ℕ → Move
word_alone w =
    let op = instruction_of w in
    cond (is_instruction w && not (has_target (form_of op))) (to (after_word op) (Act.begin_instruction op)) wrong_move

-- The first token of an instruction: its target, or its word.
abbrev pub an_instruction : Token → Move
an_instruction (Token.name n) = to Stage.assignment (Act.set_target n)
an_instruction (Token.word w) = word_alone w
an_instruction (Token.number s v) = wrong_move
an_instruction (Token.mark b) = wrong_move
an_instruction Token.end = wrong_move

abbrev pub a_function : ℕ → Move
a_function = is_word function_word (to Stage.header Act.begin_function)

abbrev pub a_parameter : ℕ → Move
a_parameter = a_type λ t. to (Stage.parameter_name t) Act.begin_register

abbrev pub a_block : ℕ → Move
a_block = is_word block_word (to Stage.block_name Act.begin_block)

abbrev pub a_register_or_block : ℕ → Move
a_register_or_block = is_word_or register_word (to Stage.register_type Act.begin_register) a_block

-- The grammar, a clause for each stage.
unfoldable pub next_move : Stage → Token → Move
next_move Stage.top = on_end_or (to Stage.top Act.pass) (on_word a_function)
next_move Stage.header = on_word (is_word_or ssa_word (to Stage.result Act.mark_ssa) a_result)
next_move Stage.result = on_word a_result
next_move Stage.function_name = on_name λ n. to Stage.parameters (Act.name_function n)
next_move Stage.parameters = on_mark left_paren (to Stage.first_parameter Act.pass)
next_move Stage.first_parameter = on_mark_or right_paren (to Stage.body Act.pass) (on_word a_parameter)
next_move Stage.parameter = on_word a_parameter
next_move (Stage.parameter_name t) = on_name λ n. to Stage.parameter_end (Act.name_parameter t n)
next_move Stage.parameter_end = on_mark_or comma (to Stage.parameter Act.pass) (on_mark right_paren (to Stage.body Act.pass))
next_move Stage.body = on_mark left_brace (to Stage.declarations Act.pass)
next_move Stage.declarations = on_mark_or right_brace (to Stage.top Act.end_function) (on_word a_register_or_block)
next_move Stage.register_type = on_word (a_type λ t. to (Stage.register_name t) Act.pass)
next_move (Stage.register_name t) = on_name λ n. to Stage.register_end (Act.name_register t n)
next_move Stage.register_end = on_mark semicolon (to Stage.declarations Act.pass)
next_move Stage.blocks = on_mark_or right_brace (to Stage.top Act.end_function) (on_word a_block)
next_move Stage.block_name = on_block λ n. to Stage.block_body (Act.name_block n)
next_move Stage.block_body = on_mark left_brace (to Stage.first_instruction Act.pass)
next_move Stage.first_instruction = an_instruction
next_move Stage.next_instruction = on_mark_or right_brace (to Stage.blocks Act.end_block) an_instruction
next_move Stage.assignment = on_mark equals (to Stage.instruction Act.pass)
next_move Stage.instruction = on_word word_with_target
next_move (Stage.source k o) = on_name λ n. to (after_source k o) (Act.add_source n)
next_move (Stage.source_comma k o) = on_mark comma (to (Stage.source k o) Act.pass)
next_move (Stage.operand o) = on_mark left_paren (to (in_operand o) Act.pass)
next_move Stage.number = on_number λ s v. to Stage.operand_end (Act.set_number s v)
next_move Stage.entry = on_name λ n. to Stage.entry_end (Act.add_entry n)
next_move Stage.entry_end = on_mark_or comma (to Stage.entry Act.pass) (on_mark right_paren (to Stage.instruction_end Act.pass))
next_move (Stage.mention k) = on_block λ n. to (after_mention k) (Act.add_mention n)
next_move (Stage.mention_comma k) = on_mark comma (to (Stage.mention k) Act.pass)
next_move Stage.operand_end = on_mark right_paren (to Stage.instruction_end Act.pass)
next_move Stage.instruction_end = on_mark semicolon (to Stage.next_instruction Act.end_instruction)
