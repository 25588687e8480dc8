-- The text of a program (document 02, A1): "Each line is a declaration, an instruction, a head with its `{` or a `}`, ended by LF; one space
-- between tokens, shortest decimal numbers." A program here has names for all its registers, and for all its blocks but entry.
-- Assumes nothing.
use Rattle.std.specs.Prelude.{true, false, cond, List, [], ◌∷◌, ◌++◌, map, ℕ, suc, ◌+◌, eqb, ℤ, pos, negsuc, get_or, take, drop}
use Rattle.laws.specs.Lists.{gather}
use Rattle.language.specs.Bytes.{minus, line_feed, left_paren, right_paren, left_brace, right_brace, comma, semicolon, equals}
use Rattle.language.specs.Words.{spelling_of, function_word, ssa_word, void_word, register_word, block_word, entry_word, first_type, first_instruction}
use Rattle.language.specs.Instructions.{void, load_type}
use Rattle.language.specs.Arithmetic.{meaning}
use Rattle.language.specs.Programs.{Row, Register, Block, Func, Program, no_register, block_at, is_ssa, op_of, targets_of, sources_of}
use Rattle.language.specs.Tokens.{Token}
use Rattle.language.specs.Names.{spelling}
use Rattle.language.specs.Listing.{digits}

-- ---- Tokens to bytes.

abbrev pub space_byte : ℕ
space_byte = 32

-- "shortest decimal numbers"; a name by the spelling of its contents.
unfoldable pub bytes_for : Token → List ℕ
bytes_for (Token.name n) = spelling n
bytes_for (Token.word w) = spelling_of w
bytes_for (Token.number negative magnitude) = cond negative (minus ∷ digits magnitude) (digits magnitude)
bytes_for (Token.mark b) = b ∷ []
bytes_for Token.end = []

-- "one space between tokens", "ended by LF"
abbrev pub line_bytes : List Token → List ℕ
line_bytes [] = []
line_bytes (t ∷ []) = bytes_for t ++ (line_feed ∷ [])
line_bytes (t ∷ (u ∷ ts)) = bytes_for t ++ (space_byte ∷ line_bytes (u ∷ ts))

-- ---- A program to lines of tokens.

abbrev pub type_token : ℕ → Token
type_token t = Token.word (first_type + t)

abbrev pub result_token : ℕ → Token
result_token t = cond (eqb t void) (Token.word void_word) (type_token t)

abbrev pub op_token : ℕ → Token
op_token op = Token.word (first_instruction + op)

abbrev pub register_token : Func → ℕ → Token
register_token f r = Token.name (get_or f.registers r no_register).name

-- Entry has a name of no bytes and is written as the word.
abbrev pub block_token : List ℕ → Token
block_token [] = Token.word entry_word
block_token (b ∷ n) = Token.name (b ∷ n)

-- parted by commas
abbrev pub parted : List (List Token) → List Token
parted [] = []
parted (x ∷ []) = x
parted (x ∷ (y ∷ ys)) = x ++ (Token.mark comma ∷ parted (y ∷ ys))

abbrev pub in_parens : List Token → List Token
in_parens ts = Token.mark left_paren ∷ (ts ++ (Token.mark right_paren ∷ []))

-- A load's number by its meaning.
abbrev pub meant_token : ℤ → Token
meant_token (pos n) = Token.number false n
meant_token (negsuc n) = Token.number true (suc n)

unfoldable pub number_token : (type number : ℕ) → Token
number_token t n = meant_token (meaning t n)

abbrev pub target_part : Func → List ℕ → List Token
target_part f [] = []
target_part f (t ∷ ts) = register_token f t ∷ Token.mark equals ∷ []

abbrev pub registers_part : Func → List ℕ → List Token
registers_part f rs = parted (map (λ r. register_token f r ∷ []) rs)

abbrev pub blocks_part : Func → List ℕ → List Token
blocks_part f bs = parted (map (λ b. block_token (block_at f b).name ∷ []) bs)

abbrev pub operand_part : Func → Row → List Token
operand_part f Row.nop = []
operand_part f (Row.load op t n) = in_parens (number_token (load_type op) n ∷ [])
operand_part f (Row.unary op t s) = []
operand_part f (Row.binary op t l r) = []
operand_part f (Row.phi t es) = in_parens (registers_part f es)
operand_part f (Row.jump b) = in_parens (blocks_part f (b ∷ []))
operand_part f (Row.branch s x y) = in_parens (blocks_part f (x ∷ y ∷ []))
operand_part f (Row.return s) = []
operand_part f Row.leave = []
operand_part f (Row.unknown op) = []

-- "optional target and `=`, instruction word, source registers parted by commas, optional operand in parentheses, `;`"
unfoldable pub row_line : Func → Row → List Token
row_line f r =
    target_part f (targets_of r)
    ++ (op_token (op_of r) ∷ (registers_part f (sources_of r) ++ (operand_part f r ++ (Token.mark semicolon ∷ []))))

abbrev pub closing : List Token
closing = Token.mark right_brace ∷ []

unfoldable pub block_lines : Func → Block → List (List Token)
block_lines f b =
    (Token.word block_word ∷ block_token b.name ∷ Token.mark left_brace ∷ []) ∷ (map (row_line f) b.rows ++ (closing ∷ []))

abbrev pub register_line : Register → List Token
register_line r = Token.word register_word ∷ type_token r.type ∷ Token.name r.name ∷ Token.mark semicolon ∷ []

abbrev pub parameter_part : Register → List Token
parameter_part r = type_token r.type ∷ Token.name r.name ∷ []

abbrev pub ssa_part : Func → List Token
ssa_part f = cond (is_ssa f) (Token.word ssa_word ∷ []) []

unfoldable pub head_line : Func → List Token
head_line f =
    Token.word function_word
    ∷ (ssa_part f
    ++ (result_token f.result
    ∷ Token.name f.name
    ∷ (in_parens (parted (map parameter_part (take f.params f.registers))) ++ (Token.mark left_brace ∷ []))))

unfoldable pub function_lines : Func → List (List Token)
function_lines f =
    head_line f ∷ (map register_line (drop f.params f.registers) ++ (gather (block_lines f) f.blocks ++ (closing ∷ [])))

-- All functions, in order.
unfoldable pub lines_of : Program → List (List Token)
lines_of p = gather function_lines p

-- The tokens of a program, one line after the other.
unfoldable pub tokens : Program → List Token
tokens p = gather (λ l. l) (lines_of p)

unfoldable pub text_of : Program → List ℕ
text_of p = gather line_bytes (lines_of p)
