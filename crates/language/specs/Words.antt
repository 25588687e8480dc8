-- The words (document 01, "The text"): "A plain spelling of `function` `ssa` `void` `register` `block` `entry`, a type or an
-- instruction is a word and never a name." Assumes nothing.
use Rattle.std.specs.Prelude.{Bool, ◌&&◌, List, [], ◌∷◌, map, ℕ, suc, ◌+◌, ◌-◌, ltb, leb, get_or}
use Prim.Native.String.{String}
use Rattle.laws.specs.Lists.{position, same}
use Rattle.language.specs.Bytes.{bytes_of}
use Rattle.language.specs.Instructions.{type_count, instruction_count}

-- Six words of the grammar, then the types and then the instructions in the order of their numbers.
abbrev pub spellings : List String
spellings =
    "function" ∷ "ssa" ∷ "void" ∷ "register" ∷ "block" ∷ "entry"
    ∷ "int8" ∷ "int16" ∷ "int32" ∷ "int64" ∷ "uint8" ∷ "uint16" ∷ "uint32" ∷ "uint64" ∷ "int" ∷ "uint"
    ∷ "nop"
    ∷ "load.i8" ∷ "load.ui8" ∷ "load.i16" ∷ "load.ui16" ∷ "load.i32" ∷ "load.ui32" ∷ "load.i64" ∷ "load.ui64"
    ∷ "ari.add" ∷ "ari.sub" ∷ "ari.mul" ∷ "ari.div" ∷ "ari.rem" ∷ "ari.neg"
    ∷ "bit.and" ∷ "bit.or" ∷ "bit.xor" ∷ "bit.neg"
    ∷ "shl" ∷ "shr" ∷ "rol" ∷ "ror"
    ∷ "cmp.eq" ∷ "cmp.neq" ∷ "cmp.gt" ∷ "cmp.lt" ∷ "cmp.gteq" ∷ "cmp.lteq"
    ∷ "conv" ∷ "copy" ∷ "phi"
    ∷ "jump" ∷ "jump.cond" ∷ "return" ∷ "leave"
    ∷ []

unfoldable pub words : List (List ℕ)
words = map bytes_of spellings

-- How word number w is spelled.
abbrev pub spelling_of : ℕ → List ℕ
spelling_of w = get_or words w []

abbrev pub function_word : ℕ
function_word = 0

abbrev pub ssa_word : ℕ
ssa_word = 1

abbrev pub void_word : ℕ
void_word = 2

abbrev pub register_word : ℕ
register_word = 3

abbrev pub block_word : ℕ
block_word = 4

abbrev pub entry_word : ℕ
entry_word = 5

abbrev pub first_type : ℕ
first_type = suc entry_word

abbrev pub first_instruction : ℕ
first_instruction = first_type + type_count

abbrev pub word_count : ℕ
word_count = first_instruction + instruction_count

-- The number of a word, or the count of the words where these bytes spell none.
unfoldable pub word_of : List ℕ → ℕ
word_of n = position (λ w. same w n) words

-- The word is a type.
abbrev pub is_type : ℕ → Bool
is_type w = leb first_type w && ltb w first_instruction

-- The type's number.
abbrev pub type_of : ℕ → ℕ
type_of w = w - first_type

-- The word is an instruction.
abbrev pub is_instruction : ℕ → Bool
is_instruction w = leb first_instruction w && ltb w word_count

-- The instruction's number.
abbrev pub instruction_of : ℕ → ℕ
instruction_of w = w - first_instruction
