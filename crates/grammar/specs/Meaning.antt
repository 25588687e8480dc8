-- The language's stage, token, act and move of the numbers that stand for them here. Assumes nothing.
use Rattle.std.specs.Prelude.{◌≡◌, Bool, true, false, cond, List, [], ◌∷◌, ℕ, eqb, get_or, Option, Some, None}
use Rattle.language.specs.Instructions.{Operand}
use Rattle.language.specs.Words.{entry_word}
use Rattle.language.specs.Tokens.{Token as Tokenᴸ}
use Rattle.language.specs.Grammar.{Bracketed, Stage as Stageᴸ, Act as Actᴸ, Move as Moveᴸ, to}
use Rattle.grammar.specs.declared.Token.{Token}
use Rattle.grammar.specs.declared.Token.TheVariants.{Name, Word, Number, Mark, End}
use Rattle.grammar.specs.declared.Stage.{Stage}
use Rattle.grammar.specs.declared.Act.{Act}
use Rattle.grammar.specs.declared.Move.{Move}

-- What a token does not hold itself: the bytes of a name, and the magnitude of a number that is 2^64 or more.
pub record TokenSpot : Type 0 where
  pub name : List ℕ
  pub large : ℕ

abbrev pub magnitude_of : (large : ℕ) → Option ℕ → ℕ
magnitude_of n None = n
magnitude_of n (Some v) = v

abbrev pub token_of : TokenSpot → Token → Tokenᴸ
token_of s Name = Tokenᴸ.name s.name
token_of s (Word w) = Tokenᴸ.word w
token_of s (Number neg v) = Tokenᴸ.number neg (magnitude_of s.large v)
token_of s (Mark b) = Tokenᴸ.mark b
token_of s End = Tokenᴸ.end

-- The bytes that come beside a token: those of a name, and none beside any other, the word `entry` included.
abbrev pub bytes_of : Token → List ℕ → List ℕ
bytes_of Name n = n
bytes_of (Word w) n = []
bytes_of (Number neg v) n = []
bytes_of (Mark b) n = []
bytes_of End n = []

abbrev pub spot_of : Token → TokenSpot → TokenSpot
spot_of t s = record { name = bytes_of t s.name; large = s.large }

-- The operand of its number: none, a number, a list of registers, one block, two blocks.
abbrev pub operand_from : ℕ → Operand
operand_from k = get_or (Operand.none ∷ Operand.number ∷ Operand.registers ∷ Operand.block ∷ []) k Operand.blocks

-- What its parentheses hold. No stage before them comes with 0, the operand that is none.
abbrev pub bracketed_from : ℕ → Bracketed
bracketed_from k = get_or (Bracketed.blocks ∷ Bracketed.number ∷ Bracketed.registers ∷ Bracketed.block ∷ []) k Bracketed.blocks

-- The stages in the order of their numbers, but the last; m is how many more come, d a type or an operand.
abbrev pub stages : (m d : ℕ) → List Stageᴸ
stages m d =
    Stageᴸ.top ∷ Stageᴸ.header ∷ Stageᴸ.result ∷ Stageᴸ.function_name
    ∷ Stageᴸ.parameters ∷ Stageᴸ.first_parameter ∷ Stageᴸ.parameter ∷ Stageᴸ.parameter_end ∷ Stageᴸ.parameter_name d
    ∷ Stageᴸ.body ∷ Stageᴸ.declarations ∷ Stageᴸ.register_type ∷ Stageᴸ.register_end ∷ Stageᴸ.register_name d
    ∷ Stageᴸ.blocks ∷ Stageᴸ.block_name ∷ Stageᴸ.block_body ∷ Stageᴸ.first_instruction ∷ Stageᴸ.next_instruction
    ∷ Stageᴸ.assignment ∷ Stageᴸ.instruction
    ∷ Stageᴸ.source m (operand_from d) ∷ Stageᴸ.source_comma m (operand_from d)
    ∷ Stageᴸ.operand (bracketed_from d) ∷ Stageᴸ.number ∷ Stageᴸ.entry ∷ Stageᴸ.entry_end
    ∷ Stageᴸ.mention m ∷ Stageᴸ.mention_comma m ∷ Stageᴸ.operand_end
    ∷ []

abbrev pub stage_of : (kind more detail : ℕ) → Stageᴸ
stage_of k m d = get_or (stages m d) k Stageᴸ.instruction_end

abbrev pub act_of : TokenSpot → Act → Actᴸ
act_of s Act.Wrong = Actᴸ.wrong
act_of s Act.Pass = Actᴸ.pass
act_of s Act.BeginFunction = Actᴸ.begin_function
act_of s Act.MarkSsa = Actᴸ.mark_ssa
act_of s Act.BeginRegister = Actᴸ.begin_register
act_of s Act.BeginBlock = Actᴸ.begin_block
act_of s (Act.SetResult t) = Actᴸ.set_result t
act_of s Act.NameFunction = Actᴸ.name_function s.name
act_of s Act.NameBlock = Actᴸ.name_block s.name
act_of s (Act.NameRegister k t) = cond k (Actᴸ.name_parameter t s.name) (Actᴸ.name_register t s.name)
act_of s (Act.BeginInstruction op) = Actᴸ.begin_instruction op
act_of s (Act.SetInstruction op) = Actᴸ.set_instruction op
act_of s Act.SetTarget = Actᴸ.set_target s.name
act_of s Act.AddSource = Actᴸ.add_source s.name
act_of s Act.AddEntry = Actᴸ.add_entry s.name
act_of s Act.AddMention = Actᴸ.add_mention s.name
act_of s (Act.SetNumber neg v) = Actᴸ.set_number neg (magnitude_of s.large v)
act_of s Act.EndInstruction = Actᴸ.end_instruction
act_of s Act.EndBlock = Actᴸ.end_block
act_of s Act.EndFunction = Actᴸ.end_function

abbrev pub stage_is : Stage → Stageᴸ
stage_is x = stage_of x.kind x.more x.detail

abbrev pub move_of : TokenSpot → Move → Moveᴸ
move_of s m = to (stage_is m.stage) (act_of s m.act)

-- Whatever comes beside this token, m is the move that g makes of it.
abbrev pub Moves : (Tokenᴸ → Moveᴸ) → Token → Move → Type 0
Moves g t m = (s : TokenSpot) → move_of (spot_of t s) m ≡ g (token_of s t)

abbrev pub stage_from : (kind more detail : ℕ) → Stage
stage_from k m d = record { kind = k; more = m; detail = d }

abbrev pub move_to : ℕ → Act → Move
move_to k a = record { stage = stage_from k 0 0; act = a }

-- The token is this mark.
abbrev pub is_mark : ℕ → Token → Bool
is_mark c Name = false
is_mark c (Word w) = false
is_mark c (Number neg v) = false
is_mark c (Mark b) = eqb b c
is_mark c End = false

-- "`entry` or a name"
abbrev pub names_block : Token → Bool
names_block Name = true
names_block (Word w) = eqb w entry_word
names_block (Number neg v) = false
names_block (Mark b) = false
names_block End = false

-- The token ends the block at a stage of this kind: the one after an instruction.
abbrev pub ends_block : ℕ → Token → Bool
ends_block k t = cond (eqb k 18) (is_mark 125 t) false

-- The stage of this kind, where an instruction may stand.
abbrev pub instruction_at : ℕ → Stageᴸ
instruction_at k = cond (eqb k 18) Stageᴸ.next_instruction Stageᴸ.first_instruction
