-- What the reader's numbers stand for between two tokens: a stage of the grammar and a draft. Assumes nothing.
use Rattle.std.specs.Prelude.{◌≡◌, Bool, true, false, cond, List, [], ◌∷◌, ◌++◌, ℕ, ◌+◌, ◌≤◌, ◌<◌, T, ltb, length, Option, Result, Ok, Err}
use Rattle.language.specs.Programs.{Func, max_functions, max_registers, max_blocks, max_rows, max_name}
use Rattle.language.specs.Answers.{zeros}
use Rattle.language.specs.Table.{function_length, function_cells}
use Rattle.language.specs.Tokens.{Token as Tokenᴸ, Found as Foundᴸ}
use Rattle.language.specs.Grammar.{Stage}
use Rattle.language.specs.Reading.{Draft, ActOutcome, Parse, fresh}
use Rattle.language.specs.Reading as meaning
use Rattle.language.specs.Rooms.{Begun, begun, Room, begun_at}
use Rattle.name_index.specs.Hashes.{heads}
use Rattle.grammar.specs.Meaning.{bytes_of, stage_is, stage_from}
use Rattle.grammar.specs.Ready.{StageReady}
use Rattle.grammar.specs.declared.Token.{Token}
use Rattle.grammar.specs.declared.Token.TheVariants as tokens
use Rattle.grammar.specs.declared.Act.{Act}
use Rattle.drafts.specs.State.{fault_at, Bounded, Counts, Lent, Stands, CellsIndexed, NamesHeld, function_names, Acts, EndsFunction, KeptAs, fresh_at, if_room_at, names_length, pending_length, Always, Unnamed, NoBlock, NoParts, WholeRow}
use Rattle.drafts.specs.declared.state.Draft.{Draft as Draftᶜ}
use Rattle.drafts.specs.declared.state.Fault.{Fault}
use Rattle.answers.specs.declared.reasons.Reason.TheVariants as reasons
use Rattle.answers.specs.Reasons.{reason_number}
use Rattle.text_place.specs.declared.TextPlace.{TextPlace}
use Rattle.reader.specs.declared.taking.Reader.{Reader}
use Rattle.reader.specs.declared.taking.Step.{Step}
use Rattle.reader.specs.declared.taking.Step.TheVariants as steps

-- Before the first token of a function, so many being closed.
abbrev pub reader_at : ℕ → Reader
reader_at n = record { stage = stage_from 0 0 0; draft = fresh_at n }

-- ---- what is in hand at a stage

-- 0 where the function in hand has no name yet, 1 where no block is in hand, 2 where the instruction in hand has neither phi entries nor
-- mentions, 3 where it may have some.
abbrev pub depth : Stage → ℕ
depth Stage.top = 0
depth Stage.header = 0
depth Stage.result = 0
depth Stage.function_name = 0
depth Stage.parameters = 1
depth Stage.first_parameter = 1
depth Stage.parameter = 1
depth Stage.parameter_end = 1
depth (Stage.parameter_name t) = 1
depth Stage.body = 1
depth Stage.declarations = 1
depth Stage.register_type = 1
depth Stage.register_end = 1
depth (Stage.register_name t) = 1
depth Stage.blocks = 1
depth Stage.block_name = 1
depth Stage.block_body = 2
depth Stage.first_instruction = 2
depth Stage.next_instruction = 2
depth Stage.assignment = 2
depth Stage.instruction = 2
depth (Stage.source k o) = 2
depth (Stage.source_comma k o) = 2
depth (Stage.operand o) = 2
depth Stage.number = 2
depth Stage.entry = 3
depth Stage.entry_end = 3
depth (Stage.mention k) = 3
depth (Stage.mention_comma k) = 3
depth Stage.operand_end = 3
depth Stage.instruction_end = 3

pub record InHand (k : ℕ) (d : Draft) : Type 0 where
  pub name : T (ltb k 1) → Unnamed d
  pub block : T (ltb k 2) → NoBlock d
  pub parts : T (ltb k 3) → NoParts d

-- P holds of the draft that an act proceeds to.
pub data After (P : Draft → Type 0) : ActOutcome → Type 0 where
  refused : {n p : ℕ} → After P (ActOutcome.refuse n p)
  proceeds : {d : Draft} → P d → After P (ActOutcome.proceed d)

-- ---- the state

-- The cells of the function in hand have their length, if there is room for it; the rest of what is lent has it always.
pub record LentFor (functions : ℕ) (x : Lent) : Type 0 where
  pub cells : functions < max_functions → length x.cells ≡ function_length
  pub names : length x.names ≡ names_length
  pub pending : length x.pending ≡ pending_length
  pub last : length x.last ≡ heads
  pub before : length x.before ≡ max_registers

-- The state c and what is lent stand for a stage and a draft. Behind the last function there are no cells, and nothing is in hand.
pub record Follows (s : Stage) (d : Draft) (c : Reader) (x : Lent) : Type 0 where
  pub stage : stage_is c.stage ≡ s
  pub bounded : Bounded c.draft
  pub counts : Counts d c.draft
  pub lent : LentFor c.draft.functions x
  pub stands : length d.functions < max_functions → Stands d c.draft x
  pub ready : StageReady s d
  pub hand : InHand (depth s) d
  pub room : Room (begun_at s) d

-- With g one function more is closed: its cells and its name are what is lent, and nothing is in hand.
pub record ClosesWith (fs : List Func) (g : Func) (c : Reader) (x : Lent) : Type 0 where
  pub less : length fs < max_functions
  pub stage : stage_is c.stage ≡ Stage.top
  pub draft : c.draft ≡ fresh_at (length fs + 1)
  pub cells : x.cells ≡ function_cells g
  pub names : NamesHeld (function_names (fs ++ (g ∷ []))) x.names
  pub lent : LentFor (length fs) x

-- The tokens so far come to an answer, or, with these functions closed, to a state that stands for their stage and draft, to one function
-- more that is closed, or to the end.
pub data Reads (fs : List Func) (x : Lent) : Parse → Result (Step Reader) Fault → Type 0 where
  refused : (e : Fault) → Reads fs x (Parse.refused (reason_number e.reason) e.at.byte) (Err e)
  reading : (s : Stage) (d : Draft) (c : Reader) → d.functions ≡ fs → Follows s d c x → Reads fs x (Parse.reading s d) (Ok (steps.Reading c))
  closed : (g : Func) (c : Reader) → ClosesWith fs g c x → Reads fs x (Parse.reading Stage.top (fresh (fs ++ (g ∷ [])))) (Ok (steps.Closed c))
  ended : (c : Reader) → c.draft.functions ≡ length fs → (length fs < max_functions → x.cells ≡ zeros function_length)
      → Reads fs x (Parse.reading Stage.top (fresh fs)) (Ok (steps.Ended c))

-- Some tokens bring the reader to this state.
pub record ReaderReached (c : Reader) (x : Lent) : Type 0 where
  pub functions : List Func
  pub parse : Parse
  pub reads : Reads functions x parse (Ok (steps.Reading c))

-- ---- a token

-- The bytes beside a token: at most 64 of a name, none of another; and a place of a text.
pub record Beside (t : Token) (name : List ℕ) (p : TextPlace) : Type 0 where
  pub short : length name ≤ max_name
  pub bytes : bytes_of t name ≡ name
  pub low : p.byte < 4294967296

-- The token t with these bytes beside it is the definition's m: a number that is kept as this one.
pub data Means (bytes : List ℕ) : Token → Tokenᴸ → Type 0 where
  named : Means bytes tokens.Name (Tokenᴸ.name bytes)
  word : (w : ℕ) → Means bytes (tokens.Word w) (Tokenᴸ.word w)
  number : (g : Bool) (v : Option ℕ) (n : ℕ) → KeptAs n v → Means bytes (tokens.Number g v) (Tokenᴸ.number g n)
  mark : (b : ℕ) → Means bytes (tokens.Mark b) (Tokenᴸ.mark b)
  end : Means bytes tokens.End Tokenᴸ.end

-- The end of the text, and no other token, ends reading.
abbrev pub is_end : Token → Bool
is_end tokens.Name = false
is_end (tokens.Word w) = false
is_end (tokens.Number g v) = false
is_end (tokens.Mark b) = false
is_end tokens.End = true

abbrev pub Suits : Bool → Result (Step Reader) Fault → Type 0
Suits last (Err e) = Unit {0}
Suits last (Ok (steps.Reading c)) = last ≡ false
Suits last (Ok (steps.Closed c)) = last ≡ false
Suits last (Ok (steps.Ended c)) = last ≡ true

-- One more token.
abbrev pub Takes : (name : List ℕ) (p : TextPlace) (t : Token) (c : Reader) (x : Lent) (r : Result (Step Reader) Fault) (x' : Lent) → Type 0
Takes name p t c x r x' =
    (fs : List Func) (parse : Parse) → Reads fs x parse (Ok (steps.Reading c)) → (m : Tokenᴸ) → Means name t m
    → Reads fs x' (meaning.take_token parse (Foundᴸ.token p.byte m)) r

-- The end, at this place.
abbrev pub EndTaken : (p : TextPlace) (c : Reader) (x : Lent) (r : Result (Step Reader) Fault) → Type 0
EndTaken p c x r =
    (fs : List Func) (parse : Parse) → Reads fs x parse (Ok (steps.Reading c)) → Reads fs x (meaning.take_token parse (Foundᴸ.token p.byte Tokenᴸ.end)) r

-- ---- an act

-- What an act puts down, and whether it is in a function.
abbrev pub wants : Act → Begun
wants Act.Wrong = begun 0 0 0 0
wants Act.Pass = begun 0 0 0 0
wants Act.BeginFunction = begun 0 0 0 0
wants Act.MarkSsa = begun 1 0 0 0
wants Act.BeginRegister = begun 1 0 0 0
wants Act.BeginBlock = begun 1 0 0 0
wants (Act.SetResult t) = begun 1 0 0 0
wants Act.NameFunction = begun 1 0 0 0
wants Act.NameBlock = begun 1 0 1 0
wants (Act.NameRegister k t) = begun 1 1 0 0
wants (Act.BeginInstruction op) = begun 1 0 0 0
wants (Act.SetInstruction op) = begun 1 0 0 0
wants Act.SetTarget = begun 1 0 0 0
wants Act.AddSource = begun 1 0 0 0
wants Act.AddEntry = begun 1 0 0 0
wants Act.AddMention = begun 1 0 0 0
wants (Act.SetNumber neg v) = begun 1 0 0 0
wants Act.EndInstruction = begun 1 0 0 1
wants Act.EndBlock = begun 1 0 1 0
wants Act.EndFunction = begun 1 0 0 0

-- The type that an act gives a register is small.
abbrev pub Holding : Act → Type 0
Holding Act.Wrong = Unit {0}
Holding Act.Pass = Unit {0}
Holding Act.BeginFunction = Unit {0}
Holding Act.MarkSsa = Unit {0}
Holding Act.BeginRegister = Unit {0}
Holding Act.BeginBlock = Unit {0}
Holding (Act.SetResult t) = Unit {0}
Holding Act.NameFunction = Unit {0}
Holding Act.NameBlock = Unit {0}
Holding (Act.NameRegister k t) = t < 256
Holding (Act.BeginInstruction op) = Unit {0}
Holding (Act.SetInstruction op) = Unit {0}
Holding Act.SetTarget = Unit {0}
Holding Act.AddSource = Unit {0}
Holding Act.AddEntry = Unit {0}
Holding Act.AddMention = Unit {0}
Holding (Act.SetNumber neg v) = Unit {0}
Holding Act.EndInstruction = Unit {0}
Holding Act.EndBlock = Unit {0}
Holding Act.EndFunction = Unit {0}

-- There is room for it.
pub record RoomFor (w : Begun) (d : Draftᶜ) : Type 0 where
  pub functions : d.functions + w.functions ≤ max_functions
  pub registers : d.head.registers + w.registers ≤ max_registers
  pub blocks : d.blocks.closed + w.blocks ≤ max_blocks
  pub rows : d.blocks.rows + w.rows ≤ max_rows

-- What an act asks for.
pub record Enabled (d : Draftᶜ) (x : Lent) (name : List ℕ) (p : TextPlace) (a : Act) : Type 0 where
  pub bounded : Bounded d
  pub lent : LentFor d.functions x
  pub indexed : d.functions < max_functions → CellsIndexed d x.cells x.last x.before
  pub short : length name ≤ max_name
  pub low : p.byte < 4294967296
  pub room : RoomFor (wants a) d
  pub holding : Holding a

-- Nothing lent is changed, and this is the answer.
abbrev pub LeavesLent : (x : Lent) (r : Result Draftᶜ Fault) (x' : Lent) → Result Draftᶜ Fault → Type 0
LeavesLent x r x' o = (r ≡ o) × (x' ≡ x)

-- What each act does in code.
abbrev pub Performs : (name : List ℕ) (p : TextPlace) (d : Draftᶜ) (x : Lent) (r : Result Draftᶜ Fault) (x' : Lent) → Act → Type 0
Performs name p d x r x' Act.Wrong = LeavesLent x r x' (Err (fault_at reasons.TokenNotAllowed p))
Performs name p d x r x' Act.Pass = LeavesLent x r x' (Ok d)
Performs name p d x r x' Act.BeginFunction = LeavesLent x r x' (if_room_at d.functions max_functions p d)
Performs name p d x r x' Act.MarkSsa = Acts Always meaning.mark_ssa d x r x'
Performs name p d x r x' Act.BeginRegister = LeavesLent x r x' (if_room_at d.head.registers max_registers p d)
Performs name p d x r x' Act.BeginBlock = LeavesLent x r x' (if_room_at d.blocks.closed max_blocks p d)
Performs name p d x r x' (Act.SetResult k) = Acts Always (meaning.set_result k) d x r x'
Performs name p d x r x' Act.NameFunction = Acts Unnamed (meaning.name_function name p.byte) d x r x'
Performs name p d x r x' Act.NameBlock = Acts NoBlock (meaning.name_block name p.byte) d x r x'
Performs name p d x r x' (Act.NameRegister k t) = Acts Always (meaning.name_register (cond k 1 0) t name p.byte) d x r x'
Performs name p d x r x' (Act.BeginInstruction op) = Acts NoParts (meaning.begin_instruction op p.byte) d x r x'
Performs name p d x r x' (Act.SetInstruction op) = Acts NoParts (meaning.set_instruction op) d x r x'
Performs name p d x r x' Act.SetTarget = Acts NoParts (meaning.set_target name p.byte) d x r x'
Performs name p d x r x' Act.AddSource = Acts Always (meaning.add_source name p.byte) d x r x'
Performs name p d x r x' Act.AddEntry = Acts Always (meaning.add_entry name p.byte) d x r x'
Performs name p d x r x' Act.AddMention = Acts Always (meaning.add_mention name p.byte) d x r x'
Performs name p d x r x' (Act.SetNumber neg v) = (n : ℕ) → KeptAs n v → Acts Always (meaning.set_number neg n p.byte) d x r x'
Performs name p d x r x' Act.EndInstruction = Acts WholeRow meaning.end_instruction d x r x'
Performs name p d x r x' Act.EndBlock = Acts Always meaning.end_block d x r x'
Performs name p d x r x' Act.EndFunction = EndsFunction p.byte d x r x'
