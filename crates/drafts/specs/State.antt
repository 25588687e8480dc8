-- What a draft's numbers stand for: a draft of the definition, whose cells and names are lent. Assumes nothing.
use Rattle.std.specs.Prelude.{◌≡◌, cond, List, [], ◌∷◌, ◌++◌, map, ℕ, ◌+◌, ◌-◌, ◌*◌, ◌≤◌, ◌<◌, min, ltb, length, get_or, Option, Some, None, Result, Ok, Err}
use Rattle.language.specs.Programs.{Func, max_rows, max_entries, max_blocks, max_registers, max_functions, max_name}
use Rattle.language.specs.Instructions.{Operand, form_of, has_target, source_count, operand_of}
use Rattle.language.specs.Table.{name_at, four, eight_bytes, name_length, function_length, register_length, register_names_offset, function_cells}
use Rattle.language.specs.Reading.{Draft as Draftᴸ, Mention, no_mention, no_open_block, ActOutcome, open_rows, phi_entries, rows_in, row_of, entries_in, mentions_in, fresh, register_number, end_function}
use Rattle.name_index.specs.Chains.{Indexed}
use Rattle.name_index.specs.Hashes.{heads}
use Rattle.name_index.specs.Names.{names_in}
use Rattle.instructions.specs.Ranges.{beyond}
use Rattle.drafts.specs.Mentions.{max_names, name_number, keep_mention, kept}
use Rattle.drafts.specs.Cells.{WithinSizes, open_cells, mention_cell}
use Rattle.drafts.specs.declared.state.Head.{Head}
use Rattle.drafts.specs.declared.state.Blocks.{Blocks}
use Rattle.drafts.specs.declared.state.Parts.{Parts}
use Rattle.drafts.specs.declared.state.Draft.{Draft}
use Rattle.drafts.specs.declared.state.Fault.{Fault}
use Rattle.answers.specs.declared.reasons.Reason.{Reason}
use Rattle.answers.specs.declared.reasons.Reason.TheVariants as reasons
use Rattle.answers.specs.Reasons.{reason_number}
use Rattle.text_place.specs.declared.TextPlace.{TextPlace}

-- The bounds of every draft's numbers, whatever they stand for.
pub record Bounded (s : Draft) : Type 0 where
  pub functions : s.functions ≤ max_functions
  pub ssa : s.head.ssa < 256
  pub result : s.head.result < 256
  pub registers : s.head.registers ≤ max_registers
  pub params : s.head.params ≤ s.head.registers
  pub blocks : s.blocks.closed ≤ max_blocks
  pub rows : s.blocks.rows ≤ max_rows
  pub first : s.blocks.first ≤ s.blocks.rows
  pub entries : s.blocks.entries ≤ max_entries
  pub names : s.blocks.names ≤ max_names
  pub op : s.parts.op < 256
  pub target : s.parts.target < 256
  pub left : s.parts.left < 256
  pub right : s.parts.right < 256
  pub own : s.parts.entries ≤ s.blocks.entries
  pub one : s.parts.one ≤ max_names
  pub other : s.parts.other ≤ max_names

-- The numbers of a draft: of the function's head,
pub record HeadCounts (d : Draftᴸ) (h : Head) : Type 0 where
  pub ssa : h.ssa ≡ d.function.ssa
  pub result : h.result ≡ d.function.result
  pub params : h.params ≡ d.function.params
  pub registers : h.registers ≡ length d.function.registers

-- of its blocks,
pub record BlockCounts (d : Draftᴸ) (b : Blocks) : Type 0 where
  pub closed : b.closed ≡ length d.blocks
  pub rows : b.rows ≡ length (open_rows d)
  pub first : b.first ≡ length (rows_in d.blocks)
  pub entries : b.entries ≡ phi_entries d
  pub names : b.names ≡ length (kept d)

-- and of the instruction in hand.
pub record PartCounts (d : Draftᴸ) (x : Parts) : Type 0 where
  pub op : x.op ≡ d.parts.op
  pub target : x.target ≡ d.parts.target
  pub left : x.left ≡ get_or d.parts.sources 0 0
  pub right : x.right ≡ get_or d.parts.sources 1 0
  pub sources : x.sources ≡ min (length d.parts.sources) 2
  pub number : x.number ≡ d.parts.number
  pub entries : x.entries ≡ length d.parts.entries
  pub one : x.one ≡ mention_cell (kept d) d.parts.mentions 0
  pub other : x.other ≡ mention_cell (kept d) d.parts.mentions 1
  pub mentions : x.mentions ≡ min (length d.parts.mentions) 2

pub record Counts (d : Draftᴸ) (s : Draft) : Type 0 where
  pub functions : s.functions ≡ length d.functions
  pub head : HeadCounts d s.head
  pub blocks : BlockCounts d s.blocks
  pub parts : PartCounts d s.parts

-- ---- what is lent

-- Behind the last of the names a search may look 256 cells far.
abbrev pub names_length : ℕ
names_length = max_functions * name_length + 256

abbrev pub mention_length : ℕ
mention_length = name_length + 4

abbrev pub pending_length : ℕ
pending_length = max_names * mention_length + 256

-- Functions' names, each its length and bytes. Behind them there is none yet: what stands there is a name of no bytes.
pub record NamesHeld (ns : List (List ℕ)) (names : List ℕ) : Type 0 where
  pub held : (i : ℕ) → i < length ns → (name_at names (name_length * i) ≡ get_or ns i []) × (get_or names (name_length * i) 0 ≤ max_name)
  pub free : (i : ℕ) → length ns ≤ i → get_or names (name_length * i) 0 ≡ 0

abbrev pub function_names : List Func → List (List ℕ)
function_names fs = map (λ f. f.name) fs

-- The names of the functions closed, and that of the function in hand, which has no bytes until it is read.
abbrev pub draft_names : Draftᴸ → List (List ℕ)
draft_names d = function_names d.functions ++ (d.function.name ∷ [])

-- The names mentioned, each its length and bytes and behind them, in four cells, its place. No name reaches into the cells behind it.
abbrev pub Pending : List Mention → List ℕ → Type 0
Pending ks pend =
    (k : ℕ) → k < length ks
    → (name_at pend (mention_length * k) ≡ (get_or ks k no_mention).name)
    × (four pend (mention_length * k + name_length) ≡ (get_or ks k no_mention).place)
    × (get_or pend (mention_length * k) 0 ≤ max_name)

-- Everything that is lent: the cells of the function in hand, the functions' names, the names mentioned, and the chains in which the
-- registers' names are found.
pub record Lent : Type 0 where
  pub cells : List ℕ
  pub names : List ℕ
  pub pending : List ℕ
  pub last : List ℕ
  pub before : List ℕ

abbrev pub lent_of : (cells names pending last before : List ℕ) → Lent
lent_of f n p l b = record { cells = f; names = n; pending = p; last = l; before = b }

pub record LentWhole (x : Lent) : Type 0 where
  pub cells : length x.cells ≡ function_length
  pub names : length x.names ≡ names_length
  pub pending : length x.pending ≡ pending_length
  pub last : length x.last ≡ heads
  pub before : length x.before ≡ max_registers

-- The names of registers in cells are in the chains.
abbrev pub CellsIndexed : (s : Draft) (f last before : List ℕ) → Type 0
CellsIndexed s f last before = Indexed (names_in f register_names_offset register_length s.head.registers) last before

-- The numbers s and what is lent stand for the draft d.
pub record Stands (d : Draftᴸ) (s : Draft) (x : Lent) : Type 0 where
  pub counts : Counts d s
  pub within : WithinSizes d
  pub cells : x.cells ≡ open_cells d
  pub names : NamesHeld (draft_names d) x.names
  pub pending : Pending (kept d) x.pending
  pub indexed : Indexed (map (λ r. r.name) d.function.registers) x.last x.before

-- r is the number of this name among the registers, whatever the draft that these stand for.
abbrev pub NumberOf : Draft → (f name : List ℕ) → (r : ℕ) → Type 0
NumberOf s f name r = (d : Draftᴸ) (n m l b : List ℕ) → Stands d s (lent_of f n m l b) → r ≡ register_number d.function.registers name

-- ---- what an act comes to

-- An instruction that has only its number and target so far; between two functions, so many being closed.
abbrev pub parts_from : (op target : ℕ) → Parts
parts_from op t =
    record { op = op; target = t; left = 0; right = 0; sources = 0; number = 0; entries = 0; one = 0; other = 0; mentions = 0 }

abbrev pub fresh_at : ℕ → Draft
fresh_at n =
    record {
      functions = n;
      head = record { ssa = 0; result = 0; params = 0; registers = 0 };
      blocks = record { closed = 0; rows = 0; first = 0; entries = 0; names = 0 };
      parts = parts_from 0 0;
    }

-- The fault of a reason and a place.
abbrev pub fault_at : Reason → TextPlace → Fault
fault_at r p = record { reason = r; at = p }

-- The definition's answer, or a draft that goes on.
pub data Comes (x : Lent) : ActOutcome → Result Draft Fault → Type 0 where
  refuses : (e : Fault) → Comes x (ActOutcome.refuse (reason_number e.reason) e.at.byte) (Err e)
  proceeds : (d : Draftᴸ) (s : Draft) → Stands d s x → Comes x (ActOutcome.proceed d) (Ok s)

-- The definition's answer, or one function more that is closed, the cells being its own.
pub data Closes (x : Lent) : ActOutcome → Result Draft Fault → Type 0 where
  refuses : (e : Fault) → Closes x (ActOutcome.refuse (reason_number e.reason) e.at.byte) (Err e)
  closes : (fs : List Func) (g : Func) → length fs < max_functions → x.cells ≡ function_cells g → NamesHeld (function_names (fs ++ (g ∷ []))) x.names
      → Closes x (ActOutcome.proceed (fresh (fs ++ (g ∷ [])))) (Ok (fresh_at (length fs + 1)))

-- The numbers after an act keep their bounds.
abbrev pub KeepsBounds : Result Draft Fault → Type 0
KeepsBounds (Err e) = Unit {0}
KeepsBounds (Ok s) = Bounded s

-- The conditions: none; no function's name, no block, no parts of an instruction in hand; of a row that ends, all its entries and mentions.
abbrev pub Always : Draftᴸ → Type 0
Always d = Unit {0}

abbrev pub Unnamed : Draftᴸ → Type 0
Unnamed d = d.function.name ≡ []

abbrev pub NoBlock : Draftᴸ → Type 0
NoBlock d = d.block ≡ no_open_block

abbrev pub NoParts : Draftᴸ → Type 0
NoParts d = (d.parts.entries ≡ []) × (d.parts.mentions ≡ [])

abbrev pub WholeRow : Draftᴸ → Type 0
WholeRow d = (entries_in (row_of d.parts) ≡ d.parts.entries) × (mentions_in (row_of d.parts) ≡ d.parts.mentions)

abbrev pub NothingOpen : Draftᴸ → Type 0
NothingOpen d = NoBlock d × NoParts d

-- An act in code, from the numbers s and what is lent to r and x', does what the definition's act does to every draft that these stand for
-- and that meets the act's condition.
pub record Acts (Fit : Draftᴸ → Type 0) (act : Draftᴸ → ActOutcome) (s : Draft) (x : Lent) (r : Result Draft Fault) (x' : Lent) : Type 0 where
  pub kept : KeepsBounds r
  pub whole : LentWhole x → LentWhole x'
  pub meaning : (d : Draftᴸ) → Stands d s x → Fit d → Comes x' (act d) r

-- The same of a function's closing brace, where nothing is open.
pub record EndsFunction (p : ℕ) (s : Draft) (x : Lent) (r : Result Draft Fault) (x' : Lent) : Type 0 where
  pub kept : KeepsBounds r
  pub whole : LentWhole x → LentWhole x'
  pub meaning : (d : Draftᴸ) → Stands d s x → NothingOpen d → Closes x' (end_function p d) r

-- An act that needs what it finds among the cells alone, and one that leaves all as it is.
abbrev pub ActsOn : (Draftᴸ → Type 0) → (Draftᴸ → ActOutcome) → Draft → (f last before : List ℕ) → Result Draft Fault → (f' : List ℕ) → Type 0
ActsOn Fit act s f last before r f' = (n p : List ℕ) → Acts Fit act s (lent_of f n p last before) r (lent_of f' n p last before)

abbrev pub ActsAlone : (Draftᴸ → Type 0) → (Draftᴸ → ActOutcome) → Draft → Result Draft Fault → Type 0
ActsAlone Fit act s r = (x : Lent) → Acts Fit act s x r x

-- A number as the lexer keeps it: its value, or none if it is 2^64 or more.
pub data KeptAs (n : ℕ) : Option ℕ → Type 0 where
  exact : KeptAs n (Some n)
  large : beyond ≤ n → KeptAs n None

-- A name looked for among the n that are kept, r being its number: it is kept too if it is new and there is room.
pub record NameKept (n : ℕ) (name : List ℕ) (p : ℕ) (pend pend' : List ℕ) (r : ℕ) : Type 0 where
  pub size : length pend' ≡ length pend
  pub number : (ks : List Mention) → n ≡ length ks → Pending ks pend → r ≡ name_number ks name
  pub all :
      (ks : List Mention) → n ≡ length ks → Pending ks pend
      → Pending (keep_mention ks (record { name = name; place = p })) pend'

-- 5, unless there is room for one more.
abbrev pub if_room_at : (count limit : ℕ) (place : TextPlace) → Draft → Result Draft Fault
if_room_at k m p s = cond (ltb k m) (Ok s) (Err (fault_at reasons.SizeExceeded p))

-- The draft with one name more, if the one of this number is new and there is room for it.
abbrev pub with_name_at : Draft → ℕ → Draft
with_name_at s k =
    let b = s.blocks in
    let n = cond (ltb k b.names) b.names (cond (ltb b.names max_names) (b.names + 1) b.names) in
    record {
      functions = s.functions;
      head = s.head;
      blocks = record { closed = b.closed; rows = b.rows; first = b.first; entries = b.entries; names = n };
      parts = s.parts;
    }

-- The operand as one number: a load's, a phi's first entry and count, the numbers of a jump's names.
abbrev pub operand_at : Operand → Draft → ℕ
operand_at Operand.none s = 0
operand_at Operand.number s = s.parts.number
operand_at Operand.registers s = s.blocks.entries - s.parts.entries + 65536 * s.parts.entries
operand_at Operand.block s = s.parts.one
operand_at Operand.blocks s = s.parts.one + 256 * s.parts.other

-- The cells of the instruction in hand, by its form: what `instruction_cells` has of the parts it stands for.
abbrev pub row_at : Draft → List ℕ
row_at s =
    let x = s.parts in
    let g = form_of x.op in
    x.op ∷ cond (has_target g) x.target 0 ∷ cond (ltb 0 (source_count g)) x.left 0 ∷ cond (ltb 1 (source_count g)) x.right 0
    ∷ eight_bytes (operand_at (operand_of g) s)
