-- Programs: functions, registers, blocks, rows, entry and names (document 01, "The text"), and the sizes.
-- A program may hold any numbers: which of them are right is the check's to say.
-- Assumes nothing.
use Rattle.std.specs.Prelude.{Bool, true, false, ◌&&◌, List, [], ◌∷◌, map, ℕ, ◌+◌, ◌*◌, eqb, length, get_or, take}
use Rattle.laws.specs.Lists.{gather, sum, any, same}
use Rattle.language.specs.Instructions.{Form, instruction_count, nop_op, phi_op, jump_op, jump_cond_op, return_op, leave_op}

-- A row is an instruction with its numbers: registers and blocks by their place in the function's lists, an instruction
-- (`op`) by its number where its form has several. `unknown` is a row whose number is no instruction's.
pub data Row : Type 0 where
  nop : Row
  load : (op target number : ℕ) → Row
  unary : (op target source : ℕ) → Row
  binary : (op target left right : ℕ) → Row
  phi : (target : ℕ) (entries : List ℕ) → Row
  jump : (block : ℕ) → Row
  branch : (source first second : ℕ) → Row
  return : (source : ℕ) → Row
  leave : Row
  unknown : (op : ℕ) → Row

pub record Register : Type 0 where
  pub type : ℕ
  pub name : List ℕ

pub record Block : Type 0 where
  pub name : List ℕ
  pub rows : List Row

-- `ssa` is 1 for a function so marked and 0 for another. The first `params` registers are the parameters. `placed` is true
-- where what a table stores twice agrees: a block's first row and a phi's first entry are those the counts give, a block's
-- predecessors those the terminators give. It is true of every function that is read or translated.
pub record Func : Type 0 where
  pub name : List ℕ
  pub ssa : ℕ
  pub result : ℕ
  pub params : ℕ
  pub registers : List Register
  pub blocks : List Block
  pub entry : ℕ
  pub placed : Bool

abbrev pub Program : Type 0
Program = List Func

-- "Sizes: text 65,536 bytes; 16 functions; in each function 256 registers (parameters counted), 64 blocks, 1,024
-- instructions, 1,024 phi entries." "A name has 1 to 64 bytes".
abbrev pub max_text : ℕ
max_text = 65536

abbrev pub max_functions : ℕ
max_functions = 16

abbrev pub max_registers : ℕ
max_registers = 256

abbrev pub max_blocks : ℕ
max_blocks = 64

abbrev pub max_rows : ℕ
max_rows = 1024

abbrev pub max_entries : ℕ
max_entries = 1024

abbrev pub max_name : ℕ
max_name = 64

-- What stands at a number that is no register's, block's or function's: nothing, with no name.
abbrev pub no_register : Register
no_register = record { type = 0; name = [] }

abbrev pub no_block : Block
no_block = record { name = []; rows = [] }

abbrev pub no_function : Func
no_function = record { name = []; ssa = 0; result = 0; params = 0; registers = []; blocks = []; entry = 0; placed = true }

-- What stands at a place without a row: no instruction.
abbrev pub no_row : Row
no_row = Row.unknown instruction_count

-- Function number i of a program.
abbrev pub function_in : Program → ℕ → Func
function_in p i = get_or p i no_function

-- A function is accepted as ssa only if it is so marked.
abbrev pub is_ssa : Func → Bool
is_ssa f = eqb f.ssa 1

abbrev pub block_at : Func → ℕ → Block
block_at f b = get_or f.blocks b no_block

abbrev pub rows_at : Func → ℕ → List Row
rows_at f b = (block_at f b).rows

abbrev pub type_at : Func → ℕ → ℕ
type_at f r = (get_or f.registers r no_register).type

-- The function gives a result of this type and takes parameters of these.
unfoldable pub has_signature : Func → ℕ → List ℕ → Bool
has_signature f result types =
    eqb f.result result && (eqb f.params (length types) && same (map (λ r. r.type) (take f.params f.registers)) types)

-- All rows of a function, one block after the other: "Rows count from 0 through a function".
unfoldable pub rows_of : Func → List Row
rows_of f = gather (λ b. b.rows) f.blocks

-- The row at which a block begins, or would begin.
unfoldable pub first_row : Func → ℕ → ℕ
first_row f b = sum (map (λ b. length b.rows) (take b f.blocks))

-- "a row as a place is 2,048 times the function's number plus the row"
abbrev pub row_place : ℕ → ℕ → ℕ
row_place i r = 2048 * i + r

abbrev pub is_phi : Row → Bool
is_phi nop = false
is_phi (load op t n) = false
is_phi (unary op t s) = false
is_phi (binary op t l r) = false
is_phi (phi t es) = true
is_phi (jump b) = false
is_phi (branch s x y) = false
is_phi (return s) = false
is_phi leave = false
is_phi (unknown op) = false

-- "Terminators: `jump` ..; `jump.cond` ..; `return` ..; `leave`"
abbrev pub is_terminator : Row → Bool
is_terminator nop = false
is_terminator (load op t n) = false
is_terminator (unary op t s) = false
is_terminator (binary op t l r) = false
is_terminator (phi t es) = false
is_terminator (jump b) = true
is_terminator (branch s x y) = true
is_terminator (return s) = true
is_terminator leave = true
is_terminator (unknown op) = false

-- The register a row assigns, if it has a target.
abbrev pub targets_of : Row → List ℕ
targets_of nop = []
targets_of (load op t n) = t ∷ []
targets_of (unary op t s) = t ∷ []
targets_of (binary op t l r) = t ∷ []
targets_of (phi t es) = t ∷ []
targets_of (jump b) = []
targets_of (branch s x y) = []
targets_of (return s) = []
targets_of leave = []
targets_of (unknown op) = []

-- The registers a row reads where it stands: its sources.
abbrev pub sources_of : Row → List ℕ
sources_of nop = []
sources_of (load op t n) = []
sources_of (unary op t s) = s ∷ []
sources_of (binary op t l r) = l ∷ r ∷ []
sources_of (phi t es) = []
sources_of (jump b) = []
sources_of (branch s x y) = s ∷ []
sources_of (return s) = s ∷ []
sources_of leave = []
sources_of (unknown op) = []

-- The registers in a phi's list.
abbrev pub entries_of : Row → List ℕ
entries_of nop = []
entries_of (load op t n) = []
entries_of (unary op t s) = []
entries_of (binary op t l r) = []
entries_of (phi t es) = es
entries_of (jump b) = []
entries_of (branch s x y) = []
entries_of (return s) = []
entries_of leave = []
entries_of (unknown op) = []

-- The blocks a row names.
abbrev pub named_by : Row → List ℕ
named_by nop = []
named_by (load op t n) = []
named_by (unary op t s) = []
named_by (binary op t l r) = []
named_by (phi t es) = []
named_by (jump b) = b ∷ []
named_by (branch s x y) = x ∷ y ∷ []
named_by (return s) = []
named_by leave = []
named_by (unknown op) = []

-- A row's instruction number.
abbrev pub op_of : Row → ℕ
op_of nop = nop_op
op_of (load op t n) = op
op_of (unary op t s) = op
op_of (binary op t l r) = op
op_of (phi t es) = phi_op
op_of (jump b) = jump_op
op_of (branch s x y) = jump_cond_op
op_of (return s) = return_op
op_of leave = leave_op
op_of (unknown op) = op

-- The form a row is written in.
abbrev pub form_in : Row → Form
form_in nop = Form.nop
form_in (load op t n) = Form.load
form_in (unary op t s) = Form.unary
form_in (binary op t l r) = Form.binary
form_in (phi t es) = Form.phi
form_in (jump b) = Form.jump
form_in (branch s x y) = Form.branch
form_in (return s) = Form.return
form_in leave = Form.leave
form_in (unknown op) = Form.unknown

-- How many entries the phi of a function have together.
unfoldable pub entry_count : Func → ℕ
entry_count f = sum (map (λ r. length (entries_of r)) (rows_of f))

-- A block with phi.
abbrev pub has_phi : Func → ℕ → Bool
has_phi f b = any is_phi (rows_at f b)
