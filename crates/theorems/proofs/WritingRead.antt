-- The text of a program whose registers and blocks all have names is read as that program. Assumes nothing.
use mathlib.Core.Bool.{Bool, true, false, cond}
use mathlib.Core.List.{List, [], ◌∷◌, ◌++◌, map, foldl, append_assoc, append-nil}
use mathlib.Core.Path.{◌≡◌, refl, sym, ◌∙◌, ap, subst}
use Prim.Native.Nat.{ℕ, ◌+◌, ◌≤◌, ◌<◌}
use native.Mathlib.Omega.{arith}
use lib.Dec.{T, eqb, lit<}
use lib.IntN.{ℤ, pos, negsuc}
use lib.ListN.{length, take as take_n, drop, length-append, take-append-drop}
use lib.Seq.{length-take-le}
use borrow.Author.Tests.{eqb-false}
use Rattle.laws.specs.Lists.{gather}
use Rattle.laws.proofs.Every.{Every, none as every_nil, more as every_cons, every_append, every_left, every_right, every_map, every_imp, every_both, every_gather, every_at}
use Rattle.laws.proofs.Appending.{gather_append}
use Rattle.language.specs.Bytes.{Class, class_of, left_paren, right_paren, left_brace, right_brace, comma, semicolon, equals}
use Rattle.language.specs.Instructions.{void, load_type}
use Rattle.language.specs.Arithmetic.{meaning}
use Rattle.language.specs.Names.{spellable}
use Rattle.language.specs.Programs.{Row, Register, Block, Func, Program, no_register, no_block, block_at, is_ssa, targets_of, named_by, max_text, max_functions, max_registers}
use Rattle.language.specs.Checking.{spellable_or_none}
use Rattle.language.specs.Tokens.{Token, tokens_of}
use Rattle.language.specs.Grammar.{Stage, next_move}
use Rattle.language.specs.Reading.{Draft, Reading, perform_act, take_token, parse₀, finish, read}
use Rattle.language.proofs.ReadingLaws.{read_by_tokens}
use Rattle.language.specs.Writing.{parted, in_parens, register_token, block_token, type_token, result_token, meant_token, number_token, target_part, operand_part, ssa_part, parameter_part, register_line, row_line, block_lines, head_line, function_lines, lines_of, tokens, text_of, closing}
use Rattle.theorems.specs.RoundTrip.{FindsTokens}
use Rattle.theorems.proofs.WritingTokens.{Spellable, lexes}
use Rattle.theorems.proofs.WritingStates.{State, At, Takes, nothing, after, passes}
use Rattle.theorems.proofs.WritingDeclared.{New, Apart}
use Rattle.theorems.proofs.WritingHeads.{name_of, function_name, between, headed, titled, list_read, registers_read}
use Rattle.theorems.proofs.WritingRows.{RowReady}
use Rattle.theorems.proofs.WritingBlocks.{BlockReady, Rooms, block_rows, all_blocks, drafted_blocks, at_block}
use Rattle.theorems.proofs.WritingResolved.{Closing, closed}

-- What is known of a function that the check accepts, once all its names are filled in.
pub record FunctionReady (f : Func) : Type 0 where
  pub name : T (spellable f.name)
  pub placed : f.placed ≡ true
  pub ssa : f.ssa < 2
  pub result : f.result ≤ void
  pub params : f.params ≤ length f.registers
  pub register_count : length f.registers ≤ max_registers
  pub types : Every (λ r. r.type < 10) f.registers
  pub register_names : Every (λ r. T (spellable r.name)) f.registers
  pub registers : Apart name_of [] f.registers
  pub block_names : Every (λ b. T (spellable_or_none b.name)) f.blocks
  pub blocks : Every (BlockReady f) f.blocks
  pub rooms : Rooms [] f.blocks
  pub entry : f.entry < length f.blocks
  pub unnamed : (block_at f f.entry).name ≡ []
  pub named : Every (λ b. b < length f.blocks) (gather named_by (block_rows f.blocks))

-- ---- reading

module _ {A : Type 0} (name : A → List ℕ) where
  apart_left : (before xs ys : List A) → Apart name before (xs ++ ys) → Apart name before xs
  apart_left before [] ys h = tt
  apart_left before (x ∷ xs) ys h = (h.0, apart_left (before ++ (x ∷ [])) xs ys h.1)

  apart_right : (before xs ys : List A) → Apart name before (xs ++ ys) → Apart name (before ++ xs) ys
  apart_right before [] ys h = rw append-nil h
  apart_right before (x ∷ xs) ys h = rw append_assoc at (apart_right (before ++ (x ∷ [])) xs ys h.1)

abbrev flat : List (List Token) → List Token
flat ls = gather (λ l. l) ls

module _ (fs : List Func) (f : Func) (k : FunctionReady f) (new : New function_name f.name fs) (room : length fs < max_functions) where
  -- The declarations, the first n of these registers being parameters.
  abbrev declaring : ℕ → List Register → State
  declaring n rs = headed fs f.name f.ssa f.result Stage.declarations n rs

  -- The blocks are read, as drafts.
  abbrev read_blocks : State
  read_blocks = at_block fs f k.registers Stage.blocks (drafted_blocks f f.blocks)

  closing_facts : Closing fs f k.registers
  closing_facts = record { placed = k.placed; names = k.rooms.names; entry = k.entry; unnamed = k.unnamed; named = k.named }

  function_read : Takes (between fs) (flat (function_lines f)) (between (fs ++ (f ∷ [])))
  unfolding function_lines head_line
  function_read =
      let ps = take_n f.params f.registers in
      let rest = drop f.params f.registers in
      let body = gather (block_lines f) f.blocks in
      let joined : ps ++ rest ≡ f.registers = take-append-drop f.params f.registers in
      let count : length ps ≡ f.params = length-take-le f.params f.registers k.params in
      let counts : length f.registers ≡ length ps + length rest = ap length (sym joined) ∙ length-append ps rest in
      let types : Every (λ r. r.type < 10) (ps ++ rest) = rw joined k.types in
      let names : Apart name_of [] (ps ++ rest) = rw joined k.registers in
      let head : Takes (between fs) (head_line f) (declaring (length ps) ps) =
      titled fs f.name f.ssa f.result room k.ssa k.result new _ _
      (list_read fs f.name f.ssa f.result ps (omega (arith, k.register_count)) (every_left ps rest types) (apart_left name_of [] ps rest names)) in
      let registers : Takes (declaring (length ps) ps) (flat (map register_line rest)) (declaring (length ps) (ps ++ rest)) =
      registers_read fs f.name f.ssa f.result (length ps) ps rest (omega (arith, k.register_count)) (every_right ps rest types)
      (apart_right name_of [] ps rest names) in
      let declared : Takes (declaring (length ps) ps) (flat (map register_line rest)) (declaring f.params f.registers) =
      subst (λ (n : ℕ). Takes (declaring (length ps) ps) (flat (map register_line rest)) (declaring n f.registers)) count (rw joined at registers) in
      let some : 0 < length f.blocks = omega (arith, k.entry) in
      let split : flat (map register_line rest ++ (body ++ (closing ∷ []))) ≡ flat (map register_line rest) ++ (flat body ++ closing) =
      gather_append (λ l. l) (map register_line rest) (body ++ (closing ∷ []))
      ∙ ap (λ (t : List Token). flat (map register_line rest) ++ t) (gather_append (λ l. l) body (closing ∷ [])) in
      after (head_line f) _ _ _ _ head
      (rw split
      (after (flat (map register_line rest)) _ _ _ _ declared
      (after (flat body) closing _ read_blocks _
      (all_blocks fs f k.registers f.blocks some k.blocks k.rooms) (closed fs f k.registers closing_facts))))

functions_read :
    (rest fs : List Func)
    → Every FunctionReady rest
    → Apart function_name fs rest
    → length fs + length rest ≤ max_functions
    → Takes (between fs) (flat (gather function_lines rest)) (between (fs ++ rest))
functions_read [] fs h new room = rw append-nil (nothing (between fs))
functions_read (f ∷ rest) fs (every_cons k h) new room =
    let count : length (fs ++ (f ∷ [])) ≡ length fs + 1 = length-append fs (f ∷ []) in
    let later : Takes (between (fs ++ (f ∷ []))) (flat (gather function_lines rest)) (between (fs ++ (f ∷ []) ++ rest)) =
    functions_read rest (fs ++ (f ∷ [])) h new.1 (omega (arith, count)) in
    rw (gather_append (λ l. l) (function_lines f) (gather function_lines rest))
    (after (flat (function_lines f)) _ _ _ _ (function_read fs f k new.0 (omega arith)) (rw append_assoc at later))

pub record ProgramReady (p : Program) : Type 0 where
  pub functions : Every FunctionReady p
  pub names : Apart function_name [] p
  pub count : length p ≤ max_functions

-- ---- spelling

marks_classed :
    (class_of left_paren ≡ Class.mark)
    × (class_of right_paren ≡ Class.mark)
    × (class_of left_brace ≡ Class.mark)
    × (class_of right_brace ≡ Class.mark)
    × (class_of comma ≡ Class.mark)
    × (class_of semicolon ≡ Class.mark)
    × (class_of equals ≡ Class.mark)
unfolding class_of
marks_classed = (refl, refl, refl, refl, refl, refl, refl)

one : {t : Token} → Spellable t → Every Spellable (t ∷ [])
one h = every_cons h every_nil

parens : {ts : List Token} → Every Spellable ts → Every Spellable (in_parens ts)
parens h = every_cons marks_classed.0 (every_append h (one marks_classed.1))

parts : (xs : List (List Token)) → Every (Every Spellable) xs → Every Spellable (parted xs)
parts [] h = every_nil
parts (x ∷ []) (every_cons k h) = k
parts (x ∷ (y ∷ ys)) (every_cons k h) = every_append k (every_cons marks_classed.4 (parts (y ∷ ys) h))

type_spelled : (t : ℕ) → t < 10 → Spellable (type_token t)
type_spelled t h = omega arith

result_spelled : (t : ℕ) → t ≤ void → Spellable (result_token t)
result_spelled t h = by (eqb t void) refl
  where
    by : (b : Bool) → eqb t void ≡ b → Spellable (cond b (Token.word 2) (type_token t))
    by true e = lit< tt
    by false e = let z = eqb-false t void e in omega arith

ssa_spelled : (f : Func) → Every Spellable (ssa_part f)
ssa_spelled f = by (is_ssa f)
  where
    by : (b : Bool) → Every Spellable (cond b (Token.word 1 ∷ []) [])
    by true = one (lit< tt)
    by false = every_nil

block_spelled : (n : List ℕ) → T (spellable_or_none n) → Spellable (block_token n)
unfolding spellable_or_none
block_spelled [] h = lit< tt
block_spelled (b ∷ n) h = h

number_spelled : (t n : ℕ) → Spellable (number_token t n)
unfolding number_token
number_spelled t n = by (meaning t n)
  where
    by : (m : ℤ) → Spellable (meant_token m)
    by (pos m) = tt
    by (negsuc m) = tt

module _ (f : Func) (k : FunctionReady f) where
  register_spelled : (r : ℕ) → r < length f.registers → Spellable (register_token f r)
  register_spelled r h = every_at k.register_names no_register r h

  some_registers : {rs : List ℕ} → Every (λ u. u < length f.registers) rs → Every Spellable (parted (map (λ s. register_token f s ∷ []) rs))
  some_registers h = parts _ (every_map (λ s. register_token f s ∷ []) (λ r l. one (register_spelled r l)) h)

  block_at_law : (b : ℕ) → b < length f.blocks → Spellable (block_token (block_at f b).name)
  block_at_law b h = block_spelled (block_at f b).name (every_at k.block_names no_block b h)

  target_spelled : (ts : List ℕ) → Every (λ u. u < length f.registers) ts → Every Spellable (target_part f ts)
  target_spelled [] h = every_nil
  target_spelled (t ∷ ts) (every_cons l h) = every_cons (register_spelled t l) (one marks_classed.6)

  operand_spelled : (r : Row) → RowReady f r → Every (λ b. b < length f.blocks) (named_by r) → Every Spellable (operand_part f r)
  operand_spelled Row.nop h n = every_nil
  operand_spelled (Row.load op t x) h n = parens (one (number_spelled (load_type op) x))
  operand_spelled (Row.unary op t s) h n = every_nil
  operand_spelled (Row.binary op t l r) h n = every_nil
  operand_spelled (Row.phi t es) h n = parens (some_registers h.entries)
  operand_spelled (Row.jump b) h (every_cons l n) = parens (one (block_at_law b l))
  operand_spelled (Row.branch s x y) h (every_cons l (every_cons m n)) = parens (every_cons (block_at_law x l) (every_cons marks_classed.4 (one (block_at_law y m))))
  operand_spelled (Row.return s) h n = every_nil
  operand_spelled Row.leave h n = every_nil
  operand_spelled (Row.unknown op) h n = every_nil

  row_spelled : (r : Row) → RowReady f r → Every (λ b. b < length f.blocks) (named_by r) → Every Spellable (row_line f r)
  unfolding row_line
  row_spelled r h n =
      every_append (target_spelled (targets_of r) h.targets)
      (every_cons (omega (arith, h.op)) (every_append (some_registers h.sources) (every_append (operand_spelled r h n) (one marks_classed.5))))

  rows_spelled :
      (rs : List Row)
      → Every (RowReady f) rs
      → Every (λ b. b < length f.blocks) (gather named_by rs)
      → Every (Every Spellable) (map (row_line f) rs)
  rows_spelled [] h n = every_nil
  rows_spelled (r ∷ rs) (every_cons l h) n =
      every_cons (row_spelled r l (every_left (named_by r) (gather named_by rs) n)) (rows_spelled rs h (every_right (named_by r) (gather named_by rs) n))

  closing_spelled : Every Spellable closing
  closing_spelled = one marks_classed.3

  blocks_spelled :
      (bs : List Block)
      → Every (BlockReady f) bs
      → Every (λ b. T (spellable_or_none b.name)) bs
      → Every (λ b. b < length f.blocks) (gather named_by (block_rows bs))
      → Every (Every Spellable) (gather (block_lines f) bs)
  unfolding block_lines
  blocks_spelled [] h m n = every_nil
  blocks_spelled (b ∷ bs) (every_cons l h) (every_cons q m) n =
      let split : gather named_by (block_rows (b ∷ bs)) ≡ gather named_by b.rows ++ gather named_by (block_rows bs) = gather_append named_by b.rows (block_rows bs) in
      let both : Every (λ b. b < length f.blocks) (gather named_by b.rows ++ gather named_by (block_rows bs)) = rw split at n in
      every_append
      (every_cons (every_cons (lit< tt) (every_cons (block_spelled b.name q) (one marks_classed.2)))
      (every_append (rows_spelled b.rows l.rows (every_left (gather named_by b.rows) (gather named_by (block_rows bs)) both)) (every_cons closing_spelled every_nil)))
      (blocks_spelled bs h m (every_right (gather named_by b.rows) (gather named_by (block_rows bs)) both))

  function_spelled : Every (Every Spellable) (function_lines f)
  unfolding function_lines head_line
  function_spelled =
      let ps = take_n f.params f.registers in
      let rest = drop f.params f.registers in
      let facts : Every (λ r. (r.type < 10) × T (spellable r.name)) (ps ++ rest) =
      rw (take-append-drop f.params f.registers) (every_both k.types k.register_names) in
      every_cons
      (every_cons (lit< tt)
      (every_append (ssa_spelled f)
      (every_cons (result_spelled f.result k.result)
      (every_cons k.name
      (every_append
      (parens (parts _ (every_map parameter_part (λ r h. every_cons (type_spelled r.type h.0) (one h.1)) (every_left ps rest facts))))
      (one marks_classed.2))))))
      (every_append
      (every_map register_line (λ r h. every_cons (lit< tt) (every_cons (type_spelled r.type h.0) (every_cons h.1 (one marks_classed.5)))) (every_right ps rest facts))
      (every_append (blocks_spelled f.blocks k.blocks k.block_names k.named) (every_cons closing_spelled every_nil)))

program_spelled : {p : Program} → Every FunctionReady p → Every (Every Spellable) (lines_of p)
unfolding lines_of
program_spelled h = every_gather function_lines (every_imp function_spelled h)

-- ---- the round trip

pub program_found : (p : Program) → ProgramReady p → FindsTokens (tokens p ++ (Token.end ∷ [])) (tokens_of (text_of p))
unfolding tokens text_of lines_of
program_found p k = lexes (gather function_lines p) (program_spelled k.functions)

pub program_read : (p : Program) → ProgramReady p → length (text_of p) ≤ max_text → read (text_of p) ≡ Reading.program p
unfolding tokens lines_of Takes take_token next_move perform_act
program_read p k h =
    let whole : Takes (between []) (tokens p ++ (Token.end ∷ [])) (between p) =
    after (tokens p) (Token.end ∷ []) _ (between p) _ (functions_read p [] k.functions k.names (omega (arith, k.count)))
    (passes (between p) Stage.top Token.end refl) in
    let at : At (between p) (foldl take_token parse₀ (tokens_of (text_of p))) =
    whole parse₀ (record { draft = _; bares = refl; reads = refl }) (tokens_of (text_of p)) (program_found p k) in
    read_by_tokens (text_of p) h ∙ ap finish at.reads ∙ ap (λ (d : Draft). Reading.program d.functions) at.bares
