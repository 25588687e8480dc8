-- A program that is read fits the cells it is given, so that reading its table back gives it again.
-- Assumes nothing.
use mathlib.Core.Path.{◌≡◌, refl, sym, ap, subst, subst⁻¹, ◌∙◌}
use mathlib.Core.Bool.{Bool, true, false, cond}
use mathlib.Core.List.{List, [], ◌∷◌, ◌++◌, map, foldl, map-append, append_assoc, append-nil}
use Prim.Native.Nat.{ℕ, ◌-◌, ◌^◌, ◌≤◌, ◌<◌}
use native.Mathlib.Nat.{mod-lt, lt_of_lt_of_le}
use native.Mathlib.Omega.{arith}
use native.Mathlib.Decide.{dec_lt}
use lib.Dec.{T, ltb, lit<, lit≤}
use lib.ListN.{length, length-append, length-map}
use lib.Pow.{pow_mono, pow_pos}
use borrow.Author.Tests.{ltb-true}
use Rattle.laws.specs.Lists.{gather, same, sum}
use Rattle.laws.specs.Sections.{Bytes}
use Rattle.laws.proofs.Every.{Every, none, more, every_append, every_left, every_at, every_map, every_all}
use Rattle.laws.proofs.Positions.{position_le}
use Rattle.laws.proofs.Sections.{bytes_append, byte_at}
use Rattle.language.specs.Instructions.{Form, form_of, width, signed, load_type}
use Rattle.language.specs.Programs.{Row, Register, Func, Program, no_register, no_block, no_function, rows_of, entry_count, entries_of, max_text, max_functions, max_registers, max_blocks, max_rows, max_entries}
use Rattle.language.specs.Tokens.{TextPlace, Token, Found, token, stray, tokens_of}
use Rattle.language.specs.Grammar.{Stage, Act, next_move}
use Rattle.language.specs.Reading.{Mention, OpenRow, OpenBlock, Head, Parts, Draft, ActOutcome, Parse, Reading, rows_in, entries_in, open_rows, draft_rows, phi_entries, function_number, register_number, block_number, number_in_range, bits_of, row_as, row_of, resolve_row, resolve_block, resolve, undeclared, if_resolved, fresh, with_function, with_parts, begin_function, mark_ssa, set_result, name_function, begin_register, name_register, begin_block, name_block, end_block, begin_instruction, set_target, set_instruction, add_source, add_entry, add_mention, set_number, end_instruction, end_function, perform_act, after_act, take_token, parse₀, finish, read}
use Rattle.language.specs.Rooms.{Begun, Room, Roomy}
use Rattle.language.proofs.NameLaws.{is_spellable, names_spellable}
use Rattle.language.proofs.ReadingLaws.{read_by_tokens}
use Rattle.theorems.specs.Statements.{ReadBack}
use Rattle.language.proofs.Rooms.{entry_total, entries_append, rows_closed, roomy₀, roomy_taken}
use Rattle.language.proofs.SizeFacts.{text_too_long}
use Rattle.theorems.specs.TableLaw.{NameFits, RegisterFits, RowFits, FunctionFits, Fits}
use Rattle.theorems.proofs.Table.{table}
use Rattle.theorems.proofs.TableSound.{spellable_fits, width_most}
use Rattle.theorems.proofs.ReadMoves.{TokenFits, StageFits, ActFits, moves_fit}

-- ---- what is held while a function is open

-- A row fits, whatever blocks its function will have declared.
abbrev RowHeld : OpenRow → Type 0
RowHeld r = (bs : List OpenBlock) → length bs ≤ max_blocks → RowFits (resolve_row bs r)

record PartsFit (x : Parts) : Type 0 where
  op : x.op < 256
  target : x.target < 256
  sources : Bytes x.sources
  entries : Bytes x.entries
  number : x.number < 2 ^ 64

record HeadFits (f : Head) : Type 0 where
  name : NameFits f.name
  ssa : f.ssa < 256
  result : f.result < 256
  params : f.params ≤ length f.registers
  registers : Every RegisterFits f.registers

record DraftFits (d : Draft) : Type 0 where
  functions : Every FunctionFits d.functions
  function : HeadFits d.function
  blocks : Every (λ b. NameFits b.name) d.blocks
  block : NameFits d.block.name
  rows : Every RowHeld (rows_in d.blocks ++ d.block.rows)
  parts : PartsFit d.parts

-- The draft that an act proceeds to fits.
abbrev After : ActOutcome → Type 0
After (ActOutcome.refuse n p) = Unit {0}
After (ActOutcome.proceed d) = DraftFits d

-- ---- tests before an act

room : (b : Bool) (o : ActOutcome) (n : ℕ) (p : TextPlace) → (b ≡ true → After o) → After (cond b o (ActOutcome.refuse n p))
room true o n p h = h refl
room false o n p h = tt

new : (b : Bool) (o : ActOutcome) (n : ℕ) (p : TextPlace) → After o → After (cond b (ActOutcome.refuse n p) o)
new true o n p h = tt
new false o n p h = h

resolved : (ms : List Mention) (o : ActOutcome) → After o → After (if_resolved ms o)
resolved [] o h = h
resolved (m ∷ ms) o h = tt

no_name : NameFits []
no_name = record { short = lit≤ tt; bytes = tt }

no_parts : (op : ℕ) → op < 256 → (target : ℕ) → target < 256 → PartsFit (record { op = op; target = target; sources = []; number = 0; entries = []; mentions = [] })
no_parts op h t k = record { op = h; target = k; sources = tt; entries = tt; number = lit< tt }

one_byte : (x : ℕ) → x < 256 → Bytes (x ∷ [])
one_byte x h = (h, tt)

-- ---- the instruction in hand

-- A number in a load's range is kept in 64 bits.
bits_small : (t : ℕ) (s : Bool) (v : ℕ) → number_in_range t s v ≡ true → bits_of t s v < 2 ^ 64
unfolding number_in_range bits_of
bits_small t true v e = lt_of_lt_of_le (mod-lt (2 ^ width t - v) (pow_pos (width t))) (pow_mono (width_most t))
bits_small t false v e = by (signed t) e
  where
    by : (b : Bool) → cond b (ltb v (2 ^ (width t - 1))) (ltb v (2 ^ width t)) ≡ true → v < 2 ^ 64
    by true e =
        let w : width t - 1 ≤ 64 = omega (arith, width_most t) in
        lt_of_lt_of_le (ltb-true v (2 ^ (width t - 1)) e) (pow_mono w)
    by false e = lt_of_lt_of_le (ltb-true v (2 ^ width t) e) (pow_mono (width_most t))

block_small : (bs : List OpenBlock) (n : List ℕ) → length bs ≤ max_blocks → block_number bs n < 256
unfolding block_number
block_small bs n h = omega (arith, position_le (λ b. same b.name n) bs)

-- The row that the parts of an instruction make, by its form.
held_as : (x : Parts) → PartsFit x → (g : Form) → form_of x.op ≡ g → RowHeld (row_as g x)
unfolding form_of
held_as x k Form.nop e bs l = record { form = refl; op = lit< tt; targets = tt; sources = tt; entries = tt; blocks = tt; number = lit< tt }
held_as x k Form.load e bs l = record { form = e; op = k.op; targets = one_byte _ k.target; sources = tt; entries = tt; blocks = tt; number = k.number }
held_as x k Form.unary e bs l =
    record { form = e; op = k.op; targets = one_byte _ k.target; sources = one_byte _ (byte_at x.sources k.sources 0); entries = tt; blocks = tt; number = lit< tt }
held_as x k Form.binary e bs l =
    record {
      form = e;
      op = k.op;
      targets = one_byte _ k.target;
      sources = (byte_at x.sources k.sources 0, one_byte _ (byte_at x.sources k.sources 1));
      entries = tt;
      blocks = tt;
      number = lit< tt;
    }
held_as x k Form.phi e bs l =
    record { form = refl; op = lit< tt; targets = one_byte _ k.target; sources = tt; entries = k.entries; blocks = tt; number = lit< tt }
held_as x k Form.jump e bs l =
    record { form = refl; op = lit< tt; targets = tt; sources = tt; entries = tt; blocks = one_byte _ (block_small bs _ l); number = lit< tt }
held_as x k Form.branch e bs l =
    record {
      form = refl;
      op = lit< tt;
      targets = tt;
      sources = one_byte _ (byte_at x.sources k.sources 0);
      entries = tt;
      blocks = (block_small bs _ l, one_byte _ (block_small bs _ l));
      number = lit< tt;
    }
held_as x k Form.return e bs l =
    record { form = refl; op = lit< tt; targets = tt; sources = one_byte _ (byte_at x.sources k.sources 0); entries = tt; blocks = tt; number = lit< tt }
held_as x k Form.leave e bs l = record { form = refl; op = lit< tt; targets = tt; sources = tt; entries = tt; blocks = tt; number = lit< tt }
held_as x k Form.unknown e bs l = record { form = e; op = k.op; targets = tt; sources = tt; entries = tt; blocks = tt; number = lit< tt }

row_held : (x : Parts) → PartsFit x → RowHeld (row_of x)
unfolding row_of
row_held x k = held_as x k (form_of x.op) refl

-- ---- a function's end

-- A resolved row keeps its entries.
resolved_entries : (bs : List OpenBlock) (r : OpenRow) → length (entries_of (resolve_row bs r)) ≡ length (entries_in r)
resolved_entries bs (OpenRow.row r) = refl
resolved_entries bs (OpenRow.jump m) = refl
resolved_entries bs (OpenRow.branch s m n) = refl

all_entries : (bs : List OpenBlock) (rs : List OpenRow) → sum (map (λ r. length (entries_of r)) (map (resolve_row bs) rs)) ≡ entry_total rs
all_entries bs [] = refl
all_entries bs (r ∷ rs) = rw (resolved_entries bs r, all_entries bs rs) refl

resolved_rows : (bs ks : List OpenBlock) → gather (λ b. b.rows) (map (resolve_block bs) ks) ≡ map (resolve_row bs) (rows_in ks)
resolved_rows bs [] = refl
resolved_rows bs (k ∷ ks) = ap (λ r. map (resolve_row bs) k.rows ++ r) (resolved_rows bs ks) ∙ sym (map-append (resolve_row bs) k.rows (rows_in ks))

module _ (d : Draft) (k : DraftFits d) {y : Begun} (room : Room y d) where
  abbrev f : Head
  f = d.function

  abbrev bs : List OpenBlock
  bs = d.blocks

  its_rows : rows_of (resolve f bs) ≡ map (resolve_row bs) (rows_in bs)
  unfolding rows_of resolve
  its_rows = resolved_rows bs bs

  its_names : Every (λ b. NameFits b.name) (resolve f bs).blocks
  unfolding resolve
  its_names = every_map (resolve_block bs) (λ b h. h) k.blocks

  its_row_fits : Every RowFits (rows_of (resolve f bs))
  its_row_fits = rw its_rows (every_map (resolve_row bs) (λ r h. h bs (omega (arith, room.blocks))) (every_left (rows_in bs) d.block.rows k.rows))

  its_entries : entry_count (resolve f bs) ≤ max_entries
  unfolding entry_count phi_entries open_rows
  its_entries = rw (its_rows, all_entries bs (rows_in bs)) (omega (arith, room.entries, entries_append (rows_in bs) d.block.rows))

  its_count : length (rows_of (resolve f bs)) ≤ max_rows
  unfolding draft_rows open_rows
  its_count = rw (its_rows, length-map (rows_in bs) (resolve_row bs)) (omega (arith, room.rows, length-append (rows_in bs) d.block.rows))

  resolve_fits : FunctionFits (resolve f bs)
  unfolding resolve
  resolve_fits =
      record {
        name = k.function.name;
        ssa = k.function.ssa;
        result = k.function.result;
        params = omega (arith, k.function.params, room.registers);
        entry = block_small bs [] (omega (arith, room.blocks));
        placed = refl;
        register_count = omega (arith, room.registers);
        block_count = rw (length-map bs (resolve_block bs)) (omega (arith, room.blocks));
        row_count = its_count;
        entry_count = its_entries;
        registers = λ r l. every_at k.function.registers no_register r l;
        block_names = λ b l. every_at its_names no_block b l;
        rows = λ r l. every_at its_row_fits Row.nop r l;
      }

-- ---- acts on the function in hand

no_head : HeadFits (record { name = []; ssa = 0; result = 0; params = 0; registers = [] })
no_head = record { name = no_name; ssa = lit< tt; result = lit< tt; params = lit≤ tt; registers = none }

fresh_fits : (fs : List Func) → Every FunctionFits fs → DraftFits (fresh fs)
fresh_fits fs h = record { functions = h; function = no_head; blocks = none; block = no_name; rows = none; parts = no_parts 0 (lit< tt) 0 (lit< tt) }

module _ (d : Draft) (h : DraftFits d) {y : Begun} (there : Room y d) where
  abbrev registers : List Register
  registers = d.function.registers

  -- The draft with another head, and with other parts of an instruction.
  with_function_law : (g : Head) → HeadFits g → DraftFits (with_function d g)
  with_function_law g k = record { functions = h.functions; function = k; blocks = h.blocks; block = h.block; rows = h.rows; parts = h.parts }

  with_parts_law : (x : Parts) → PartsFit x → DraftFits (with_parts d x)
  with_parts_law x k = record { functions = h.functions; function = h.function; blocks = h.blocks; block = h.block; rows = h.rows; parts = k }

  register_small : (n : List ℕ) → ltb (register_number registers n) (length registers) ≡ true → register_number registers n < max_registers
  register_small n e = omega (arith, ltb-true (register_number registers n) (length registers) e, there.registers)

  after_mark_ssa : After (mark_ssa d)
  unfolding mark_ssa
  after_mark_ssa =
      let k = h.function in
      with_function_law _ (record { name = k.name; ssa = lit< tt; result = k.result; params = k.params; registers = k.registers })

  after_set_result : (t : ℕ) → t < 256 → After (set_result t d)
  unfolding set_result
  after_set_result t l =
      let k = h.function in
      with_function_law _ (record { name = k.name; ssa = k.ssa; result = l; params = k.params; registers = k.registers })

  after_name_function : (n : List ℕ) → NameFits n → (p : TextPlace) → After (name_function n p d)
  unfolding name_function
  after_name_function n l p =
      let k = h.function in
      new (ltb (function_number d.functions n) (length d.functions)) _ 6 p
      (with_function_law _ (record { name = l; ssa = k.ssa; result = k.result; params = k.params; registers = k.registers }))

  after_name_register : (j t : ℕ) → j ≤ 1 → t < 256 → (n : List ℕ) → NameFits n → (p : TextPlace) → After (name_register j t n p d)
  unfolding name_register
  after_name_register j t l b n m p =
      let k = h.function in
      let r : Register = record { type = t; name = n } in
      new (ltb (register_number registers n) (length registers)) _ 6 p
      (with_function_law _
      (record {
        name = k.name;
        ssa = k.ssa;
        result = k.result;
        params = omega (arith, k.params, length-append registers (r ∷ []));
        registers = every_append k.registers (more (record { type = b; name = m }) none);
      }))

  after_name_block : (n : List ℕ) → NameFits n → (p : TextPlace) → After (name_block n p d)
  unfolding name_block
  after_name_block n l p =
      let cs = rows_in d.blocks in
      new (ltb (block_number d.blocks n) (length d.blocks)) _ 6 p
      (record {
        functions = h.functions;
        function = h.function;
        blocks = h.blocks;
        block = l;
        rows = rw (append-nil cs) (every_left cs d.block.rows h.rows);
        parts = h.parts;
      })

  after_end_block : After (end_block d)
  unfolding end_block
  after_end_block =
      record {
        functions = h.functions;
        function = h.function;
        blocks = every_append h.blocks (more h.block none);
        block = no_name;
        rows = rw (append-nil (rows_in (d.blocks ++ (d.block ∷ []))), rows_closed d.blocks d.block) h.rows;
        parts = h.parts;
      }

  -- ---- acts on the instruction in hand

  after_begin_instruction : (op : ℕ) → op < 256 → (p : TextPlace) → After (begin_instruction op p d)
  unfolding begin_instruction
  after_begin_instruction op l p = room (ltb (draft_rows d) max_rows) _ 5 p (λ e. with_parts_law _ (no_parts op l 0 (lit< tt)))

  after_set_target : (n : List ℕ) (p : TextPlace) → After (set_target n p d)
  unfolding set_target
  after_set_target n p =
      let r = register_number registers n in
      room (ltb (draft_rows d) max_rows) _ 5 p
      (λ e. room (ltb r (length registers)) _ 7 p
      (λ g. with_parts_law _ (no_parts 0 (lit< tt) r (register_small n g))))

  after_set_instruction : (op : ℕ) → op < 256 → After (set_instruction op d)
  unfolding set_instruction
  after_set_instruction op l = with_parts_law _ (no_parts op l d.parts.target h.parts.target)

  after_add_source : (n : List ℕ) (p : TextPlace) → After (add_source n p d)
  unfolding add_source
  after_add_source n p =
      let r = register_number registers n in
      let x = h.parts in
      room (ltb r (length registers)) _ 7 p
      (λ g. with_parts_law _
      (record {
        op = x.op;
        target = x.target;
        sources = bytes_append d.parts.sources (r ∷ []) x.sources (one_byte r (register_small n g));
        entries = x.entries;
        number = x.number;
      }))

  after_add_entry : (n : List ℕ) (p : TextPlace) → After (add_entry n p d)
  unfolding add_entry
  after_add_entry n p =
      let r = register_number registers n in
      let x = h.parts in
      room (ltb (phi_entries d) max_entries) _ 5 p
      (λ e. room (ltb r (length registers)) _ 7 p
      (λ g. with_parts_law _
      (record {
        op = x.op;
        target = x.target;
        sources = x.sources;
        entries = bytes_append d.parts.entries (r ∷ []) x.entries (one_byte r (register_small n g));
        number = x.number;
      })))

  after_add_mention : (n : List ℕ) (p : TextPlace) → After (add_mention n p d)
  unfolding add_mention
  after_add_mention n p =
      let x = h.parts in
      with_parts_law _ (record { op = x.op; target = x.target; sources = x.sources; entries = x.entries; number = x.number })

  after_set_number : (s : Bool) (v : ℕ) (p : TextPlace) → After (set_number s v p d)
  unfolding set_number
  after_set_number s v p =
      let x = h.parts in
      let t = load_type d.parts.op in
      room (number_in_range t s v) _ 4 p
      (λ e. with_parts_law _ (record { op = x.op; target = x.target; sources = x.sources; entries = x.entries; number = bits_small t s v e }))

  after_end_instruction : After (end_instruction d)
  unfolding end_instruction
  after_end_instruction =
      let longer = append_assoc (rows_in d.blocks) d.block.rows (row_of d.parts ∷ []) in
      record {
        functions = h.functions;
        function = h.function;
        blocks = h.blocks;
        block = h.block;
        rows = subst (Every RowHeld) longer (every_append h.rows (more (row_held d.parts h.parts) none));
        parts = no_parts 0 (lit< tt) 0 (lit< tt);
      }

  after_end_function : (p : TextPlace) → After (end_function p d)
  unfolding end_function
  after_end_function p =
      let bs = d.blocks in
      room (ltb (block_number bs []) (length bs)) _ 8 p
      (λ e. resolved (undeclared bs) _ (fresh_fits _ (every_append h.functions (more (resolve_fits d h there) none))))

  -- ---- every act, every token

  after_perform : (a : Act) → ActFits a → (p : TextPlace) → After (perform_act a p d)
  unfolding perform_act begin_function begin_register begin_block
  after_perform Act.wrong k p = tt
  after_perform Act.pass k p = h
  after_perform Act.begin_function k p = room (ltb (length d.functions) max_functions) _ 5 p (λ e. h)
  after_perform Act.mark_ssa k p = after_mark_ssa
  after_perform Act.begin_register k p = room (ltb (length registers) max_registers) _ 5 p (λ e. h)
  after_perform Act.begin_block k p = room (ltb (length d.blocks) max_blocks) _ 5 p (λ e. h)
  after_perform (Act.set_result t) k p = after_set_result t k
  after_perform (Act.name_function n) k p = after_name_function n k p
  after_perform (Act.name_block n) k p = after_name_block n k p
  after_perform (Act.name_parameter t n) k p = after_name_register 1 t (lit≤ tt) k.0 n k.1 p
  after_perform (Act.name_register t n) k p = after_name_register 0 t (lit≤ tt) k.0 n k.1 p
  after_perform (Act.begin_instruction op) k p = after_begin_instruction op k p
  after_perform (Act.set_instruction op) k p = after_set_instruction op k
  after_perform (Act.set_target n) k p = after_set_target n p
  after_perform (Act.add_source n) k p = after_add_source n p
  after_perform (Act.add_entry n) k p = after_add_entry n p
  after_perform (Act.add_mention n) k p = after_add_mention n p
  after_perform (Act.set_number s v) k p = after_set_number s v p
  after_perform Act.end_instruction k p = after_end_instruction
  after_perform Act.end_block k p = after_end_block
  after_perform Act.end_function k p = after_end_function p

abbrev ParseFits : Parse → Type 0
ParseFits (Parse.refused n p) = Unit {0}
ParseFits (Parse.reading s d) = StageFits s × DraftFits d

after_onward : (s : Stage) → StageFits s → (o : ActOutcome) → After o → ParseFits (after_act s o)
after_onward s k (ActOutcome.refuse n p) h = tt
after_onward s k (ActOutcome.proceed d) h = (k, h)

-- A name that is found is spellable, so that it fits.
token_fits : (p : TextPlace) (t : Token) → T (is_spellable (token p t)) → TokenFits t
token_fits p (Token.name n) h = spellable_fits n h
token_fits p (Token.word w) h = tt
token_fits p (Token.number s v) h = tt
token_fits p (Token.mark b) h = tt
token_fits p Token.end h = tt

after_take : (x : Parse) → ParseFits x → Roomy x → (f : Found) → T (is_spellable f) → ParseFits (take_token x f)
unfolding take_token
after_take (Parse.refused n p) k r f t = tt
after_take (Parse.reading s d) k r (token p t) e =
    let m = moves_fit s k.0 t (token_fits p t e) in
    after_onward (next_move s t).stage m.stage (perform_act (next_move s t).act p d) (after_perform d k.1 r (next_move s t).act m.act p)
after_take (Parse.reading s d) k r (stray p) e = tt

after_tokens : (x : Parse) → ParseFits x → Roomy x → {fs : List Found} → Every (λ f. T (is_spellable f)) fs → ParseFits (foldl take_token x fs) × Roomy (foldl take_token x fs)
after_tokens x k r none = (k, r)
after_tokens x k r (more {x = f} e h) = after_tokens (take_token x f) (after_take x k r f e) (roomy_taken x f r) h

start_fits : ParseFits parse₀
start_fits = (lit< tt, fresh_fits [] none)

-- The program of a reading, if it has one, fits.
abbrev ReadingFits : Reading → Type 0
ReadingFits (Reading.refused n p) = Unit {0}
ReadingFits (Reading.program p) = Fits p

after_finish : (x : Parse) → ParseFits x → Roomy x → ReadingFits (finish x)
after_finish (Parse.refused n p) k r = tt
after_finish (Parse.reading s d) k r = record { function_count = omega (arith, r.functions); functions = λ i l. every_at k.1.functions no_function i l }

reading_fits : (text : List ℕ) → Bytes text → length text ≤ max_text → ReadingFits (read text)
reading_fits text b l =
    let k = after_tokens parse₀ start_fits roomy₀ (every_all is_spellable (tokens_of text) (names_spellable text b)) in
    subst⁻¹ ReadingFits (read_by_tokens text l) (after_finish (foldl take_token parse₀ (tokens_of text)) k.0 k.1)

pub read_fits : (text : List ℕ) → Bytes text → (p : Program) → read text ≡ Reading.program p → Fits p
read_fits text b p e = by (dec_lt max_text (length text))
  where
    by : Dec (max_text < length text) → Fits p
    by (yes h) = subst ReadingFits (sym (text_too_long text h) ∙ e) tt
    by (no h) = subst ReadingFits e (reading_fits text b (omega arith))

pub read_back : ReadBack
read_back text p b e = (table p (read_fits text b p e)).back
