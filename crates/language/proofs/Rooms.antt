-- Room is lacking at the first token of an item alone: a draft has room for all that its stage has begun, so that 5 comes from
-- the acts that begin an item. And 3 comes from a token that is wrong.
-- Assumes nothing.
use mathlib.Core.Bool.{Bool, true, false, cond}
use mathlib.Core.List.{List, [], ◌∷◌, ◌++◌, map, foldl, append-nil, append_assoc}
use mathlib.Core.Path.{◌≡◌, refl, ap, subst, ◌∙◌}
use Prim.Native.Nat.{ℕ, ◌+◌, ◌≤◌, ◌<◌}
use native.Mathlib.Omega.{arith}
use lib.Dec.{ltb}
use lib.ListN.{length, length-append}
use borrow.Author.Tests.{ltb-true, ltb-false, le-ltb}
use Rattle.laws.specs.Lists.{sum}
use Rattle.laws.proofs.Appending.{gather_append, sum_append}
use Rattle.language.specs.Instructions.{Form, form_of, load_type}
use Rattle.language.specs.Programs.{max_functions, max_registers, max_blocks, max_rows, max_entries}
use Rattle.language.specs.Tokens.{TextPlace, Token, Found}
use Rattle.language.specs.Grammar.{Stage, Act, next_move}
use Rattle.language.specs.Reading.{Mention, OpenRow, OpenBlock, Parts, Draft, ActOutcome, Parse, rows_in, entries_in, open_rows, draft_rows, phi_entries, function_number, register_number, block_number, number_in_range, row_as, row_of, undeclared, resolve, if_room, if_resolved, begin_function, mark_ssa, set_result, name_function, begin_register, name_register, begin_block, name_block, end_block, begin_instruction, set_target, set_instruction, add_source, add_entry, add_mention, set_number, end_instruction, end_function, perform_act, after_act, take_token, parse₀}
use Rattle.language.specs.Rooms.{Begun, outside, in_function, in_register, in_block, in_row, begun_at, Room, Roomy}
use Rattle.language.specs.Refusals.{Reaches, Beyond}
use Rattle.language.proofs.Stages.{Moves, moves}
use Rattle.language.proofs.FirstRefusal.{By}

-- ---- rows and phi entries of a draft

-- How many phi entries rows have.
abbrev pub entry_total : List OpenRow → ℕ
entry_total rs = sum (map (λ r. length (entries_in r)) rs)

pub entries_append : (xs ys : List OpenRow) → entry_total (xs ++ ys) ≡ entry_total xs + entry_total ys
entries_append xs ys = sum_append (λ r. length (entries_in r)) xs ys

-- a block that is closed keeps its rows
pub rows_closed : (bs : List OpenBlock) (b : OpenBlock) → rows_in (bs ++ (b ∷ [])) ≡ rows_in bs ++ b.rows
rows_closed bs b = gather_append (λ b. b.rows) bs (b ∷ []) ∙ ap (λ r. rows_in bs ++ r) (append-nil b.rows)

entries_as : (x : Parts) (g : Form) → entry_total (row_as g x ∷ []) ≤ length x.entries
entries_as x Form.nop = omega arith
entries_as x Form.load = omega arith
entries_as x Form.unary = omega arith
entries_as x Form.binary = omega arith
entries_as x Form.phi = omega arith
entries_as x Form.jump = omega arith
entries_as x Form.branch = omega arith
entries_as x Form.return = omega arith
entries_as x Form.leave = omega arith
entries_as x Form.unknown = omega arith

-- the row that an instruction makes has the entries in hand, or none
pub row_entries_law : (x : Parts) → entry_total (row_of x ∷ []) ≤ length x.entries
unfolding row_of
row_entries_law x = entries_as x (form_of x.op)

-- ---- an act that puts down what is begun

-- What an act comes to: room for what it leaves begun, or else no 5 but at the first token of the item beyond, and no 3 but at
-- a token that is wrong.
module _ (d : Draft) (p : TextPlace) (a : Act) (y : Begun) where
  abbrev After : ActOutcome → Type 0
  After (ActOutcome.refuse n q) = (n ≡ 5 → (q ≡ p) × Beyond d a) × (n ≡ 3 → (q ≡ p) × (a ≡ Act.wrong))
  After (ActOutcome.proceed e) = Room y e

  -- A test of room at the first token of an item.
  begins : (k m : ℕ) (o : ActOutcome) → k ≤ m → (k ≡ m → Beyond d a) → (k < m → After o) → After (if_room k m p o)
  begins k m o l f h = by (ltb k m) refl
    where
      by : (b : Bool) → ltb k m ≡ b → After (cond b o (ActOutcome.refuse 5 p))
      by true e = h (ltb-true k m e)
      by false e = ((λ five. (refl, f (omega (arith, ltb-false k m e)))), (λ three. absurd (let z : 5 ≡ 3 = three in omega arith)))

  -- The other tests.
  other : (n : ℕ) (q : TextPlace) → 3 < n → (n ≡ 5 → ⊥) → After (ActOutcome.refuse n q)
  other n q l h = ((λ five. absurd (h five)), (λ three. absurd (omega arith)))

  unless : (b : Bool) (n : ℕ) (q : TextPlace) (o : ActOutcome) → 3 < n → (n ≡ 5 → ⊥) → After o → After (cond b (ActOutcome.refuse n q) o)
  unless true n q o l g h = other n q l g
  unless false n q o l g h = h

  provided : (b : Bool) (n : ℕ) (q : TextPlace) (o : ActOutcome) → 3 < n → (n ≡ 5 → ⊥) → After o → After (cond b o (ActOutcome.refuse n q))
  provided true n q o l g h = h
  provided false n q o l g h = other n q l g

  resolved : (ms : List Mention) (o : ActOutcome) → After o → After (if_resolved ms o)
  resolved [] o h = h
  resolved (m ∷ ms) o h = other 7 m.place (omega arith) (λ e. omega arith)

module _ (d : Draft) (p : TextPlace) where
  after_begin_function : Room outside d → After d p Act.begin_function in_function (begin_function p d)
  unfolding begin_function
  after_begin_function h =
      begins d p _ _ (length d.functions) max_functions _ (omega arith) Beyond.function (λ l. omega arith)

  after_name_function : (n : List ℕ) → Room in_function d → After d p (Act.name_function n) in_function (name_function n p d)
  unfolding name_function draft_rows phi_entries open_rows
  after_name_function n h =
      unless d p _ _ (ltb (function_number d.functions n) (length d.functions)) 6 p _ (omega arith) (λ e. omega arith) (omega arith)

  after_begin_register : Room in_function d → After d p Act.begin_register in_register (begin_register p d)
  unfolding begin_register
  after_begin_register h =
      begins d p _ _ (length d.function.registers) max_registers _ (omega arith) Beyond.register (λ l. omega arith)

  after_name_register : (k t : ℕ) (n : List ℕ) (a : Act) → Room in_register d → After d p a in_function (name_register k t n p d)
  unfolding name_register draft_rows phi_entries open_rows
  after_name_register k t n a h =
      let rs = d.function.registers in
      unless d p _ _ (ltb (register_number rs n) (length rs)) 6 p _ (omega arith) (λ e. omega arith)
      (omega (arith, length-append rs (record { type = t; name = n } ∷ [])))

  after_begin_block : Room in_function d → After d p Act.begin_block in_block (begin_block p d)
  unfolding begin_block
  after_begin_block h = begins d p _ _ (length d.blocks) max_blocks _ (omega arith) Beyond.block (λ l. omega arith)

  -- The block that begins has no rows.
  after_name_block : (n : List ℕ) → Room in_block d → After d p (Act.name_block n) in_block (name_block n p d)
  unfolding name_block draft_rows phi_entries open_rows
  after_name_block n h =
      let cs = rows_in d.blocks in
      let rs = d.block.rows in
      unless d p _ _ (ltb (block_number d.blocks n) (length d.blocks)) 6 p _ (omega arith) (λ e. omega arith)
      (omega (arith, length-append cs rs, length-append cs [], entries_append cs rs, entries_append cs []))

  after_end_block : Room in_block d → After d p Act.end_block in_function (end_block d)
  unfolding end_block draft_rows phi_entries open_rows
  after_end_block h =
      let bs = d.blocks in
      let now = append-nil (rows_in (bs ++ (d.block ∷ []))) ∙ rows_closed bs d.block in
      omega (arith, length-append bs (d.block ∷ []), ap length now, ap entry_total now)

  after_begin_instruction : (op : ℕ) → Room in_block d → After d p (Act.begin_instruction op) in_row (begin_instruction op p d)
  unfolding begin_instruction draft_rows phi_entries open_rows
  after_begin_instruction op h = begins d p _ _ (draft_rows d) max_rows _ (omega arith) (Beyond.instruction op) (λ e. omega arith)

  after_set_target : (n : List ℕ) → Room in_block d → After d p (Act.set_target n) in_row (set_target n p d)
  unfolding set_target draft_rows phi_entries open_rows
  after_set_target n h =
      let rs = d.function.registers in
      begins d p _ _ (draft_rows d) max_rows _ (omega arith) (Beyond.target n)
      (λ e. provided d p _ _ (ltb (register_number rs n) (length rs)) 7 p _ (omega arith) (λ e. omega arith) (omega arith))

  after_set_instruction : (op : ℕ) → Room in_row d → After d p (Act.set_instruction op) in_row (set_instruction op d)
  unfolding set_instruction draft_rows phi_entries open_rows
  after_set_instruction op h = omega arith

  after_add_source : (n : List ℕ) → Room in_row d → After d p (Act.add_source n) in_row (add_source n p d)
  unfolding add_source draft_rows phi_entries open_rows
  after_add_source n h =
      let rs = d.function.registers in
      provided d p _ _ (ltb (register_number rs n) (length rs)) 7 p _ (omega arith) (λ e. omega arith) (omega arith)

  after_add_entry : (n : List ℕ) → Room in_row d → After d p (Act.add_entry n) in_row (add_entry n p d)
  unfolding add_entry draft_rows phi_entries open_rows
  after_add_entry n h =
      let rs = d.function.registers in
      let r = register_number rs n in
      begins d p _ _ (phi_entries d) max_entries _ (omega arith) (Beyond.entry n)
      (λ l. provided d p _ _ (ltb r (length rs)) 7 p _ (omega arith) (λ e. omega arith)
      (omega (arith, length-append d.parts.entries (r ∷ []))))

  after_add_mention : (n : List ℕ) → Room in_row d → After d p (Act.add_mention n) in_row (add_mention n p d)
  unfolding add_mention draft_rows phi_entries open_rows
  after_add_mention n h = omega arith

  after_set_number : (s : Bool) (v : ℕ) → Room in_row d → After d p (Act.set_number s v) in_row (set_number s v p d)
  unfolding set_number draft_rows phi_entries open_rows
  after_set_number s v h = provided d p _ _ (number_in_range (load_type d.parts.op) s v) 4 p _ (omega arith) (λ e. omega arith) (omega arith)

  after_end_instruction : Room in_row d → After d p Act.end_instruction in_block (end_instruction d)
  unfolding end_instruction draft_rows phi_entries open_rows
  after_end_instruction h =
      let row = row_of d.parts in
      let now = append_assoc (rows_in d.blocks) d.block.rows (row ∷ []) in
      omega (arith, ap length now, ap entry_total now, length-append (open_rows d) (row ∷ []), entries_append (open_rows d) (row ∷ []), row_entries_law d.parts)

  after_end_function : Room in_function d → After d p Act.end_function outside (end_function p d)
  unfolding end_function draft_rows phi_entries open_rows
  after_end_function h =
      let bs = d.blocks in
      provided d p _ _ (ltb (block_number bs []) (length bs)) 8 p _ (omega arith) (λ e. omega arith)
      (resolved d p _ _ (undeclared bs) _
      (omega (arith, length-append d.functions (resolve d.function bs ∷ []))))

-- Every act of the grammar.
after_perform : {a : Act} {x y : Begun} → Moves a x y → (d : Draft) (p : TextPlace) → Room x d → After d p a y (perform_act a p d)
unfolding perform_act mark_ssa set_result draft_rows phi_entries open_rows
after_perform Moves.wrong d p h = ((λ five. absurd (let z : 3 ≡ 5 = five in omega arith)), (λ three. (refl, refl)))
after_perform Moves.pass d p h = h
after_perform Moves.begin_function d p h = after_begin_function d p h
after_perform Moves.mark_ssa d p h = omega arith
after_perform Moves.set_result d p h = omega arith
after_perform (Moves.name_function {n}) d p h = after_name_function d p n h
after_perform Moves.begin_register d p h = after_begin_register d p h
after_perform (Moves.name_parameter {t} {n}) d p h = after_name_register d p 1 t n _ h
after_perform (Moves.name_register {t} {n}) d p h = after_name_register d p 0 t n _ h
after_perform Moves.begin_block d p h = after_begin_block d p h
after_perform (Moves.name_block {n}) d p h = after_name_block d p n h
after_perform (Moves.begin_instruction {op}) d p h = after_begin_instruction d p op h
after_perform (Moves.set_target {n}) d p h = after_set_target d p n h
after_perform (Moves.set_instruction {op}) d p h = after_set_instruction d p op h
after_perform (Moves.add_source {n}) d p h = after_add_source d p n h
after_perform (Moves.add_entry {n}) d p h = after_add_entry d p n h
after_perform (Moves.add_mention {n}) d p h = after_add_mention d p n h
after_perform (Moves.set_number {s} {v}) d p h = after_set_number d p s v h
after_perform Moves.end_instruction d p h = after_end_instruction d p h
after_perform Moves.end_block d p h = after_end_block d p h
after_perform Moves.end_function d p h = after_end_function d p h

-- ---- every parse

after_onward : (d : Draft) (p : TextPlace) (a : Act) (s : Stage) (o : ActOutcome) → After d p a (begun_at s) o → Roomy (after_act s o)
after_onward d p a s (ActOutcome.refuse n q) h = tt
after_onward d p a s (ActOutcome.proceed e) h = h

pub roomy₀ : Roomy parse₀
unfolding draft_rows phi_entries open_rows
roomy₀ = omega arith

pub roomy_taken : (x : Parse) (f : Found) → Roomy x → Roomy (take_token x f)
unfolding take_token
roomy_taken (Parse.refused n p) f h = tt
roomy_taken (Parse.reading s d) (Found.token p t) h = after_onward d p (next_move s t).act (next_move s t).stage (perform_act (next_move s t).act p d) (after_perform (moves s t).moves d p h)
roomy_taken (Parse.reading s d) (Found.stray p) h = tt

pub roomy_all : (x : Parse) → Roomy x → (found : List Found) → Roomy (foldl take_token x found)
roomy_all x h [] = h
roomy_all x h (f ∷ fs) = roomy_all (take_token x f) (roomy_taken x f h) fs

pub room_reached : {text : List ℕ} {p : TextPlace} {s : Stage} {d : Draft} {t : Token} → Reaches text p s d t → Room (begun_at s) d
room_reached r = subst Roomy r.stands (roomy_all parse₀ roomy₀ r.before)

-- ---- refusals

-- An item beyond is refused at its first token.
pub beyond_refused : {d : Draft} {a : Act} → Beyond d a → (p : TextPlace) → perform_act a p d ≡ ActOutcome.refuse 5 p
unfolding perform_act begin_function begin_register begin_block begin_instruction set_target add_entry
beyond_refused {d} (Beyond.function e) p = rw (le-ltb (length d.functions) max_functions (omega arith))
beyond_refused {d} (Beyond.register e) p = rw (le-ltb (length d.function.registers) max_registers (omega arith))
beyond_refused {d} (Beyond.block e) p = rw (le-ltb (length d.blocks) max_blocks (omega arith))
beyond_refused {d} (Beyond.instruction op e) p = rw (le-ltb (draft_rows d) max_rows (omega arith))
beyond_refused {d} (Beyond.target n e) p = rw (le-ltb (draft_rows d) max_rows (omega arith))
beyond_refused {d} (Beyond.entry n e) p = rw (le-ltb (phi_entries d) max_entries (omega arith))

-- A 5 that an act gives is placed at its token, the first of the item beyond; a 3 likewise, and the token is wrong.
module _ (d : Draft) (q : TextPlace) (a : Act) (y : Begun) where
  given_beyond : (o : ActOutcome) → After d q a y o → (p : TextPlace) → o ≡ ActOutcome.refuse 5 p → (p ≡ q) × Beyond d a
  given_beyond (ActOutcome.refuse n r) h p e =
      let five : n ≡ 5 = cc in
      let same : p ≡ r = cc in
      (same ∙ (h.0 five).0, (h.0 five).1)
  given_beyond (ActOutcome.proceed e) h p k = absurd (let z : ◌≡◌ {A = ℕ} 0 1 = cc in omega arith)

  given_wrong : (o : ActOutcome) → After d q a y o → (p : TextPlace) → o ≡ ActOutcome.refuse 3 p → (p ≡ q) × (a ≡ Act.wrong)
  given_wrong (ActOutcome.refuse n r) h p e =
      let three : n ≡ 3 = cc in
      let same : p ≡ r = cc in
      (same ∙ (h.1 three).0, (h.1 three).1)
  given_wrong (ActOutcome.proceed e) h p k = absurd (let z : ◌≡◌ {A = ℕ} 0 1 = cc in omega arith)

module _ {text : List ℕ} {n : ℕ} {p : TextPlace} (b : By text n p) where
  after_by : After b.draft b.place (next_move b.stage b.token).act (begun_at (next_move b.stage b.token).stage) (perform_act (next_move b.stage b.token).act b.place b.draft)
  after_by = after_perform (moves b.stage b.token).moves b.draft b.place (room_reached b.reached)

pub refused_beyond : {text : List ℕ} {p : TextPlace} (b : By text 5 p) → (p ≡ b.place) × Beyond b.draft (next_move b.stage b.token).act
refused_beyond {p} b = given_beyond _ _ _ _ _ (after_by b) p b.refuses

pub refused_wrong : {text : List ℕ} {p : TextPlace} (b : By text 3 p) → (p ≡ b.place) × ((next_move b.stage b.token).act ≡ Act.wrong)
refused_wrong {p} b = given_wrong _ _ _ _ _ (after_by b) p b.refuses
