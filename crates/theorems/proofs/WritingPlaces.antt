-- What an act comes to does not depend on the places of the blocks mentioned, but for the place of a refusal.
-- Assumes nothing.
use mathlib.Core.Bool.{Bool, true, false, cond}
use mathlib.Core.List.{List, [], ◌∷◌, ◌++◌, map, map-append}
use mathlib.Core.Path.{◌≡◌, refl, sym, ◌∙◌, ap}
use Prim.Native.Nat.{ℕ, zero, suc, ◌+◌}
use native.Mathlib.Omega.{arith}
use lib.Dec.{eqb, ltb}
use lib.ListN.{length, get_or, length-map, get_or-map}
use Rattle.laws.specs.Lists.{gather, keep, same}
use Rattle.language.specs.Instructions.{Form, form_of, load_type}
use Rattle.language.specs.Programs.{max_functions, max_registers, max_blocks, max_rows, max_entries}
use Rattle.language.specs.Tokens.{TextPlace}
use Rattle.language.specs.Grammar.{Act}
use Rattle.language.specs.Reading.{Mention, OpenRow, OpenBlock, Head, Parts, Draft, ActOutcome, refuse, proceed, parts_of, draft_of, no_mention, rows_in, entries_in, mentions_in, open_rows, draft_rows, phi_entries, function_number, register_number, block_number, number_in_range, row_as, row_of, resolve_row, resolve_block, resolve, undeclared, if_resolved, begin_function, mark_ssa, set_result, name_function, begin_register, name_register, begin_block, name_block, end_block, begin_instruction, set_target, set_instruction, add_source, add_entry, add_mention, set_number, end_instruction, end_function, perform_act}
use Rattle.language.proofs.Rooms.{entry_total}

-- ---- a draft without the places of its mentions

abbrev pub nowhere : TextPlace
nowhere = no_mention.place

abbrev pub bare_mention : Mention → Mention
bare_mention m = record { name = m.name; place = nowhere }

abbrev pub bare_row : OpenRow → OpenRow
bare_row (OpenRow.row r) = OpenRow.row r
bare_row (OpenRow.jump m) = OpenRow.jump (bare_mention m)
bare_row (OpenRow.branch s m n) = OpenRow.branch s (bare_mention m) (bare_mention n)

abbrev pub bare_block : OpenBlock → OpenBlock
bare_block b = record { name = b.name; rows = map bare_row b.rows }

abbrev pub bare_parts : Parts → Parts
bare_parts x = parts_of x.op x.target x.sources x.number x.entries (map bare_mention x.mentions)

abbrev pub bare : Draft → Draft
bare d = draft_of d.functions d.function (map bare_block d.blocks) (bare_block d.block) (bare_parts d.parts)

-- ---- what does not depend on places

entries_bare : (r : OpenRow) → entries_in (bare_row r) ≡ entries_in r
entries_bare (OpenRow.row r) = refl
entries_bare (OpenRow.jump m) = refl
entries_bare (OpenRow.branch s m n) = refl

total_bare : (rs : List OpenRow) → entry_total (map bare_row rs) ≡ entry_total rs
total_bare [] = refl
total_bare (r ∷ rs) = rw (entries_bare r, total_bare rs)

rows_bare : (bs : List OpenBlock) → rows_in (map bare_block bs) ≡ map bare_row (rows_in bs)
rows_bare [] = refl
rows_bare (b ∷ bs) = ap (λ (rs : List OpenRow). map bare_row b.rows ++ rs) (rows_bare bs) ∙ sym (map-append bare_row b.rows (rows_in bs))

open_bare : (d : Draft) → open_rows (bare d) ≡ map bare_row (open_rows d)
unfolding open_rows
open_bare d =
    ap (λ (rs : List OpenRow). rs ++ map bare_row d.block.rows) (rows_bare d.blocks)
    ∙ sym (map-append bare_row (rows_in d.blocks) d.block.rows)

count_bare : (d : Draft) → draft_rows (bare d) ≡ draft_rows d
unfolding draft_rows
count_bare d = ap length (open_bare d) ∙ length-map (open_rows d) bare_row

phi_bare : (d : Draft) → phi_entries (bare d) ≡ phi_entries d
unfolding phi_entries
phi_bare d = ap (λ (n : ℕ). n + length d.parts.entries) (ap entry_total (open_bare d) ∙ total_bare (open_rows d))

number_bare : (bs : List OpenBlock) (n : List ℕ) → block_number (map bare_block bs) n ≡ block_number bs n
unfolding block_number
number_bare [] n = refl
number_bare (b ∷ bs) n = ap (λ (k : ℕ). cond (same b.name n) zero (suc k)) (number_bare bs n)

-- the row that an instruction makes
row_as_bare : (g : Form) (x : Parts) → row_as g (bare_parts x) ≡ bare_row (row_as g x)
row_as_bare Form.nop x = refl
row_as_bare Form.load x = refl
row_as_bare Form.unary x = refl
row_as_bare Form.binary x = refl
row_as_bare Form.phi x = refl
row_as_bare Form.jump x = ap OpenRow.jump (get_or-map bare_mention x.mentions 0 no_mention)
row_as_bare Form.branch x =
    let one = get_or-map bare_mention x.mentions 0 no_mention in
    let two = get_or-map bare_mention x.mentions 1 no_mention in
    λ i. OpenRow.branch (get_or x.sources 0 0) (one i) (two i)
row_as_bare Form.return x = refl
row_as_bare Form.leave x = refl
row_as_bare Form.unknown x = refl

row_bare : (x : Parts) → row_of (bare_parts x) ≡ bare_row (row_of x)
unfolding row_of
row_bare x = row_as_bare (form_of x.op) x

-- ---- the closing brace

module _ (bs : List OpenBlock) where
  resolve_row_bare : (r : OpenRow) → resolve_row (map bare_block bs) (bare_row r) ≡ resolve_row bs r
  resolve_row_bare (OpenRow.row r) = refl
  resolve_row_bare (OpenRow.jump m) = rw (number_bare bs m.name)
  resolve_row_bare (OpenRow.branch s m n) = rw (number_bare bs m.name, number_bare bs n.name)

  resolve_rows_bare : (rs : List OpenRow) → map (resolve_row (map bare_block bs)) (map bare_row rs) ≡ map (resolve_row bs) rs
  resolve_rows_bare [] = refl
  resolve_rows_bare (r ∷ rs) = λ i. resolve_row_bare r i ∷ resolve_rows_bare rs i

  resolve_blocks_bare : (ks : List OpenBlock) → map (resolve_block (map bare_block bs)) (map bare_block ks) ≡ map (resolve_block bs) ks
  resolve_blocks_bare [] = refl
  resolve_blocks_bare (k ∷ ks) = λ i. record { name = k.name; rows = resolve_rows_bare k.rows i } ∷ resolve_blocks_bare ks i

  resolve_bare : (f : Head) → resolve f (map bare_block bs) ≡ resolve f bs
  unfolding resolve
  resolve_bare f =
      λ i.
      record {
        name = f.name;
        ssa = f.ssa;
        result = f.result;
        params = f.params;
        registers = f.registers;
        blocks = resolve_blocks_bare bs i;
        entry = number_bare bs [] i;
        placed = true;
      }

mentions_row_bare : (r : OpenRow) → mentions_in (bare_row r) ≡ map bare_mention (mentions_in r)
mentions_row_bare (OpenRow.row r) = refl
mentions_row_bare (OpenRow.jump m) = refl
mentions_row_bare (OpenRow.branch s m n) = refl

mentions_bare : (rs : List OpenRow) → gather mentions_in (map bare_row rs) ≡ map bare_mention (gather mentions_in rs)
mentions_bare [] = refl
mentions_bare (r ∷ rs) = rw (mentions_row_bare r, mentions_bare rs) (sym (map-append bare_mention (mentions_in r) (gather mentions_in rs)))

keep_bare : (t : List ℕ → Bool) (ms : List Mention) → keep (λ m. t m.name) (map bare_mention ms) ≡ map bare_mention (keep (λ m. t m.name) ms)
keep_bare t [] = refl
keep_bare t (m ∷ ms) = by (t m.name) (keep_bare t ms)
  where
    by :
        (b : Bool)
        → keep (λ m. t m.name) (map bare_mention ms) ≡ map bare_mention (keep (λ m. t m.name) ms)
        → cond b (bare_mention m ∷ keep (λ m. t m.name) (map bare_mention ms)) (keep (λ m. t m.name) (map bare_mention ms))
        ≡ map bare_mention (cond b (m ∷ keep (λ m. t m.name) ms) (keep (λ m. t m.name) ms))
    by true e = ap (λ (l : List Mention). bare_mention m ∷ l) e
    by false e = e

undeclared_bare : (bs : List OpenBlock) → undeclared (map bare_block bs) ≡ map bare_mention (undeclared bs)
unfolding undeclared
undeclared_bare bs =
    let ms = gather mentions_in (rows_in bs) in
    let test : (n : List ℕ) → eqb (block_number (map bare_block bs) n) (length (map bare_block bs)) ≡ eqb (block_number bs n) (length bs) =
    λ n. rw (number_bare bs n, length-map bs bare_block) in
    let all : gather mentions_in (rows_in (map bare_block bs)) ≡ map bare_mention ms = ap (gather mentions_in) (rows_bare bs) ∙ mentions_bare (rows_in bs) in
    ap (keep (λ m. eqb (block_number (map bare_block bs) m.name) (length (map bare_block bs)))) all
    ∙ (λ i. keep (λ m. test m.name i) (map bare_mention ms))
    ∙ keep_bare (λ n. eqb (block_number bs n) (length bs)) ms

-- ---- every act

-- An outcome without places, and without the place of a refusal.
abbrev pub bare_outcome : ActOutcome → ActOutcome
bare_outcome (refuse n p) = refuse n nowhere
bare_outcome (proceed d) = proceed (bare d)

abbrev pub unplaced : ActOutcome → ActOutcome
unplaced (refuse n p) = refuse n nowhere
unplaced (proceed d) = proceed d

abbrev Same : ActOutcome → ActOutcome → Type 0
Same o u = bare_outcome o ≡ unplaced u

when : (b : Bool) (x y u v : ActOutcome) → Same x u → Same y v → Same (cond b x y) (cond b u v)
when true x y u v h k = h
when false x y u v h k = k

on_resolved : (ms : List Mention) (x u : ActOutcome) → Same x u → Same (if_resolved ms x) (if_resolved (map bare_mention ms) u)
on_resolved [] x u h = h
on_resolved (m ∷ ms) x u h = refl

module _ (p : TextPlace) (d : Draft) where
  abbrev registers : ℕ
  registers = length d.function.registers

  abbrev register : List ℕ → ℕ
  register n = register_number d.function.registers n

  same_begin_block : Same (begin_block p d) (begin_block nowhere (bare d))
  unfolding begin_block
  same_begin_block = rw (length-map d.blocks bare_block) (when (ltb (length d.blocks) max_blocks) _ _ _ _ refl refl)

  same_name_block : (n : List ℕ) → Same (name_block n p d) (name_block n nowhere (bare d))
  unfolding name_block
  same_name_block n =
      rw (length-map d.blocks bare_block, number_bare d.blocks n) (when (ltb (block_number d.blocks n) (length d.blocks)) _ _ _ _ refl refl)

  same_end_block : Same (end_block d) (end_block (bare d))
  unfolding end_block
  same_end_block =
      ap (λ (bs : List OpenBlock). proceed (draft_of d.functions d.function bs (record { name = []; rows = [] }) (bare_parts d.parts)))
      (map-append bare_block d.blocks (d.block ∷ []))

  same_begin_instruction : (op : ℕ) → Same (begin_instruction op p d) (begin_instruction op nowhere (bare d))
  unfolding begin_instruction
  same_begin_instruction op = rw (count_bare d) (when (ltb (draft_rows d) max_rows) _ _ _ _ refl refl)

  same_set_target : (n : List ℕ) → Same (set_target n p d) (set_target n nowhere (bare d))
  unfolding set_target
  same_set_target n = rw (count_bare d) (when (ltb (draft_rows d) max_rows) _ _ _ _ (when (ltb (register n) registers) _ _ _ _ refl refl) refl)

  same_add_entry : (n : List ℕ) → Same (add_entry n p d) (add_entry n nowhere (bare d))
  unfolding add_entry
  same_add_entry n = rw (phi_bare d) (when (ltb (phi_entries d) max_entries) _ _ _ _ (when (ltb (register n) registers) _ _ _ _ refl refl) refl)

  same_add_mention : (n : List ℕ) → Same (add_mention n p d) (add_mention n nowhere (bare d))
  unfolding add_mention
  same_add_mention n = rw (map-append bare_mention d.parts.mentions (record { name = n; place = p } ∷ []))

  same_end_instruction : Same (end_instruction d) (end_instruction (bare d))
  unfolding end_instruction
  same_end_instruction = rw (row_bare d.parts, map-append bare_row d.block.rows (row_of d.parts ∷ []))

  same_end_function : Same (end_function p d) (end_function nowhere (bare d))
  unfolding end_function
  same_end_function =
      let bs = d.blocks in
      rw (length-map bs bare_block, number_bare bs [], undeclared_bare bs, resolve_bare bs d.function)
      (when (ltb (block_number bs []) (length bs)) _ _ _ _ (on_resolved (undeclared bs) _ _ refl) refl)

pub perform_bare : (a : Act) (p : TextPlace) (d : Draft) → Same (perform_act a p d) (perform_act a nowhere (bare d))
unfolding perform_act begin_function mark_ssa set_result name_function begin_register name_register set_instruction add_source set_number
perform_bare Act.wrong p d = refl
perform_bare Act.pass p d = refl
perform_bare Act.begin_function p d = when (ltb (length d.functions) max_functions) _ _ _ _ refl refl
perform_bare Act.mark_ssa p d = refl
perform_bare Act.begin_register p d = when (ltb (registers p d) max_registers) _ _ _ _ refl refl
perform_bare Act.begin_block p d = same_begin_block p d
perform_bare (Act.set_result t) p d = refl
perform_bare (Act.name_function n) p d = when (ltb (function_number d.functions n) (length d.functions)) _ _ _ _ refl refl
perform_bare (Act.name_block n) p d = same_name_block p d n
perform_bare (Act.name_parameter t n) p d = when (ltb (register p d n) (registers p d)) _ _ _ _ refl refl
perform_bare (Act.name_register t n) p d = when (ltb (register p d n) (registers p d)) _ _ _ _ refl refl
perform_bare (Act.begin_instruction op) p d = same_begin_instruction p d op
perform_bare (Act.set_instruction op) p d = refl
perform_bare (Act.set_target n) p d = same_set_target p d n
perform_bare (Act.add_source n) p d = when (ltb (register p d n) (registers p d)) _ _ _ _ refl refl
perform_bare (Act.add_entry n) p d = same_add_entry p d n
perform_bare (Act.add_mention n) p d = same_add_mention p d n
perform_bare (Act.set_number s v) p d = when (number_in_range (load_type d.parts.op) s v) _ _ _ _ refl refl
perform_bare Act.end_instruction p d = same_end_instruction p d
perform_bare Act.end_block p d = same_end_block p d
perform_bare Act.end_function p d = same_end_function p d

-- an act that proceeds on the bare draft proceeds on the draft
pub record Proceeds (o : ActOutcome) (d : Draft) : Type 0 where
  pub draft : Draft
  pub outcome : o ≡ proceed draft
  pub bares : bare draft ≡ d

pub proceeds_bare : (o : ActOutcome) (d : Draft) → bare_outcome o ≡ proceed d → Proceeds o d
proceeds_bare (refuse n p) d e = absurd (let z : ◌≡◌ {A = ℕ} 0 1 = cc in omega arith)
proceeds_bare (proceed c) d e = record { draft = c; outcome = refl; bares = cc }
