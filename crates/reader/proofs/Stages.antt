-- At each stage an act finds in hand what its law asks for: every act of the grammar keeps it so.
-- Assumes nothing.
use mathlib.Core.Bool.{Bool, true, false, cond, ◌&&◌, not}
use mathlib.Core.Path.{◌≡◌, refl}
use mathlib.Core.List.{List, [], ◌∷◌, ◌++◌}
use Prim.Native.Nat.{ℕ, zero, suc, ◌+◌, ◌≤◌}
use native.Mathlib.Omega.{arith}
use lib.Dec.{eqb, ltb, ltb→lt, lt→ltb, lit≤}
use lib.ListN.{length}
use Rattle.language.specs.Instructions.{Operand, load_type, form_of, has_target, source_count, operand_of, void}
use Rattle.language.specs.Programs.{Func, max_functions, max_registers, max_blocks, max_rows, max_entries}
use Rattle.language.specs.Words.{function_word, ssa_word, void_word, register_word, block_word, entry_word, is_type, type_of, is_instruction, instruction_of}
use Rattle.language.specs.Bytes.{left_paren, right_paren, left_brace, right_brace, comma, semicolon, equals}
use Rattle.language.specs.Tokens.{Token}
use Rattle.language.specs.Grammar.{Bracketed, Stage, Act, Move, to, wrong_move, on_word, on_name, on_number, on_block, on_mark_or, on_mark, on_end_or, is_word, a_type, a_result, a_parameter, a_block, an_instruction, word_with_target, word_alone, after_word, after_source, after_sources, after_mention, sources, in_operand, next_move}
use Rattle.language.specs.Reading.{Draft, Mention, OpenBlock, ActOutcome, refuse, proceed, if_room, if_resolved, perform_act, fresh, parts_of, with_parts, function_number, register_number, block_number, draft_rows, phi_entries, number_in_range, bits_of, undeclared, head_of, resolve, with_function, with_block, draft_of, no_open_block, no_parts, row_of}
use Rattle.language.specs.Reading.{begin_function, mark_ssa, set_result, name_function, begin_register, name_register, begin_block, name_block, end_block, begin_instruction, set_target, set_instruction, add_source, add_entry, add_mention, set_number, end_instruction, end_function}
use Rattle.reader.specs.Parse.{depth, InHand, After}
use Rattle.drafts.specs.State.{NoParts}

-- ---- drafts after an act

abbrev named : Draft → List ℕ → Draft
named d n = let f = d.function in with_function d (head_of n f.ssa f.result f.params f.registers)

abbrev registered : Draft → (k t : ℕ) → List ℕ → Draft
registered d k t n =
    let f = d.function in
    with_function d (head_of f.name f.ssa f.result (f.params + k) (f.registers ++ (record { type = t; name = n } ∷ [])))

abbrev begun : Draft → List ℕ → Draft
begun d n = with_block d (record { name = n; rows = [] })

abbrev ended : Draft → Draft
ended d = draft_of d.functions d.function (d.blocks ++ (d.block ∷ [])) no_open_block d.parts

abbrev entered : Draft → ℕ → Draft
entered d r = let x = d.parts in with_parts d (parts_of x.op x.target x.sources x.number (x.entries ++ (r ∷ [])) x.mentions)

abbrev mentioned : Draft → List ℕ → ℕ → Draft
mentioned d n p =
    let x = d.parts in
    with_parts d (parts_of x.op x.target x.sources x.number x.entries (x.mentions ++ (record { name = n; place = p } ∷ [])))

abbrev written : Draft → Draft
written d =
    let b : OpenBlock = record { name = d.block.name; rows = d.block.rows ++ (row_of d.parts ∷ []) } in
    draft_of d.functions d.function d.blocks b no_parts

pub after : {P : Draft → Type 0} {d : Draft} → After P (proceed d) → P d
after (After.proceeds h) = h

-- ---- tests that an act makes first

module _ {P : Draft → Type 0} {o : ActOutcome} (h : After P o) where
  pub after_test : (b : Bool) (n p : ℕ) → After P (cond b o (refuse n p))
  after_test true n p = h
  after_test false n p = After.refused

  pub after_fail : (b : Bool) (n p : ℕ) → After P (cond b (refuse n p) o)
  after_fail true n p = After.refused
  after_fail false n p = h

  pub after_resolved : (ms : List Mention) → After P (if_resolved ms o)
  after_resolved [] = h
  after_resolved (m ∷ ms) = After.refused

-- ---- a token taken apart

module _ (K : Move → Type 0) (no_move : K wrong_move) where
  either : (b : Bool) {m n : Move} → K m → K n → K (cond b m n)
  either true h k = h
  either false h k = k

  on_word_law : (k : ℕ → Move) → ((w : ℕ) → K (k w)) → (t : Token) → K (on_word k t)
  on_word_law k h (Token.name n) = no_move
  on_word_law k h (Token.word w) = h w
  on_word_law k h (Token.number s v) = no_move
  on_word_law k h (Token.mark b) = no_move
  on_word_law k h Token.end = no_move

  on_name_law : (k : List ℕ → Move) → ((n : List ℕ) → K (k n)) → (t : Token) → K (on_name k t)
  on_name_law k h (Token.name n) = h n
  on_name_law k h (Token.word w) = no_move
  on_name_law k h (Token.number s v) = no_move
  on_name_law k h (Token.mark b) = no_move
  on_name_law k h Token.end = no_move

  on_number_law : (k : Bool → ℕ → Move) → ((s : Bool) (v : ℕ) → K (k s v)) → (t : Token) → K (on_number k t)
  on_number_law k h (Token.name n) = no_move
  on_number_law k h (Token.word w) = no_move
  on_number_law k h (Token.number s v) = h s v
  on_number_law k h (Token.mark b) = no_move
  on_number_law k h Token.end = no_move

  on_block_law : (k : List ℕ → Move) → ((n : List ℕ) → K (k n)) → (t : Token) → K (on_block k t)
  on_block_law k h (Token.name n) = h n
  on_block_law k h (Token.word w) = either (eqb w entry_word) (h []) no_move
  on_block_law k h (Token.number s v) = no_move
  on_block_law k h (Token.mark b) = no_move
  on_block_law k h Token.end = no_move

  on_mark_or_law : (c : ℕ) {m : Move} (k : Token → Move) → K m → ((t : Token) → K (k t)) → (t : Token) → K (on_mark_or c m k t)
  on_mark_or_law c k h l (Token.name n) = l (Token.name n)
  on_mark_or_law c k h l (Token.word w) = l (Token.word w)
  on_mark_or_law c k h l (Token.number s v) = l (Token.number s v)
  on_mark_or_law c k h l (Token.mark b) = either (eqb b c) h (l (Token.mark b))
  on_mark_or_law c k h l Token.end = l Token.end

  on_mark_law : (c : ℕ) {m : Move} → K m → (t : Token) → K (on_mark c m t)
  on_mark_law c h t = on_mark_or_law c (λ t. wrong_move) h (λ t. no_move) t

  on_end_or_law : {m : Move} (k : Token → Move) → K m → ((t : Token) → K (k t)) → (t : Token) → K (on_end_or m k t)
  on_end_or_law k h l (Token.name n) = l (Token.name n)
  on_end_or_law k h l (Token.word w) = l (Token.word w)
  on_end_or_law k h l (Token.number s v) = l (Token.number s v)
  on_end_or_law k h l (Token.mark b) = l (Token.mark b)
  on_end_or_law k h l Token.end = h

-- ---- the acts

-- fewer things need not be in hand further on
later : {k : ℕ} {d : Draft} → InHand k d → (j : ℕ) → k ≤ j → InHand j d
later {k} h j l =
    record {
      name = λ t. h.name (lt→ltb k 1 (omega (arith, ltb→lt j 1 t)));
      block = λ t. h.block (lt→ltb k 2 (omega (arith, ltb→lt j 2 t)));
      parts = λ t. h.parts (lt→ltb k 3 (omega (arith, ltb→lt j 3 t)));
    }

-- What a move comes to has in hand what its stage says.
pub record Moved (d : Draft) (p : ℕ) (m : Move) : Type 0 where
  pub holds : After (InHand (depth m.stage)) (perform_act m.act p d)

module _ (d : Draft) (p : ℕ) where
  wrong_moved : Moved d p wrong_move
  unfolding perform_act
  wrong_moved = record { holds = After.refused }

  passed : {k : ℕ} → InHand k d → (s : Stage) → k ≤ depth s → Moved d p (to s Act.pass)
  unfolding perform_act
  passed h s l = record { holds = After.proceeds (later h (depth s) l) }

  -- x is what d becomes, behind a test for room
  roomy : {P : Draft → Type 0} (x : Draft) (k m : ℕ) → P x → After P (if_room k m p (proceed x))
  roomy x k m h = after_test (After.proceeds h) (ltb k m) 5 p

  began_function : InHand 0 d → Moved d p (to Stage.header Act.begin_function)
  unfolding perform_act begin_function
  began_function h = record { holds = roomy d (length d.functions) max_functions h }

  ssa_marked : InHand 0 d → Moved d p (to Stage.result Act.mark_ssa)
  unfolding perform_act mark_ssa
  ssa_marked h = record { holds = After.proceeds (record { name = h.name; block = h.block; parts = h.parts }) }

  result_set : InHand 0 d → (t : ℕ) → Moved d p (to Stage.function_name (Act.set_result t))
  unfolding perform_act set_result
  result_set h t = record { holds = After.proceeds (record { name = h.name; block = h.block; parts = h.parts }) }

  function_named : InHand 0 d → (n : List ℕ) → Moved d p (to Stage.parameters (Act.name_function n))
  unfolding perform_act name_function
  function_named h n =
      let now : InHand 1 (named d n) = record { name = λ t. absurd t; block = h.block; parts = h.parts } in
      record { holds = after_fail (After.proceeds now) (ltb (function_number d.functions n) (length d.functions)) 6 p }

  began_register : InHand 1 d → (s : Stage) → 1 ≤ depth s → Moved d p (to s Act.begin_register)
  unfolding perform_act begin_register
  began_register h s l = record { holds = roomy d (length d.function.registers) max_registers (later h (depth s) l) }

  register_named : InHand 1 d → (k t : ℕ) (n : List ℕ) → After (InHand 1) (name_register k t n p d)
  unfolding name_register
  register_named h k t n =
      let rs = d.function.registers in
      let now : InHand 1 (registered d k t n) = record { name = λ t. absurd t; block = h.block; parts = h.parts } in
      after_fail (After.proceeds now) (ltb (register_number rs n) (length rs)) 6 p

  parameter_named : InHand 1 d → (t : ℕ) (n : List ℕ) → Moved d p (to Stage.parameter_end (Act.name_parameter t n))
  unfolding perform_act
  parameter_named h t n = record { holds = register_named h 1 t n }

  declared : InHand 1 d → (t : ℕ) (n : List ℕ) → Moved d p (to Stage.register_end (Act.name_register t n))
  unfolding perform_act
  declared h t n = record { holds = register_named h 0 t n }

  began_block : InHand 1 d → Moved d p (to Stage.block_name Act.begin_block)
  unfolding perform_act begin_block
  began_block h = record { holds = roomy d (length d.blocks) max_blocks h }

  block_named : InHand 1 d → (n : List ℕ) → Moved d p (to Stage.block_body (Act.name_block n))
  unfolding perform_act name_block
  block_named h n =
      let bs = d.blocks in
      let now : InHand 2 (begun d n) = record { name = λ t. absurd t; block = λ t. absurd t; parts = h.parts } in
      record { holds = after_fail (After.proceeds now) (ltb (block_number bs n) (length bs)) 6 p }

  block_ended : InHand 2 d → Moved d p (to Stage.blocks Act.end_block)
  unfolding perform_act end_block
  block_ended h =
      let now : InHand 1 (ended d) = record { name = λ t. absurd t; block = λ t. refl; parts = h.parts } in
      record { holds = After.proceeds now }

  function_ended : Moved d p (to Stage.top Act.end_function)
  unfolding perform_act end_function
  function_ended =
      let x : Draft = fresh (d.functions ++ (resolve d.function d.blocks ∷ [])) in
      let now : InHand 0 x = record { name = λ t. refl; block = λ t. refl; parts = λ t. (refl, refl) } in
      record { holds = after_test (after_resolved (After.proceeds now) (undeclared d.blocks)) (ltb (block_number d.blocks []) (length d.blocks)) 8 p }

  -- the instruction in hand: neither entries nor mentions are in hand
  empty_handed : (x : Draft) → NoParts x → (k : ℕ) → 2 ≤ k → InHand k x
  empty_handed x e k l =
      record {
        name = λ t. absurd (omega (arith, ltb→lt k 1 t));
        block = λ t. absurd (omega (arith, ltb→lt k 2 t));
        parts = λ t. e;
      }

  instruction_begun : (op : ℕ) (s : Stage) → 2 ≤ depth s → Moved d p (to s (Act.begin_instruction op))
  unfolding perform_act begin_instruction
  instruction_begun op s l =
      let x = with_parts d (parts_of op 0 [] 0 [] []) in
      record { holds = roomy x (draft_rows d) max_rows (empty_handed x (refl, refl) (depth s) l) }

  instruction_set : (op : ℕ) (s : Stage) → 2 ≤ depth s → Moved d p (to s (Act.set_instruction op))
  unfolding perform_act set_instruction
  instruction_set op s l =
      let x = with_parts d (parts_of op d.parts.target [] 0 [] []) in
      record { holds = After.proceeds (empty_handed x (refl, refl) (depth s) l) }

  target_set : (n : List ℕ) → Moved d p (to Stage.assignment (Act.set_target n))
  unfolding perform_act set_target
  target_set n =
      let r = register_number d.function.registers n in
      let x = with_parts d (parts_of 0 r [] 0 [] []) in
      record { holds = after_test (after_test (After.proceeds (empty_handed x (refl, refl) 2 (lit≤ tt))) (ltb r (length d.function.registers)) 7 p) (ltb (draft_rows d) max_rows) 5 p }

  source_added : InHand 2 d → (n : List ℕ) (s : Stage) → 2 ≤ depth s → Moved d p (to s (Act.add_source n))
  unfolding perform_act add_source
  source_added h n s l =
      let r = register_number d.function.registers n in
      let y = d.parts in
      let x = with_parts d (parts_of y.op y.target (y.sources ++ (r ∷ [])) y.number y.entries y.mentions) in
      record { holds = after_test (After.proceeds (empty_handed x (h.parts tt) (depth s) l)) (ltb r (length d.function.registers)) 7 p }

  entry_added : (n : List ℕ) → Moved d p (to Stage.entry_end (Act.add_entry n))
  unfolding perform_act add_entry
  entry_added n =
      let r = register_number d.function.registers n in
      let now : InHand 3 (entered d r) = record { name = λ t. absurd t; block = λ t. absurd t; parts = λ t. absurd t } in
      record { holds = after_test (after_test (After.proceeds now) (ltb r (length d.function.registers)) 7 p) (ltb (phi_entries d) max_entries) 5 p }

  anything : (x : Draft) (k : ℕ) → 3 ≤ k → InHand k x
  anything x k l =
      record {
        name = λ t. absurd (omega (arith, ltb→lt k 1 t));
        block = λ t. absurd (omega (arith, ltb→lt k 2 t));
        parts = λ t. absurd (omega (arith, ltb→lt k 3 t));
      }

  mention_added : (n : List ℕ) (s : Stage) → 3 ≤ depth s → Moved d p (to s (Act.add_mention n))
  unfolding perform_act add_mention
  mention_added n s l = record { holds = After.proceeds (anything (mentioned d n p) (depth s) l) }

  number_set : (s : Bool) (v : ℕ) → Moved d p (to Stage.operand_end (Act.set_number s v))
  unfolding perform_act set_number
  number_set s v =
      let y = d.parts in
      let t = load_type y.op in
      let x = with_parts d (parts_of y.op y.target y.sources (bits_of t s v) y.entries y.mentions) in
      record { holds = after_test (After.proceeds (anything x 3 (lit≤ tt))) (number_in_range t s v) 4 p }

  instruction_ended : Moved d p (to Stage.next_instruction Act.end_instruction)
  unfolding perform_act end_instruction
  instruction_ended = record { holds = After.proceeds (empty_handed (written d) (refl, refl) 2 (lit≤ tt)) }

-- ---- the stages

operand_next : (o : Operand) → 2 ≤ depth (after_sources o)
operand_next Operand.none = lit≤ tt
operand_next Operand.number = lit≤ tt
operand_next Operand.registers = lit≤ tt
operand_next Operand.block = lit≤ tt
operand_next Operand.blocks = lit≤ tt

sources_next : (k : ℕ) (o : Operand) → 2 ≤ depth (sources k o)
sources_next zero o = operand_next o
sources_next (suc k) o = lit≤ tt

word_next : (op : ℕ) → 2 ≤ depth (after_word op)
unfolding after_word
word_next op = sources_next (source_count (form_of op)) (operand_of (form_of op))

source_next : (k : ℕ) (o : Operand) → 2 ≤ depth (after_source k o)
source_next zero o = operand_next o
source_next (suc k) o = lit≤ tt

mention_next : (k : ℕ) → 3 ≤ depth (after_mention k)
mention_next zero = lit≤ tt
mention_next (suc k) = lit≤ tt

in_operand_law : (o : Bracketed) → 2 ≤ depth (in_operand o)
in_operand_law Bracketed.number = lit≤ tt
in_operand_law Bracketed.registers = lit≤ tt
in_operand_law Bracketed.block = lit≤ tt
in_operand_law Bracketed.blocks = lit≤ tt

module _ (d : Draft) (p : ℕ) where
  abbrev K : Move → Type 0
  K = λ m. Moved d p m

  abbrev W : K wrong_move
  W = wrong_moved d p

  a_word : (v : ℕ) {m : Move} → K m → (w : ℕ) → K (is_word v m w)
  a_word v h w = either K W (eqb w v) h W

  a_type_law : (k : ℕ → Move) → ((t : ℕ) → K (k t)) → (w : ℕ) → K (a_type k w)
  a_type_law k h w = either K W (is_type w) (h (type_of w)) W

  a_result_law : InHand 0 d → (w : ℕ) → K (a_result w)
  a_result_law h w = either K W (eqb w void_word) (result_set d p h void) (a_type_law (λ t. to Stage.function_name (Act.set_result t)) (result_set d p h) w)

  a_parameter_law : InHand 1 d → (w : ℕ) → K (a_parameter w)
  a_parameter_law h w = a_type_law (λ t. to (Stage.parameter_name t) Act.begin_register) (λ t. began_register d p h (Stage.parameter_name t) (lit≤ tt)) w

  a_block_law : InHand 1 d → (w : ℕ) → K (a_block w)
  a_block_law h w = a_word block_word (began_block d p h) w

  an_instruction_law : (t : Token) → K (an_instruction t)
  unfolding word_alone
  an_instruction_law (Token.name n) = target_set d p n
  an_instruction_law (Token.word w) =
      let op = instruction_of w in
      either K W (is_instruction w && not (has_target (form_of op))) (instruction_begun d p op (after_word op) (word_next op)) W
  an_instruction_law (Token.number s v) = W
  an_instruction_law (Token.mark b) = W
  an_instruction_law Token.end = W

  word_with_target_law : (w : ℕ) → K (word_with_target w)
  unfolding word_with_target
  word_with_target_law w =
      let op = instruction_of w in
      either K W (is_instruction w && has_target (form_of op)) (instruction_set d p op (after_word op) (word_next op)) W

  pass : {k : ℕ} → InHand k d → (s : Stage) → k ≤ depth s → K (to s Act.pass)
  pass h s l = passed d p h s l

  mark : (c : ℕ) {m : Move} → K m → (t : Token) → K (on_mark c m t)
  mark c h = on_mark_law K W c h

  word : (k : ℕ → Move) → ((w : ℕ) → K (k w)) → (t : Token) → K (on_word k t)
  word k h = on_word_law K W k h

-- at every stage a token leaves in hand what the next stage says
pub settled : (s : Stage) (d : Draft) (p : ℕ) → InHand (depth s) d → (t : Token) → Moved d p (next_move s t)
unfolding next_move
settled Stage.top d p h =
    on_end_or_law (K d p) (W d p) _ (pass d p h Stage.top (lit≤ tt)) (word d p _ (a_word d p function_word (began_function d p h)))
settled Stage.header d p h = word d p _ (λ w. either (K d p) (W d p) (eqb w ssa_word) (ssa_marked d p h) (a_result_law d p h w))
settled Stage.result d p h = word d p _ (a_result_law d p h)
settled Stage.function_name d p h = on_name_law (K d p) (W d p) _ (function_named d p h)
settled Stage.parameters d p h = mark d p left_paren (pass d p h Stage.first_parameter (lit≤ tt))
settled Stage.first_parameter d p h =
    on_mark_or_law (K d p) (W d p) right_paren _ (pass d p h Stage.body (lit≤ tt)) (word d p _ (a_parameter_law d p h))
settled Stage.parameter d p h = word d p _ (a_parameter_law d p h)
settled (Stage.parameter_name t) d p h = on_name_law (K d p) (W d p) _ (parameter_named d p h t)
settled Stage.parameter_end d p h =
    on_mark_or_law (K d p) (W d p) comma _ (pass d p h Stage.parameter (lit≤ tt)) (mark d p right_paren (pass d p h Stage.body (lit≤ tt)))
settled Stage.body d p h = mark d p left_brace (pass d p h Stage.declarations (lit≤ tt))
settled Stage.declarations d p h =
    on_mark_or_law (K d p) (W d p) right_brace _ (function_ended d p)
    (word d p _ (λ w. either (K d p) (W d p) (eqb w register_word) (began_register d p h Stage.register_type (lit≤ tt)) (a_block_law d p h w)))
settled Stage.register_type d p h = word d p _ (a_type_law d p _ (λ t. pass d p h (Stage.register_name t) (lit≤ tt)))
settled (Stage.register_name t) d p h = on_name_law (K d p) (W d p) _ (declared d p h t)
settled Stage.register_end d p h = mark d p semicolon (pass d p h Stage.declarations (lit≤ tt))
settled Stage.blocks d p h = on_mark_or_law (K d p) (W d p) right_brace _ (function_ended d p) (word d p _ (a_block_law d p h))
settled Stage.block_name d p h = on_block_law (K d p) (W d p) _ (block_named d p h)
settled Stage.block_body d p h = mark d p left_brace (pass d p h Stage.first_instruction (lit≤ tt))
settled Stage.first_instruction d p h = an_instruction_law d p
settled Stage.next_instruction d p h = on_mark_or_law (K d p) (W d p) right_brace _ (block_ended d p h) (an_instruction_law d p)
settled Stage.assignment d p h = mark d p equals (pass d p h Stage.instruction (lit≤ tt))
settled Stage.instruction d p h = word d p _ (word_with_target_law d p)
settled (Stage.source k o) d p h = on_name_law (K d p) (W d p) _ (λ n. source_added d p h n (after_source k o) (source_next k o))
settled (Stage.source_comma k o) d p h = mark d p comma (pass d p h (Stage.source k o) (lit≤ tt))
settled (Stage.operand o) d p h = mark d p left_paren (pass d p h (in_operand o) (in_operand_law o))
settled Stage.number d p h = on_number_law (K d p) (W d p) _ (number_set d p)
settled Stage.entry d p h = on_name_law (K d p) (W d p) _ (entry_added d p)
settled Stage.entry_end d p h =
    on_mark_or_law (K d p) (W d p) comma _ (pass d p h Stage.entry (lit≤ tt)) (mark d p right_paren (pass d p h Stage.instruction_end (lit≤ tt)))
settled (Stage.mention k) d p h = on_block_law (K d p) (W d p) _ (λ n. mention_added d p n (after_mention k) (mention_next k))
settled (Stage.mention_comma k) d p h = mark d p comma (pass d p h (Stage.mention k) (lit≤ tt))
settled Stage.operand_end d p h = mark d p right_paren (pass d p h Stage.instruction_end (lit≤ tt))
settled Stage.instruction_end d p h = mark d p semicolon (instruction_ended d p)

pub settled_after : (s : Stage) (d : Draft) (p : ℕ) (t : Token) → InHand (depth s) d → (d' : Draft) → perform_act (next_move s t).act p d ≡ proceed d'
    → InHand (depth (next_move s t).stage) d'
settled_after s d p t h d' e = after (rw e at (settled s d p h t).holds)

pub fresh_in_hand : (fs : List Func) → InHand 0 (fresh fs)
fresh_in_hand fs = record { name = λ t. refl; block = λ t. refl; parts = λ t. (refl, refl) }
