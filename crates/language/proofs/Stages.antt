-- What an act begins or puts down: every move of the grammar keeps count of what its stage has begun.
-- Assumes nothing.
use mathlib.Core.Bool.{Bool, true, false, cond, not, ◌&&◌}
use mathlib.Core.List.{List, []}
use mathlib.Core.Path.{◌≡◌, refl}
use Prim.Native.Nat.{ℕ, zero, suc}
use lib.Dec.{eqb}
use Rattle.language.specs.Bytes.{left_paren, right_paren, left_brace, right_brace, comma, semicolon, equals}
use Rattle.language.specs.Words.{is_type, type_of, is_instruction, instruction_of, function_word, ssa_word, void_word, register_word, block_word, entry_word}
use Rattle.language.specs.Instructions.{Operand, form_of, has_target, source_count, operand_of}
use Rattle.language.specs.Tokens.{Token}
use Rattle.language.specs.Grammar.{Bracketed, Stage, Act, Move, to, wrong_move, on_word, on_name, on_number, on_block, on_mark_or, on_mark, on_end_or, is_word_or, is_word, a_type, a_result, after_sources, after_source, after_mention, sources, after_word, in_operand, word_with_target, word_alone, an_instruction, next_move}
use Rattle.language.specs.Rooms.{Begun, outside, in_function, in_register, in_block, in_row, begun_at}

-- ---- what an act begins or puts down

pub data Moves : Act → Begun → Begun → Type 0 where
  wrong : {x y : Begun} → Moves Act.wrong x y
  pass : {x : Begun} → Moves Act.pass x x
  begin_function : Moves Act.begin_function outside in_function
  mark_ssa : {x : Begun} → Moves Act.mark_ssa x x
  set_result : {t : ℕ} {x : Begun} → Moves (Act.set_result t) x x
  name_function : {n : List ℕ} → Moves (Act.name_function n) in_function in_function
  begin_register : Moves Act.begin_register in_function in_register
  name_parameter : {t : ℕ} {n : List ℕ} → Moves (Act.name_parameter t n) in_register in_function
  name_register : {t : ℕ} {n : List ℕ} → Moves (Act.name_register t n) in_register in_function
  begin_block : Moves Act.begin_block in_function in_block
  name_block : {n : List ℕ} → Moves (Act.name_block n) in_block in_block
  begin_instruction : {op : ℕ} → Moves (Act.begin_instruction op) in_block in_row
  set_target : {n : List ℕ} → Moves (Act.set_target n) in_block in_row
  set_instruction : {op : ℕ} → Moves (Act.set_instruction op) in_row in_row
  add_source : {n : List ℕ} → Moves (Act.add_source n) in_row in_row
  add_entry : {n : List ℕ} → Moves (Act.add_entry n) in_row in_row
  add_mention : {n : List ℕ} → Moves (Act.add_mention n) in_row in_row
  set_number : {s : Bool} {v : ℕ} → Moves (Act.set_number s v) in_row in_row
  end_instruction : Moves Act.end_instruction in_row in_block
  end_block : Moves Act.end_block in_block in_function
  end_function : Moves Act.end_function in_function outside

-- ---- every move of the grammar

pub record Right (x : Begun) (m : Move) : Type 0 where
  pub moves : Moves m.act x (begun_at m.stage)

ok : {x : Begun} {s : Stage} {a : Act} → Moves a x (begun_at s) → Right x (to s a)
ok h = record { moves = h }

wrong_move_law : {x : Begun} → Right x wrong_move
wrong_move_law = ok Moves.wrong

module _ {x : Begun} where
  when : (b : Bool) {m m' : Move} → Right x m → Right x m' → Right x (cond b m m')
  when true h k = h
  when false h k = k

  on_name_law : {k : List ℕ → Move} → ((n : List ℕ) → Right x (k n)) → (t : Token) → Right x (on_name k t)
  on_name_law f (Token.name n) = f n
  on_name_law f (Token.word w) = wrong_move_law
  on_name_law f (Token.number s v) = wrong_move_law
  on_name_law f (Token.mark b) = wrong_move_law
  on_name_law f Token.end = wrong_move_law

  on_word_law : {k : ℕ → Move} → ((w : ℕ) → Right x (k w)) → (t : Token) → Right x (on_word k t)
  on_word_law f (Token.name n) = wrong_move_law
  on_word_law f (Token.word w) = f w
  on_word_law f (Token.number s v) = wrong_move_law
  on_word_law f (Token.mark b) = wrong_move_law
  on_word_law f Token.end = wrong_move_law

  on_number_law : {k : Bool → ℕ → Move} → ((s : Bool) (v : ℕ) → Right x (k s v)) → (t : Token) → Right x (on_number k t)
  on_number_law f (Token.name n) = wrong_move_law
  on_number_law f (Token.word w) = wrong_move_law
  on_number_law f (Token.number s v) = f s v
  on_number_law f (Token.mark b) = wrong_move_law
  on_number_law f Token.end = wrong_move_law

  on_block_law : {k : List ℕ → Move} → ((n : List ℕ) → Right x (k n)) → (t : Token) → Right x (on_block k t)
  on_block_law f (Token.name n) = f n
  on_block_law f (Token.word w) = when (eqb w entry_word) (f []) wrong_move_law
  on_block_law f (Token.number s v) = wrong_move_law
  on_block_law f (Token.mark b) = wrong_move_law
  on_block_law f Token.end = wrong_move_law

  on_mark_or_law : (c : ℕ) {m : Move} {k : Token → Move} → Right x m → ((t : Token) → Right x (k t)) → (t : Token) → Right x (on_mark_or c m k t)
  on_mark_or_law c h f (Token.name n) = f (Token.name n)
  on_mark_or_law c h f (Token.word w) = f (Token.word w)
  on_mark_or_law c h f (Token.number s v) = f (Token.number s v)
  on_mark_or_law c h f (Token.mark b) = when (eqb b c) h (f (Token.mark b))
  on_mark_or_law c h f Token.end = f Token.end

  on_mark_law : (c : ℕ) {m : Move} → Right x m → (t : Token) → Right x (on_mark c m t)
  on_mark_law c h = on_mark_or_law c h (λ t. wrong_move_law)

  on_end_or_law : {m : Move} {k : Token → Move} → Right x m → ((t : Token) → Right x (k t)) → (t : Token) → Right x (on_end_or m k t)
  on_end_or_law h f (Token.name n) = f (Token.name n)
  on_end_or_law h f (Token.word w) = f (Token.word w)
  on_end_or_law h f (Token.number s v) = f (Token.number s v)
  on_end_or_law h f (Token.mark b) = f (Token.mark b)
  on_end_or_law h f Token.end = h

  is_word_or_law : (v : ℕ) {m : Move} {k : ℕ → Move} → Right x m → ((w : ℕ) → Right x (k w)) → (w : ℕ) → Right x (is_word_or v m k w)
  is_word_or_law v h f w = when (eqb w v) h (f w)

  is_word_law : (v : ℕ) {m : Move} → Right x m → (w : ℕ) → Right x (is_word v m w)
  is_word_law v h = is_word_or_law v h (λ w. wrong_move_law)

  a_type_law : (k : ℕ → Move) → ((t : ℕ) → Right x (k t)) → (w : ℕ) → Right x (a_type k w)
  a_type_law k f w = when (is_type w) (f (type_of w)) wrong_move_law

a_result_law : (w : ℕ) → Right in_function (a_result w)
a_result_law = is_word_or_law void_word (ok Moves.set_result) (a_type_law (λ t. to Stage.function_name (Act.set_result t)) (λ t. ok Moves.set_result))

after_sources_law : (o : Operand) → begun_at (after_sources o) ≡ in_row
after_sources_law Operand.none = refl
after_sources_law Operand.number = refl
after_sources_law Operand.registers = refl
after_sources_law Operand.block = refl
after_sources_law Operand.blocks = refl

after_source_law : (k : ℕ) (o : Operand) → begun_at (after_source k o) ≡ in_row
after_source_law zero o = after_sources_law o
after_source_law (suc k) o = refl

first_source : (k : ℕ) (o : Operand) → begun_at (sources k o) ≡ in_row
first_source zero o = after_sources_law o
first_source (suc k) o = refl

after_word_law : (op : ℕ) → begun_at (after_word op) ≡ in_row
unfolding after_word
after_word_law op = first_source (source_count (form_of op)) (operand_of (form_of op))

in_operand_law : (o : Bracketed) → begun_at (in_operand o) ≡ in_row
in_operand_law Bracketed.number = refl
in_operand_law Bracketed.registers = refl
in_operand_law Bracketed.block = refl
in_operand_law Bracketed.blocks = refl

after_mention_law : (k : ℕ) → begun_at (after_mention k) ≡ in_row
after_mention_law zero = refl
after_mention_law (suc k) = refl

word_with_target_law : (w : ℕ) → Right in_row (word_with_target w)
unfolding word_with_target
word_with_target_law w =
    let op = instruction_of w in
    when (is_instruction w && has_target (form_of op)) (ok (rw (after_word_law op) Moves.set_instruction)) wrong_move_law

word_alone_law : (w : ℕ) → Right in_block (word_alone w)
unfolding word_alone
word_alone_law w =
    let op = instruction_of w in
    when (is_instruction w && not (has_target (form_of op))) (ok (rw (after_word_law op) Moves.begin_instruction)) wrong_move_law

an_instruction_law : (t : Token) → Right in_block (an_instruction t)
an_instruction_law (Token.name n) = ok Moves.set_target
an_instruction_law (Token.word w) = word_alone_law w
an_instruction_law (Token.number s v) = wrong_move_law
an_instruction_law (Token.mark b) = wrong_move_law
an_instruction_law Token.end = wrong_move_law

-- Every move of the grammar.
pub moves : (s : Stage) (t : Token) → Right (begun_at s) (next_move s t)
unfolding next_move
moves Stage.top = on_end_or_law (ok Moves.pass) (on_word_law (is_word_law function_word (ok Moves.begin_function)))
moves Stage.header = on_word_law (is_word_or_law ssa_word (ok Moves.mark_ssa) a_result_law)
moves Stage.result = on_word_law a_result_law
moves Stage.function_name = on_name_law (λ n. ok Moves.name_function)
moves Stage.parameters = on_mark_law left_paren (ok Moves.pass)
moves Stage.first_parameter = on_mark_or_law right_paren (ok Moves.pass) (on_word_law (a_type_law (λ t. to (Stage.parameter_name t) Act.begin_register) (λ t. ok Moves.begin_register)))
moves Stage.parameter = on_word_law (a_type_law (λ t. to (Stage.parameter_name t) Act.begin_register) (λ t. ok Moves.begin_register))
moves (Stage.parameter_name t) = on_name_law (λ n. ok Moves.name_parameter)
moves Stage.parameter_end = on_mark_or_law comma (ok Moves.pass) (on_mark_law right_paren (ok Moves.pass))
moves Stage.body = on_mark_law left_brace (ok Moves.pass)
moves Stage.declarations =
    on_mark_or_law right_brace (ok Moves.end_function)
    (on_word_law (is_word_or_law register_word (ok Moves.begin_register) (is_word_law block_word (ok Moves.begin_block))))
moves Stage.register_type = on_word_law (a_type_law (λ t. to (Stage.register_name t) Act.pass) (λ t. ok Moves.pass))
moves (Stage.register_name t) = on_name_law (λ n. ok Moves.name_register)
moves Stage.register_end = on_mark_law semicolon (ok Moves.pass)
moves Stage.blocks = on_mark_or_law right_brace (ok Moves.end_function) (on_word_law (is_word_law block_word (ok Moves.begin_block)))
moves Stage.block_name = on_block_law (λ n. ok Moves.name_block)
moves Stage.block_body = on_mark_law left_brace (ok Moves.pass)
moves Stage.first_instruction = an_instruction_law
moves Stage.next_instruction = on_mark_or_law right_brace (ok Moves.end_block) an_instruction_law
moves Stage.assignment = on_mark_law equals (ok Moves.pass)
moves Stage.instruction = on_word_law word_with_target_law
moves (Stage.source k o) = on_name_law (λ n. ok (rw (after_source_law k o) Moves.add_source))
moves (Stage.source_comma k o) = on_mark_law comma (ok Moves.pass)
moves (Stage.operand o) = on_mark_law left_paren (ok (rw (in_operand_law o) Moves.pass))
moves Stage.number = on_number_law (λ s v. ok Moves.set_number)
moves Stage.entry = on_name_law (λ n. ok Moves.add_entry)
moves Stage.entry_end = on_mark_or_law comma (ok Moves.pass) (on_mark_law right_paren (ok Moves.pass))
moves (Stage.mention k) = on_block_law (λ n. ok (rw (after_mention_law k) Moves.add_mention))
moves (Stage.mention_comma k) = on_mark_law comma (ok Moves.pass)
moves Stage.operand_end = on_mark_law right_paren (ok Moves.pass)
moves Stage.instruction_end = on_mark_law semicolon (ok Moves.end_instruction)
