-- What a stage and a token make of an act: it comes only where its law finds in hand what it asks for. Assumes nothing.
use mathlib.Core.Path.{◌≡◌, refl}
use mathlib.Core.Bool.{Bool, true, false, cond, not, ◌&&◌}
use mathlib.Core.List.{List, []}
use mathlib.Core.Option.{some}
use Prim.Native.Nat.{ℕ, zero, suc}
use lib.Dec.{T, eqb, ltb}
use Rattle.language.specs.Instructions.{Operand, form_of, operand_of, has_target, source_count}
use Rattle.language.specs.Bytes.{left_paren, right_paren, left_brace, right_brace, comma, semicolon, equals}
use Rattle.language.specs.Words.{is_type, type_of, function_word, ssa_word, void_word, register_word, block_word, entry_word, is_instruction, instruction_of}
use Rattle.language.specs.Tokens.{Token}
use Rattle.language.specs.Grammar.{Bracketed, Stage, Act, Move, next_move, to, wrong_move, on_name, on_word, on_number, on_block, on_mark_or, on_mark, on_end_or, is_word_or, is_word, a_type, a_result, a_block, a_parameter, an_instruction, word_alone, word_with_target, after_word, sources, after_sources, after_source, after_mention, in_operand}
use Rattle.grammar.specs.Ready.{is_top, type_in}
use Rattle.reader.specs.Parse.{depth}

-- Every act but these three wants a function in hand.
abbrev pub in_function : Act → Bool
in_function Act.wrong = false
in_function Act.pass = false
in_function Act.begin_function = false
in_function Act.mark_ssa = true
in_function Act.begin_register = true
in_function Act.begin_block = true
in_function (Act.set_result t) = true
in_function (Act.name_function n) = true
in_function (Act.name_block n) = true
in_function (Act.name_parameter t n) = true
in_function (Act.name_register t n) = true
in_function (Act.begin_instruction op) = true
in_function (Act.set_instruction op) = true
in_function (Act.set_target n) = true
in_function (Act.add_source n) = true
in_function (Act.add_entry n) = true
in_function (Act.add_mention n) = true
in_function (Act.set_number neg v) = true
in_function Act.end_instruction = true
in_function Act.end_block = true
in_function Act.end_function = true

-- The type that an act gives a register is the stage's.
abbrev pub Typed : Stage → Act → Type 0
Typed s Act.wrong = Unit {0}
Typed s Act.pass = Unit {0}
Typed s Act.begin_function = Unit {0}
Typed s Act.mark_ssa = Unit {0}
Typed s Act.begin_register = Unit {0}
Typed s Act.begin_block = Unit {0}
Typed s (Act.set_result t) = Unit {0}
Typed s (Act.name_function n) = Unit {0}
Typed s (Act.name_block n) = Unit {0}
Typed s (Act.name_parameter t n) = type_in s ≡ some t
Typed s (Act.name_register t n) = type_in s ≡ some t
Typed s (Act.begin_instruction op) = Unit {0}
Typed s (Act.set_instruction op) = Unit {0}
Typed s (Act.set_target n) = Unit {0}
Typed s (Act.add_source n) = Unit {0}
Typed s (Act.add_entry n) = Unit {0}
Typed s (Act.add_mention n) = Unit {0}
Typed s (Act.set_number neg v) = Unit {0}
Typed s Act.end_instruction = Unit {0}
Typed s Act.end_block = Unit {0}
Typed s Act.end_function = Unit {0}

-- An instruction ends at one stage alone, and a number stands at one alone.
abbrev pub OnlyAt : Stage → Act → Type 0
OnlyAt s Act.wrong = Unit {0}
OnlyAt s Act.pass = Unit {0}
OnlyAt s Act.begin_function = Unit {0}
OnlyAt s Act.mark_ssa = Unit {0}
OnlyAt s Act.begin_register = Unit {0}
OnlyAt s Act.begin_block = Unit {0}
OnlyAt s (Act.set_result t) = Unit {0}
OnlyAt s (Act.name_function n) = Unit {0}
OnlyAt s (Act.name_block n) = Unit {0}
OnlyAt s (Act.name_parameter t n) = Unit {0}
OnlyAt s (Act.name_register t n) = Unit {0}
OnlyAt s (Act.begin_instruction op) = Unit {0}
OnlyAt s (Act.set_instruction op) = Unit {0}
OnlyAt s (Act.set_target n) = Unit {0}
OnlyAt s (Act.add_source n) = Unit {0}
OnlyAt s (Act.add_entry n) = Unit {0}
OnlyAt s (Act.add_mention n) = Unit {0}
OnlyAt s (Act.set_number neg v) = s ≡ Stage.number
OnlyAt s Act.end_instruction = s ≡ Stage.instruction_end
OnlyAt s Act.end_block = Unit {0}
OnlyAt s Act.end_function = Unit {0}

-- How much may be in hand at the stage of an act: see `depth`.
abbrev pub up_to : Act → ℕ → Bool
up_to Act.wrong k = true
up_to Act.pass k = true
up_to Act.begin_function k = true
up_to Act.mark_ssa k = true
up_to Act.begin_register k = true
up_to Act.begin_block k = true
up_to (Act.set_result t) k = true
up_to (Act.name_function n) k = ltb k 1
up_to (Act.name_block n) k = ltb k 2
up_to (Act.name_parameter t n) k = true
up_to (Act.name_register t n) k = true
up_to (Act.begin_instruction op) k = ltb k 3
up_to (Act.set_instruction op) k = ltb k 3
up_to (Act.set_target n) k = ltb k 3
up_to (Act.add_source n) k = true
up_to (Act.add_entry n) k = true
up_to (Act.add_mention n) k = true
up_to (Act.set_number neg v) k = true
up_to Act.end_instruction k = true
up_to Act.end_block k = true
up_to Act.end_function k = ltb k 2

-- Whether the stage after an act is between two functions, by whether the one before is.
abbrev pub after : Act → Bool → Bool
after Act.wrong b = true
after Act.pass b = b
after Act.begin_function b = false
after Act.mark_ssa b = false
after Act.begin_register b = false
after Act.begin_block b = false
after (Act.set_result t) b = false
after (Act.name_function n) b = false
after (Act.name_block n) b = false
after (Act.name_parameter t n) b = false
after (Act.name_register t n) b = false
after (Act.begin_instruction op) b = false
after (Act.set_instruction op) b = false
after (Act.set_target n) b = false
after (Act.add_source n) b = false
after (Act.add_entry n) b = false
after (Act.add_mention n) b = false
after (Act.set_number neg v) b = false
after Act.end_instruction b = false
after Act.end_block b = false
after Act.end_function b = true

-- An act suits the stages before and after it.
abbrev Suits : Stage → Act → Stage → Type 0
Suits s a s' = T (up_to a (depth s)) × T (cond (in_function a) (not (is_top s)) true) × (is_top s' ≡ after a (is_top s))

-- A move at a stage.
pub record Fits (s : Stage) (m : Move) : Type 0 where
  pub typed : Typed s m.act
  pub only : OnlyAt s m.act
  pub hand : T (up_to m.act (depth s))
  pub inside : T (cond (in_function m.act) (not (is_top s)) true)
  pub next : is_top m.stage ≡ after m.act (is_top s)

ok : {s s' : Stage} {a : Act} → Typed s a × OnlyAt s a → Suits s a s' → Fits s (to s' a)
ok f h = record { typed = f.0; only = f.1; hand = h.0; inside = h.1; next = h.2 }

no_move : {s : Stage} → Fits s wrong_move
no_move = record { typed = tt; only = tt; hand = tt; inside = tt; next = refl }

-- What a definition by tokens makes of each token fits, if each of its cases does.
module _ {s : Stage} where
  when : (b : Bool) {m m' : Move} → Fits s m → Fits s m' → Fits s (cond b m m')
  when true x y = x
  when false x y = y

  on_name_law : {k : List ℕ → Move} → ((n : List ℕ) → Fits s (k n)) → (t : Token) → Fits s (on_name k t)
  on_name_law f (Token.name n) = f n
  on_name_law f (Token.word w) = no_move
  on_name_law f (Token.number neg v) = no_move
  on_name_law f (Token.mark b) = no_move
  on_name_law f Token.end = no_move

  on_word_law : {k : ℕ → Move} → ((w : ℕ) → Fits s (k w)) → (t : Token) → Fits s (on_word k t)
  on_word_law f (Token.name n) = no_move
  on_word_law f (Token.word w) = f w
  on_word_law f (Token.number neg v) = no_move
  on_word_law f (Token.mark b) = no_move
  on_word_law f Token.end = no_move

  on_number_law : {k : Bool → ℕ → Move} → ((neg : Bool) (v : ℕ) → Fits s (k neg v)) → (t : Token) → Fits s (on_number k t)
  on_number_law f (Token.name n) = no_move
  on_number_law f (Token.word w) = no_move
  on_number_law f (Token.number neg v) = f neg v
  on_number_law f (Token.mark b) = no_move
  on_number_law f Token.end = no_move

  on_block_law : {k : List ℕ → Move} → ((n : List ℕ) → Fits s (k n)) → (t : Token) → Fits s (on_block k t)
  on_block_law f (Token.name n) = f n
  on_block_law f (Token.word w) = when (eqb w entry_word) (f []) no_move
  on_block_law f (Token.number neg v) = no_move
  on_block_law f (Token.mark b) = no_move
  on_block_law f Token.end = no_move

  on_mark_or_law : (c : ℕ) {m : Move} {k : Token → Move} → Fits s m → ((t : Token) → Fits s (k t)) → (t : Token) → Fits s (on_mark_or c m k t)
  on_mark_or_law c x f (Token.name n) = f (Token.name n)
  on_mark_or_law c x f (Token.word w) = f (Token.word w)
  on_mark_or_law c x f (Token.number neg v) = f (Token.number neg v)
  on_mark_or_law c x f (Token.mark b) = when (eqb b c) x (f (Token.mark b))
  on_mark_or_law c x f Token.end = f Token.end

  on_mark_law : (c : ℕ) {m : Move} → Fits s m → (t : Token) → Fits s (on_mark c m t)
  on_mark_law c x = on_mark_or_law c x (λ t. no_move)

  on_end_or_law : {m : Move} {k : Token → Move} → Fits s m → ((t : Token) → Fits s (k t)) → (t : Token) → Fits s (on_end_or m k t)
  on_end_or_law x f (Token.name n) = f (Token.name n)
  on_end_or_law x f (Token.word w) = f (Token.word w)
  on_end_or_law x f (Token.number neg v) = f (Token.number neg v)
  on_end_or_law x f (Token.mark b) = f (Token.mark b)
  on_end_or_law x f Token.end = x

  is_word_or_law : (v : ℕ) {m : Move} {k : ℕ → Move} → Fits s m → ((w : ℕ) → Fits s (k w)) → (w : ℕ)
      → Fits s (is_word_or v m k w)
  is_word_or_law v x f w = when (eqb w v) x (f w)

  is_word_law : (v : ℕ) {m : Move} → Fits s m → (w : ℕ) → Fits s (is_word v m w)
  is_word_law v x = is_word_or_law v x (λ w. no_move)

  a_type_law : (k : ℕ → Move) → ((n : ℕ) → Fits s (k n)) → (w : ℕ) → Fits s (a_type k w)
  a_type_law k f w = when (is_type w) (f (type_of w)) no_move

-- ---- what comes next is inside a function

after_sources_law : (o : Operand) → is_top (after_sources o) ≡ false
after_sources_law Operand.none = refl
after_sources_law Operand.number = refl
after_sources_law Operand.registers = refl
after_sources_law Operand.block = refl
after_sources_law Operand.blocks = refl

after_source_law : (k : ℕ) (o : Operand) → is_top (after_source k o) ≡ false
after_source_law zero o = after_sources_law o
after_source_law (suc k) o = refl

first_source : (k : ℕ) (o : Operand) → is_top (sources k o) ≡ false
first_source zero o = after_sources_law o
first_source (suc k) o = refl

after_mention_law : (k : ℕ) → is_top (after_mention k) ≡ false
after_mention_law zero = refl
after_mention_law (suc k) = refl

in_operand_law : (o : Bracketed) → is_top (in_operand o) ≡ false
in_operand_law Bracketed.number = refl
in_operand_law Bracketed.registers = refl
in_operand_law Bracketed.block = refl
in_operand_law Bracketed.blocks = refl

after_word_law : (op : ℕ) → is_top (after_word op) ≡ false
unfolding after_word
after_word_law op = first_source (source_count (form_of op)) (operand_of (form_of op))

module _ {s : Stage} (i : T (not (is_top s))) (d : T (ltb (depth s) 3)) where
  word_with_target_law : (w : ℕ) → Fits s (word_with_target w)
  unfolding word_with_target
  word_with_target_law w = when (is_instruction w && has_target (form_of (instruction_of w))) (ok (tt, tt) (d, i, after_word_law (instruction_of w))) no_move

  word_alone_law : (w : ℕ) → Fits s (word_alone w)
  unfolding word_alone
  word_alone_law w = when (is_instruction w && not (has_target (form_of (instruction_of w)))) (ok (tt, tt) (d, i, after_word_law (instruction_of w))) no_move

  an_instruction_law : (t : Token) → Fits s (an_instruction t)
  an_instruction_law (Token.name n) = ok (tt, tt) (d, i, refl)
  an_instruction_law (Token.word w) = word_alone_law w
  an_instruction_law (Token.number neg v) = no_move
  an_instruction_law (Token.mark b) = no_move
  an_instruction_law Token.end = no_move

module _ {s : Stage} (i : T (not (is_top s))) where
  a_result_law : (w : ℕ) → Fits s (a_result w)
  a_result_law = is_word_or_law void_word (ok (tt, tt) (tt, i, refl)) (a_type_law (λ n. to Stage.function_name (Act.set_result n)) (λ n. ok (tt, tt) (tt, i, refl)))

  a_parameter_law : (w : ℕ) → Fits s (a_parameter w)
  a_parameter_law = a_type_law (λ n. to (Stage.parameter_name n) Act.begin_register) (λ n. ok (tt, tt) (tt, i, refl))

  a_block_law : (w : ℕ) → Fits s (a_block w)
  a_block_law = is_word_law block_word (ok (tt, tt) (tt, i, refl))

-- every move of the grammar fits
pub fits : (s : Stage) (t : Token) → Fits s (next_move s t)
unfolding next_move
fits Stage.top = on_end_or_law (ok (tt, tt) (tt, tt, refl)) (on_word_law (is_word_law function_word (ok (tt, tt) (tt, tt, refl))))
fits Stage.header = on_word_law (is_word_or_law ssa_word (ok (tt, tt) (tt, tt, refl)) (a_result_law tt))
fits Stage.result = on_word_law (a_result_law tt)
fits Stage.function_name = on_name_law (λ n. ok (tt, tt) (tt, tt, refl))
fits Stage.parameters = on_mark_law left_paren (ok (tt, tt) (tt, tt, refl))
fits Stage.first_parameter = on_mark_or_law right_paren (ok (tt, tt) (tt, tt, refl)) (on_word_law (a_parameter_law tt))
fits Stage.parameter = on_word_law (a_parameter_law tt)
fits (Stage.parameter_name k) = on_name_law (λ n. ok (refl, tt) (tt, tt, refl))
fits Stage.parameter_end = on_mark_or_law comma (ok (tt, tt) (tt, tt, refl)) (on_mark_law right_paren (ok (tt, tt) (tt, tt, refl)))
fits Stage.body = on_mark_law left_brace (ok (tt, tt) (tt, tt, refl))
fits Stage.declarations = on_mark_or_law right_brace (ok (tt, tt) (tt, tt, refl)) (on_word_law (is_word_or_law register_word (ok (tt, tt) (tt, tt, refl)) (a_block_law tt)))
fits Stage.register_type = on_word_law (a_type_law (λ n. to (Stage.register_name n) Act.pass) (λ n. ok (tt, tt) (tt, tt, refl)))
fits (Stage.register_name k) = on_name_law (λ n. ok (refl, tt) (tt, tt, refl))
fits Stage.register_end = on_mark_law semicolon (ok (tt, tt) (tt, tt, refl))
fits Stage.blocks = on_mark_or_law right_brace (ok (tt, tt) (tt, tt, refl)) (on_word_law (a_block_law tt))
fits Stage.block_name = on_block_law (λ n. ok (tt, tt) (tt, tt, refl))
fits Stage.block_body = on_mark_law left_brace (ok (tt, tt) (tt, tt, refl))
fits Stage.first_instruction = an_instruction_law tt tt
fits Stage.next_instruction = on_mark_or_law right_brace (ok (tt, tt) (tt, tt, refl)) (an_instruction_law tt tt)
fits Stage.assignment = on_mark_law equals (ok (tt, tt) (tt, tt, refl))
fits Stage.instruction = on_word_law (word_with_target_law tt tt)
fits (Stage.source k o) = on_name_law (λ n. ok (tt, tt) (tt, tt, after_source_law k o))
fits (Stage.source_comma k o) = on_mark_law comma (ok (tt, tt) (tt, tt, refl))
fits (Stage.operand o) = on_mark_law left_paren (ok (tt, tt) (tt, tt, in_operand_law o))
fits Stage.number = on_number_law (λ neg v. ok (tt, refl) (tt, tt, refl))
fits Stage.entry = on_name_law (λ n. ok (tt, tt) (tt, tt, refl))
fits Stage.entry_end = on_mark_or_law comma (ok (tt, tt) (tt, tt, refl)) (on_mark_law right_paren (ok (tt, tt) (tt, tt, refl)))
fits (Stage.mention k) = on_block_law (λ n. ok (tt, tt) (tt, tt, after_mention_law k))
fits (Stage.mention_comma k) = on_mark_law comma (ok (tt, tt) (tt, tt, refl))
fits Stage.operand_end = on_mark_law right_paren (ok (tt, tt) (tt, tt, refl))
fits Stage.instruction_end = on_mark_law semicolon (ok (tt, refl) (tt, tt, refl))
