-- What the grammar makes of a token fits a table: types and instructions are numbers of theirs, names those of the token.
-- Assumes nothing.
use mathlib.Core.Path.{◌≡◌, refl}
use mathlib.Core.Bool.{Bool, true, false, cond, not, ◌&&◌}
use mathlib.Core.List.{List, []}
use Prim.Native.Nat.{ℕ, zero, suc, ◌<◌}
use native.Mathlib.Omega.{arith}
use lib.Dec.{T, eqb, leb, ltb, ltb→lt, lit<, lit≤}
use lib.Ieee.Fits.{and_r}
use Rattle.laws.proofs.Tests.{of_true}
use Rattle.language.specs.Instructions.{Operand, form_of, has_target, source_count, operand_of}
use Rattle.language.specs.Bytes.{left_paren, right_paren, left_brace, right_brace, comma, semicolon, equals}
use Rattle.language.specs.Words.{is_type, type_of, is_instruction, instruction_of, first_type, first_instruction, word_count, function_word, ssa_word, void_word, register_word, block_word, entry_word}
use Rattle.language.specs.Tokens.{Token}
use Rattle.language.specs.Grammar.{Bracketed, Stage, Act, Move, to, wrong_move, on_word, on_name, on_number, on_block, on_mark_or, on_mark, on_end_or, is_word_or, is_word, a_type, a_result, after_sources, after_source, after_mention, sources, after_word, in_operand, word_with_target, word_alone, an_instruction, next_move}
use Rattle.theorems.specs.TableLaw.{NameFits}

abbrev pub TokenFits : Token → Type 0
TokenFits (Token.name n) = NameFits n
TokenFits (Token.word w) = Unit {0}
TokenFits (Token.number s v) = Unit {0}
TokenFits (Token.mark b) = Unit {0}
TokenFits Token.end = Unit {0}

-- The type that a stage holds.
abbrev type_in : Stage → ℕ
type_in Stage.top = 0
type_in Stage.header = 0
type_in Stage.result = 0
type_in Stage.function_name = 0
type_in Stage.parameters = 0
type_in Stage.first_parameter = 0
type_in Stage.parameter = 0
type_in Stage.parameter_end = 0
type_in (Stage.parameter_name t) = t
type_in Stage.body = 0
type_in Stage.declarations = 0
type_in Stage.register_type = 0
type_in Stage.register_end = 0
type_in (Stage.register_name t) = t
type_in Stage.blocks = 0
type_in Stage.block_name = 0
type_in Stage.block_body = 0
type_in Stage.first_instruction = 0
type_in Stage.next_instruction = 0
type_in Stage.assignment = 0
type_in Stage.instruction = 0
type_in (Stage.source k o) = 0
type_in (Stage.source_comma k o) = 0
type_in (Stage.operand o) = 0
type_in Stage.number = 0
type_in Stage.entry = 0
type_in Stage.entry_end = 0
type_in (Stage.mention k) = 0
type_in (Stage.mention_comma k) = 0
type_in Stage.operand_end = 0
type_in Stage.instruction_end = 0

abbrev pub StageFits : Stage → Type 0
StageFits s = type_in s < 256

-- The numbers and names that an act puts down as they are.
abbrev pub ActFits : Act → Type 0
ActFits Act.wrong = Unit {0}
ActFits Act.pass = Unit {0}
ActFits Act.begin_function = Unit {0}
ActFits Act.mark_ssa = Unit {0}
ActFits Act.begin_register = Unit {0}
ActFits Act.begin_block = Unit {0}
ActFits (Act.set_result t) = t < 256
ActFits (Act.name_function n) = NameFits n
ActFits (Act.name_block n) = NameFits n
ActFits (Act.name_parameter t n) = (t < 256) × NameFits n
ActFits (Act.name_register t n) = (t < 256) × NameFits n
ActFits (Act.begin_instruction op) = op < 256
ActFits (Act.set_instruction op) = op < 256
ActFits (Act.set_target n) = Unit {0}
ActFits (Act.add_source n) = Unit {0}
ActFits (Act.add_entry n) = Unit {0}
ActFits (Act.add_mention n) = Unit {0}
ActFits (Act.set_number s v) = Unit {0}
ActFits Act.end_instruction = Unit {0}
ActFits Act.end_block = Unit {0}
ActFits Act.end_function = Unit {0}

pub record MoveFits (m : Move) : Type 0 where
  pub stage : StageFits m.stage
  pub act : ActFits m.act

ok : {s : Stage} {a : Act} → StageFits s → ActFits a → MoveFits (to s a)
ok h f = record { stage = h; act = f }

small : 0 < 256
small = lit< tt

no_move : MoveFits wrong_move
no_move = ok small tt

-- ---- what a definition by tokens makes of each token fits, if each of its cases does

when : (b : Bool) {m m' : Move} → MoveFits m → MoveFits m' → MoveFits (cond b m m')
when true x y = x
when false x y = y

on_name_law : {k : List ℕ → Move} → ((n : List ℕ) → NameFits n → MoveFits (k n)) → (t : Token) → TokenFits t → MoveFits (on_name k t)
on_name_law f (Token.name n) h = f n h
on_name_law f (Token.word w) h = no_move
on_name_law f (Token.number s v) h = no_move
on_name_law f (Token.mark b) h = no_move
on_name_law f Token.end h = no_move

on_word_law : {k : ℕ → Move} → ((w : ℕ) → MoveFits (k w)) → (t : Token) → TokenFits t → MoveFits (on_word k t)
on_word_law f (Token.name n) h = no_move
on_word_law f (Token.word w) h = f w
on_word_law f (Token.number s v) h = no_move
on_word_law f (Token.mark b) h = no_move
on_word_law f Token.end h = no_move

on_number_law : {k : Bool → ℕ → Move} → ((s : Bool) (v : ℕ) → MoveFits (k s v)) → (t : Token) → TokenFits t → MoveFits (on_number k t)
on_number_law f (Token.name n) h = no_move
on_number_law f (Token.word w) h = no_move
on_number_law f (Token.number s v) h = f s v
on_number_law f (Token.mark b) h = no_move
on_number_law f Token.end h = no_move

no_name : NameFits []
no_name = record { short = lit≤ tt; bytes = tt }

on_block_law : {k : List ℕ → Move} → ((n : List ℕ) → NameFits n → MoveFits (k n)) → (t : Token) → TokenFits t → MoveFits (on_block k t)
on_block_law f (Token.name n) h = f n h
on_block_law f (Token.word w) h = when (eqb w entry_word) (f [] no_name) no_move
on_block_law f (Token.number s v) h = no_move
on_block_law f (Token.mark b) h = no_move
on_block_law f Token.end h = no_move

on_mark_or_law : (c : ℕ) {m : Move} {k : Token → Move} → MoveFits m → ((t : Token) → TokenFits t → MoveFits (k t)) → (t : Token) → TokenFits t → MoveFits (on_mark_or c m k t)
on_mark_or_law c x f (Token.name n) h = f (Token.name n) h
on_mark_or_law c x f (Token.word w) h = f (Token.word w) h
on_mark_or_law c x f (Token.number s v) h = f (Token.number s v) h
on_mark_or_law c x f (Token.mark b) h = when (eqb b c) x (f (Token.mark b) h)
on_mark_or_law c x f Token.end h = f Token.end h

on_mark_law : (c : ℕ) {m : Move} → MoveFits m → (t : Token) → TokenFits t → MoveFits (on_mark c m t)
on_mark_law c x = on_mark_or_law c x (λ t h. no_move)

on_end_or_law : {m : Move} {k : Token → Move} → MoveFits m → ((t : Token) → TokenFits t → MoveFits (k t)) → (t : Token) → TokenFits t → MoveFits (on_end_or m k t)
on_end_or_law x f (Token.name n) h = f (Token.name n) h
on_end_or_law x f (Token.word w) h = f (Token.word w) h
on_end_or_law x f (Token.number s v) h = f (Token.number s v) h
on_end_or_law x f (Token.mark b) h = f (Token.mark b) h
on_end_or_law x f Token.end h = x

is_word_or_law : (v : ℕ) {m : Move} {k : ℕ → Move} → MoveFits m → ((w : ℕ) → MoveFits (k w)) → (w : ℕ) → MoveFits (is_word_or v m k w)
is_word_or_law v x f w = when (eqb w v) x (f w)

is_word_law : (v : ℕ) {m : Move} → MoveFits m → (w : ℕ) → MoveFits (is_word v m w)
is_word_law v x = is_word_or_law v x (λ w. no_move)

a_type_law : (k : ℕ → Move) → ((t : ℕ) → t < 256 → MoveFits (k t)) → (w : ℕ) → MoveFits (a_type k w)
a_type_law k f w = by (is_type w) refl
  where
    by : (b : Bool) → is_type w ≡ b → MoveFits (cond b (k (type_of w)) wrong_move)
    by true e = f (type_of w) (omega (arith, ltb→lt w first_instruction (and_r (leb first_type w) (ltb w first_instruction) (of_true (is_type w) e))))
    by false e = no_move

-- ---- what comes next holds no type

after_sources_law : (o : Operand) → StageFits (after_sources o)
after_sources_law Operand.none = small
after_sources_law Operand.number = small
after_sources_law Operand.registers = small
after_sources_law Operand.block = small
after_sources_law Operand.blocks = small

after_source_law : (k : ℕ) (o : Operand) → StageFits (after_source k o)
after_source_law zero o = after_sources_law o
after_source_law (suc k) o = small

first_source : (k : ℕ) (o : Operand) → StageFits (sources k o)
first_source zero o = after_sources_law o
first_source (suc k) o = small

after_mention_law : (k : ℕ) → StageFits (after_mention k)
after_mention_law zero = small
after_mention_law (suc k) = small

in_operand_law : (o : Bracketed) → StageFits (in_operand o)
in_operand_law Bracketed.number = small
in_operand_law Bracketed.registers = small
in_operand_law Bracketed.block = small
in_operand_law Bracketed.blocks = small

after_word_law : (op : ℕ) → StageFits (after_word op)
unfolding after_word
after_word_law op = first_source (source_count (form_of op)) (operand_of (form_of op))

instruction_small : (w : ℕ) (b c : Bool) → is_instruction w ≡ b → T (b && c) → instruction_of w < 256
instruction_small w true c e h =
    omega (arith, ltb→lt w word_count (and_r (leb first_instruction w) (ltb w word_count) (of_true (is_instruction w) e)))
instruction_small w false c e h = absurd h

an_instruction_word : (w : ℕ) (c : Bool) (a : Act) → (instruction_of w < 256 → ActFits a) → MoveFits (cond (is_instruction w && c) (to (after_word (instruction_of w)) a) wrong_move)
an_instruction_word w c a f = by (is_instruction w && c) refl
  where
    by : (b : Bool) → (is_instruction w && c) ≡ b → MoveFits (cond b (to (after_word (instruction_of w)) a) wrong_move)
    by true e = ok (after_word_law (instruction_of w)) (f (instruction_small w (is_instruction w) c refl (of_true (is_instruction w && c) e)))
    by false e = no_move

word_with_target_law : (w : ℕ) → MoveFits (word_with_target w)
unfolding word_with_target
word_with_target_law w = an_instruction_word w (has_target (form_of (instruction_of w))) (Act.set_instruction (instruction_of w)) (λ h. h)

word_alone_law : (w : ℕ) → MoveFits (word_alone w)
unfolding word_alone
word_alone_law w = an_instruction_word w (not (has_target (form_of (instruction_of w)))) (Act.begin_instruction (instruction_of w)) (λ h. h)

an_instruction_law : (t : Token) → TokenFits t → MoveFits (an_instruction t)
an_instruction_law (Token.name n) h = ok small tt
an_instruction_law (Token.word w) h = word_alone_law w
an_instruction_law (Token.number s v) h = no_move
an_instruction_law (Token.mark b) h = no_move
an_instruction_law Token.end h = no_move

a_result_law : (w : ℕ) → MoveFits (a_result w)
a_result_law = is_word_or_law void_word (ok small (lit< tt)) (a_type_law (λ t. to Stage.function_name (Act.set_result t)) (λ t h. ok small h))

-- Every move of the grammar fits.
pub moves_fit : (s : Stage) → StageFits s → (t : Token) → TokenFits t → MoveFits (next_move s t)
unfolding next_move
moves_fit Stage.top b = on_end_or_law (ok small tt) (on_word_law (is_word_law function_word (ok small tt)))
moves_fit Stage.header b = on_word_law (is_word_or_law ssa_word (ok small tt) a_result_law)
moves_fit Stage.result b = on_word_law a_result_law
moves_fit Stage.function_name b = on_name_law (λ n h. ok small h)
moves_fit Stage.parameters b = on_mark_law left_paren (ok small tt)
moves_fit Stage.first_parameter b = on_mark_or_law right_paren (ok small tt) (on_word_law (a_type_law (λ t. to (Stage.parameter_name t) Act.begin_register) (λ t h. ok h tt)))
moves_fit Stage.parameter b = on_word_law (a_type_law (λ t. to (Stage.parameter_name t) Act.begin_register) (λ t h. ok h tt))
moves_fit (Stage.parameter_name t) b = on_name_law (λ n h. ok small (b, h))
moves_fit Stage.parameter_end b = on_mark_or_law comma (ok small tt) (on_mark_law right_paren (ok small tt))
moves_fit Stage.body b = on_mark_law left_brace (ok small tt)
moves_fit Stage.declarations b = on_mark_or_law right_brace (ok small tt) (on_word_law (is_word_or_law register_word (ok small tt) (is_word_law block_word (ok small tt))))
moves_fit Stage.register_type b = on_word_law (a_type_law (λ t. to (Stage.register_name t) Act.pass) (λ t h. ok h tt))
moves_fit (Stage.register_name t) b = on_name_law (λ n h. ok small (b, h))
moves_fit Stage.register_end b = on_mark_law semicolon (ok small tt)
moves_fit Stage.blocks b = on_mark_or_law right_brace (ok small tt) (on_word_law (is_word_law block_word (ok small tt)))
moves_fit Stage.block_name b = on_block_law (λ n h. ok small h)
moves_fit Stage.block_body b = on_mark_law left_brace (ok small tt)
moves_fit Stage.first_instruction b = an_instruction_law
moves_fit Stage.next_instruction b = on_mark_or_law right_brace (ok small tt) an_instruction_law
moves_fit Stage.assignment b = on_mark_law equals (ok small tt)
moves_fit Stage.instruction b = on_word_law word_with_target_law
moves_fit (Stage.source k o) b = on_name_law (λ n h. ok (after_source_law k o) tt)
moves_fit (Stage.source_comma k o) b = on_mark_law comma (ok small tt)
moves_fit (Stage.operand o) b = on_mark_law left_paren (ok (in_operand_law o) tt)
moves_fit Stage.number b = on_number_law (λ s v. ok small tt)
moves_fit Stage.entry b = on_name_law (λ n h. ok small tt)
moves_fit Stage.entry_end b = on_mark_or_law comma (ok small tt) (on_mark_law right_paren (ok small tt))
moves_fit (Stage.mention k) b = on_block_law (λ n h. ok (after_mention_law k) tt)
moves_fit (Stage.mention_comma k) b = on_mark_law comma (ok small tt)
moves_fit Stage.operand_end b = on_mark_law right_paren (ok small tt)
moves_fit Stage.instruction_end b = on_mark_law semicolon (ok small tt)
