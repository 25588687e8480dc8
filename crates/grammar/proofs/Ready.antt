-- Every token keeps a draft ready for what comes next: what each stage allows of an act, and what each act keeps.
-- Assumes nothing.
use mathlib.Core.Path.{◌≡◌, refl, sym, ◌∙◌, subst}
use mathlib.Core.Bool.{Bool, true, false, cond, not, ◌&&◌}
use mathlib.Core.List.{List, [], ◌∷◌, ◌++◌}
use mathlib.Core.Logic.{◌⊎◌, inl, inr}
use mathlib.Core.Option.{Option, none, some, none-ne-some, some-injective}
use Prim.Native.Nat.{ℕ, zero, suc, ◌+◌, ◌<◌}
use native.Mathlib.Nat.{zero-add}
use native.Mathlib.Omega.{arith}
use lib.Dec.{T, T_not, eqb, leb, ltb, leb→le, ltb→lt}
use lib.ListN.{length, length-append}
use lib.Ieee.Fits.{and_l, and_r}
use borrow.Author.Tests.{ltb-true}
use Rattle.laws.proofs.Tests.{of_true}
use Rattle.language.specs.Instructions.{Form, Operand, form_of, operand_of, has_target, source_count, load_type, type_count}
use Rattle.language.specs.Programs.{Func, max_functions, max_registers, max_blocks, max_rows, max_entries}
use Rattle.language.specs.Bytes.{left_paren, right_paren, left_brace, right_brace, comma, semicolon, equals}
use Rattle.language.specs.Words.{is_type, type_of, first_type, first_instruction, function_word, ssa_word, void_word, register_word, block_word, entry_word, is_instruction, instruction_of}
use Rattle.language.specs.Tokens.{TextPlace, Token, Found}
use Rattle.language.specs.Grammar.{Bracketed, Stage, Act, Move, next_move, to, wrong_move, on_name, on_word, on_number, on_block, on_mark_or, on_mark, on_end_or, is_word_or, is_word, a_type, a_result, a_parameter, a_block, an_instruction, word_alone, word_with_target, after_word, sources, after_sources, after_source, after_mention, in_operand}
use Rattle.language.specs.Reading.{Mention, OpenBlock, Head, Parts, Draft, ActOutcome, Parse, refuse, proceed, fresh, draft_of, draft_rows, phi_entries, function_number, register_number, block_number, undeclared, number_in_range, if_room, if_new, if_declared, if_resolved, after_act, perform_act, take_token, parse₀}
use Rattle.language.specs.Reading as reading
use Rattle.grammar.specs.Ready.{is_top, operand_in, blocks_in, due, type_in, StageReady, ReadyAt}

-- Inside one function, before and after.
abbrev Inside : Stage → Stage → Type 0
Inside s s' = T (not (is_top s)) × T (not (is_top s'))

-- What a stage tells of the instruction in hand: its operand, and how many blocks it is still to mention. The later stage tells
-- nothing; or nothing but what the earlier one told; or nothing but this.
abbrev Untold : Stage → Type 0
Untold s = (operand_in s ≡ none) × (due s ≡ none)

module _ {A : Type 0} where
  abbrev Kept : Option A → Option A → Type 0
  Kept x y = (y ≡ none) ⊎ (y ≡ x)

abbrev Carried : Stage → Stage → Type 0
Carried s s' = Kept (operand_in s) (operand_in s') × Kept (due s) (due s')

abbrev Tells : Stage → Operand → Type 0
Tells s o = Kept (some o) (operand_in s) × (due s ≡ some (blocks_in o))

-- What is told is so.
module _ {A : Type 0} (P : A → Type 0) where
  abbrev So : Option A → Type 0
  So x = (a : A) → x ≡ some a → P a

  untold : (x : Option A) → x ≡ none → So x
  untold x u a e = absurd (none-ne-some a (sym u ∙ e))

  told : (x : Option A) (b : A) → x ≡ some b → P b → So x
  told x b h p a e = subst P (some-injective b a (sym h ∙ e)) p

  kept : (x y : Option A) → Kept x y → So x → So y
  kept x y (inl u) f a e = untold y u a e
  kept x y (inr h) f a e = f a (sym h ∙ e)

-- The type that a stage holds is a type.
abbrev IsType : ℕ → Type 0
IsType t = t < type_count

abbrev Typed : Stage → Type 0
Typed s = So IsType (type_in s)

-- Which stages an act may lead from and to.
abbrev Allowed : Stage → Act → Stage → Type 0
Allowed s Act.wrong s' = Unit
Allowed s Act.pass s' = (is_top s' ≡ is_top s) × Carried s s'
Allowed s Act.begin_function s' = T (not (is_top s')) × Untold s'
Allowed s Act.mark_ssa s' = Inside s s' × Untold s'
Allowed s Act.begin_register s' = Inside s s' × Untold s'
Allowed s Act.begin_block s' = Inside s s' × Untold s'
Allowed s (Act.set_result t) s' = Inside s s' × Untold s'
Allowed s (Act.name_function n) s' = Inside s s' × Untold s'
Allowed s (Act.name_block n) s' = Inside s s' × Untold s'
Allowed s (Act.name_parameter t n) s' = Inside s s' × Untold s'
Allowed s (Act.name_register t n) s' = Inside s s' × Untold s'
Allowed s (Act.begin_instruction op) s' = Inside s s' × Tells s' (operand_of (form_of op))
Allowed s (Act.set_instruction op) s' = Inside s s' × Tells s' (operand_of (form_of op))
Allowed s (Act.set_target n) s' = Inside s s' × Untold s'
Allowed s (Act.add_source n) s' = Inside s s' × Carried s s'
Allowed s (Act.add_entry n) s' = Inside s s' × (operand_in s ≡ some Operand.registers) × Carried s s'
Allowed s (Act.add_mention n) s' = Inside s s' × (operand_in s' ≡ none) × So (λ (k : ℕ). due s ≡ some (suc k)) (due s')
Allowed s (Act.set_number neg v) s' = Inside s s' × Carried s s'
Allowed s Act.end_instruction s' = Inside s s' × Untold s'
Allowed s Act.end_block s' = Inside s s' × Untold s'
Allowed s Act.end_function s' = s' ≡ Stage.top

-- A move is allowed at a stage, and the type that it leads on with is one.
record Allows (s : Stage) (m : Move) : Type 0 where
  allowed : Allowed s m.act m.stage
  typed : Typed m.stage

with_type : {s s' : Stage} {a : Act} → Allowed s a s' → Typed s' → Allows s (to s' a)
with_type x y = record { allowed = x; typed = y }

ok : {s s' : Stage} {a : Act} → Allowed s a s' → type_in s' ≡ none → Allows s (to s' a)
ok {s' = s'} x e = with_type x (untold IsType (type_in s') e)

no_move : {s : Stage} → Allows s wrong_move
no_move = ok tt refl

-- What a word that is a type says is one.
type_bound : (w : ℕ) → is_type w ≡ true → IsType (type_of w)
type_bound w e =
    let h = of_true (is_type w) e in
    let low = leb→le first_type w (and_l (leb first_type w) (ltb w first_instruction) h) in
    let high = ltb→lt w first_instruction (and_r (leb first_type w) (ltb w first_instruction) h) in
    omega (arith, low, high)

-- What a definition by tokens makes of each token is allowed, if each of its cases is.
module _ {s : Stage} where
  when_so : (b : Bool) (m m' : Move) → (b ≡ true → Allows s m) → Allows s m' → Allows s (cond b m m')
  when_so true m m' f y = f refl
  when_so false m m' f y = y

  when : (b : Bool) (m m' : Move) → Allows s m → Allows s m' → Allows s (cond b m m')
  when b m m' x = when_so b m m' (λ e. x)

  on_name_law : {k : List ℕ → Move} → ((n : List ℕ) → Allows s (k n)) → (t : Token) → Allows s (on_name k t)
  on_name_law f (Token.name n) = f n
  on_name_law f (Token.word w) = no_move
  on_name_law f (Token.number neg v) = no_move
  on_name_law f (Token.mark b) = no_move
  on_name_law f Token.end = no_move

  on_word_law : {k : ℕ → Move} → ((w : ℕ) → Allows s (k w)) → (t : Token) → Allows s (on_word k t)
  on_word_law f (Token.name n) = no_move
  on_word_law f (Token.word w) = f w
  on_word_law f (Token.number neg v) = no_move
  on_word_law f (Token.mark b) = no_move
  on_word_law f Token.end = no_move

  on_number_law : {k : Bool → ℕ → Move} → ((neg : Bool) (v : ℕ) → Allows s (k neg v)) → (t : Token) → Allows s (on_number k t)
  on_number_law f (Token.name n) = no_move
  on_number_law f (Token.word w) = no_move
  on_number_law f (Token.number neg v) = f neg v
  on_number_law f (Token.mark b) = no_move
  on_number_law f Token.end = no_move

  on_block_law : {k : List ℕ → Move} → ((n : List ℕ) → Allows s (k n)) → (t : Token) → Allows s (on_block k t)
  on_block_law f (Token.name n) = f n
  on_block_law {k} f (Token.word w) = when (eqb w entry_word) (k []) wrong_move (f []) no_move
  on_block_law f (Token.number neg v) = no_move
  on_block_law f (Token.mark b) = no_move
  on_block_law f Token.end = no_move

  on_mark_or_law : (c : ℕ) {m : Move} {k : Token → Move} → Allows s m → ((t : Token) → Allows s (k t)) → (t : Token) → Allows s (on_mark_or c m k t)
  on_mark_or_law c x f (Token.name n) = f (Token.name n)
  on_mark_or_law c x f (Token.word w) = f (Token.word w)
  on_mark_or_law c x f (Token.number neg v) = f (Token.number neg v)
  on_mark_or_law c {m} {k} x f (Token.mark b) = when (eqb b c) m (k (Token.mark b)) x (f (Token.mark b))
  on_mark_or_law c x f Token.end = f Token.end

  on_mark_law : (c : ℕ) {m : Move} → Allows s m → (t : Token) → Allows s (on_mark c m t)
  on_mark_law c x = on_mark_or_law c x (λ t. no_move)

  on_end_or_law : {m : Move} {k : Token → Move} → Allows s m → ((t : Token) → Allows s (k t)) → (t : Token) → Allows s (on_end_or m k t)
  on_end_or_law x f (Token.name n) = f (Token.name n)
  on_end_or_law x f (Token.word w) = f (Token.word w)
  on_end_or_law x f (Token.number neg v) = f (Token.number neg v)
  on_end_or_law x f (Token.mark b) = f (Token.mark b)
  on_end_or_law x f Token.end = x

  is_word_or_law : (v : ℕ) {m : Move} {k : ℕ → Move} → Allows s m → ((w : ℕ) → Allows s (k w)) → (w : ℕ) → Allows s (is_word_or v m k w)
  is_word_or_law v {m} {k} x f w = when (eqb w v) m (k w) x (f w)

  is_word_law : (v : ℕ) {m : Move} → Allows s m → (w : ℕ) → Allows s (is_word v m w)
  is_word_law v x = is_word_or_law v x (λ w. no_move)

  a_type_law : (k : ℕ → Move) → ((t : ℕ) → IsType t → Allows s (k t)) → (w : ℕ) → Allows s (a_type k w)
  a_type_law k f w = when_so (is_type w) (k (type_of w)) wrong_move (λ e. f (type_of w) (type_bound w e)) no_move

-- A stage that holds this type.
a_typed : (t : ℕ) → IsType t → So IsType (some t)
a_typed t l = told IsType (some t) t refl l

-- What follows the sources tells their operand, or nothing, and all its blocks are due.
abbrev Follows : Stage → Operand → Type 0
Follows s o = T (not (is_top s)) × Tells s o × (type_in s ≡ none)

after_sources_law : (o : Operand) → Follows (after_sources o) o
after_sources_law Operand.none = (tt, (inl refl, refl), refl)
after_sources_law Operand.number = (tt, (inr refl, refl), refl)
after_sources_law Operand.registers = (tt, (inr refl, refl), refl)
after_sources_law Operand.block = (tt, (inr refl, refl), refl)
after_sources_law Operand.blocks = (tt, (inr refl, refl), refl)

after_source_law : (k : ℕ) (o : Operand) → Follows (after_source k o) o
after_source_law zero o = after_sources_law o
after_source_law (suc k) o = (tt, (inr refl, refl), refl)

first_source : (k : ℕ) (o : Operand) → Follows (sources k o) o
first_source zero o = after_sources_law o
first_source (suc k) o = (tt, (inr refl, refl), refl)

after_mention_law : (k : ℕ) → T (not (is_top (after_mention k))) × (operand_in (after_mention k) ≡ none) × (due (after_mention k) ≡ some k) × (type_in (after_mention k) ≡ none)
after_mention_law zero = (tt, refl, refl, refl)
after_mention_law (suc k) = (tt, refl, refl, refl)

in_operand_law : (o : Bracketed) → Allows (Stage.operand o) (to (in_operand o) Act.pass)
in_operand_law Bracketed.number = ok (refl, (inl refl, inr refl)) refl
in_operand_law Bracketed.registers = ok (refl, (inr refl, inr refl)) refl
in_operand_law Bracketed.block = ok (refl, (inl refl, inr refl)) refl
in_operand_law Bracketed.blocks = ok (refl, (inl refl, inr refl)) refl

-- What follows an instruction word tells that instruction's operand.
after_word_law : (op : ℕ) → Follows (after_word op) (operand_of (form_of op))
unfolding after_word
after_word_law op = first_source (source_count (form_of op)) (operand_of (form_of op))

module _ {s : Stage} (i : T (not (is_top s))) where
  word_with_target_law : (w : ℕ) → Allows s (word_with_target w)
  unfolding word_with_target
  word_with_target_law w =
      let h = after_word_law (instruction_of w) in
      when (is_instruction w && has_target (form_of (instruction_of w))) _ _ (ok ((i, h.0), h.1) h.2) no_move

  word_alone_law : (w : ℕ) → Allows s (word_alone w)
  unfolding word_alone
  word_alone_law w =
      let h = after_word_law (instruction_of w) in
      when (is_instruction w && not (has_target (form_of (instruction_of w)))) _ _ (ok ((i, h.0), h.1) h.2) no_move

  an_instruction_law : (t : Token) → Allows s (an_instruction t)
  an_instruction_law (Token.name n) = ok ((i, tt), (refl, refl)) refl
  an_instruction_law (Token.word w) = word_alone_law w
  an_instruction_law (Token.number neg v) = no_move
  an_instruction_law (Token.mark b) = no_move
  an_instruction_law Token.end = no_move

  a_result_law : (w : ℕ) → Allows s (a_result w)
  a_result_law = is_word_or_law void_word (ok ((i, tt), (refl, refl)) refl) (a_type_law (λ t. to Stage.function_name (Act.set_result t)) (λ t l. ok ((i, tt), (refl, refl)) refl))

  a_parameter_law : (w : ℕ) → Allows s (a_parameter w)
  a_parameter_law = a_type_law (λ t. to (Stage.parameter_name t) Act.begin_register) (λ t l. with_type ((i, tt), (refl, refl)) (a_typed t l))

  a_block_law : (w : ℕ) → Allows s (a_block w)
  a_block_law = is_word_law block_word (ok ((i, tt), (refl, refl)) refl)

-- Every move of the grammar is allowed.
moves : (s : Stage) (t : Token) → Allows s (next_move s t)
unfolding next_move
moves Stage.top = on_end_or_law (ok (refl, (inl refl, inl refl)) refl) (on_word_law (is_word_law function_word (ok (tt, (refl, refl)) refl)))
moves Stage.header = on_word_law (is_word_or_law ssa_word (ok ((tt, tt), (refl, refl)) refl) (a_result_law tt))
moves Stage.result = on_word_law (a_result_law tt)
moves Stage.function_name = on_name_law (λ n. ok ((tt, tt), (refl, refl)) refl)
moves Stage.parameters = on_mark_law left_paren (ok (refl, (inl refl, inl refl)) refl)
moves Stage.first_parameter = on_mark_or_law right_paren (ok (refl, (inl refl, inl refl)) refl) (on_word_law (a_parameter_law tt))
moves Stage.parameter = on_word_law (a_parameter_law tt)
moves (Stage.parameter_name t) = on_name_law (λ n. ok ((tt, tt), (refl, refl)) refl)
moves Stage.parameter_end = on_mark_or_law comma (ok (refl, (inl refl, inl refl)) refl) (on_mark_law right_paren (ok (refl, (inl refl, inl refl)) refl))
moves Stage.body = on_mark_law left_brace (ok (refl, (inl refl, inl refl)) refl)
moves Stage.declarations = on_mark_or_law right_brace (ok refl refl) (on_word_law (is_word_or_law register_word (ok ((tt, tt), (refl, refl)) refl) (a_block_law tt)))
moves Stage.register_type = on_word_law (a_type_law (λ t. to (Stage.register_name t) Act.pass) (λ t l. with_type (refl, (inl refl, inl refl)) (a_typed t l)))
moves (Stage.register_name t) = on_name_law (λ n. ok ((tt, tt), (refl, refl)) refl)
moves Stage.register_end = on_mark_law semicolon (ok (refl, (inl refl, inl refl)) refl)
moves Stage.blocks = on_mark_or_law right_brace (ok refl refl) (on_word_law (a_block_law tt))
moves Stage.block_name = on_block_law (λ n. ok ((tt, tt), (refl, refl)) refl)
moves Stage.block_body = on_mark_law left_brace (ok (refl, (inl refl, inl refl)) refl)
moves Stage.first_instruction = an_instruction_law tt
moves Stage.next_instruction = on_mark_or_law right_brace (ok ((tt, tt), (refl, refl)) refl) (an_instruction_law tt)
moves Stage.assignment = on_mark_law equals (ok (refl, (inl refl, inl refl)) refl)
moves Stage.instruction = on_word_law (word_with_target_law tt)
moves (Stage.source k o) = let h = after_source_law k o in on_name_law (λ n. ok ((tt, h.0), (h.1.0, inr h.1.1)) h.2)
moves (Stage.source_comma k o) = on_mark_law comma (ok (refl, (inr refl, inr refl)) refl)
moves (Stage.operand o) = on_mark_law left_paren (in_operand_law o)
moves Stage.number = on_number_law (λ neg v. ok ((tt, tt), (inl refl, inr refl)) refl)
moves Stage.entry = on_name_law (λ n. ok ((tt, tt), refl, (inr refl, inr refl)) refl)
moves Stage.entry_end = on_mark_or_law comma (ok (refl, (inr refl, inr refl)) refl) (on_mark_law right_paren (ok (refl, (inl refl, inr refl)) refl))
moves (Stage.mention k) =
    let h = after_mention_law k in
    on_block_law (λ n. ok ((tt, h.0), h.1, told (λ (j : ℕ). some (suc k) ≡ some (suc j)) (due (after_mention k)) k h.2 refl) h.3)
moves (Stage.mention_comma k) = on_mark_law comma (ok (refl, (inl refl, inr refl)) refl)
moves Stage.operand_end = on_mark_law right_paren (ok (refl, (inl refl, inr refl)) refl)
moves Stage.instruction_end = on_mark_law semicolon (ok ((tt, tt), (refl, refl)) refl)

-- What a token comes to: an answer, or a draft of which this holds.
data Holds (P : Draft → Type 0) : ActOutcome → Type 0 where
  refuses : {n : ℕ} {p : TextPlace} → Holds P (refuse n p)
  proceeds : {d : Draft} → P d → Holds P (proceed d)

module _ {P : Draft → Type 0} where
  either : (b : Bool) {x y : ActOutcome} → (b ≡ true → Holds P x) → Holds P y → Holds P (cond b x y)
  either true f h = f refl
  either false f h = h

  if_room_law : (k m : ℕ) (p : TextPlace) {x : ActOutcome} → (k < m → Holds P x) → Holds P (if_room k m p x)
  if_room_law k m p f = either (ltb k m) (λ e. f (ltb-true k m e)) refuses

  if_new_law : (i k : ℕ) (p : TextPlace) {x : ActOutcome} → Holds P x → Holds P (if_new i k p x)
  if_new_law i k p h = either (ltb i k) (λ e. refuses) h

  if_declared_law : (i k : ℕ) (p : TextPlace) {x : ActOutcome} → Holds P x → Holds P (if_declared i k p x)
  if_declared_law i k p h = either (ltb i k) (λ e. h) refuses

  if_resolved_law : (ms : List Mention) {x : ActOutcome} → Holds P x → Holds P (if_resolved ms x)
  if_resolved_law [] h = h
  if_resolved_law (m ∷ ms) h = refuses

-- Only a phi has a list of registers.
registers_phi : (f : Form) → operand_of f ≡ Operand.registers → f ≡ Form.phi
registers_phi Form.nop e = cc
registers_phi Form.load e = cc
registers_phi Form.unary e = cc
registers_phi Form.binary e = cc
registers_phi Form.phi e = refl
registers_phi Form.jump e = cc
registers_phi Form.branch e = cc
registers_phi Form.return e = cc
registers_phi Form.leave e = cc
registers_phi Form.unknown e = cc

-- The entries of the instruction in hand; what a stage tells of this instruction after so many mentions.
abbrev Entries : Parts → Type 0
Entries x = (form_of x.op ≡ Form.phi) ⊎ (x.entries ≡ [])

abbrev HasOperand : ℕ → Operand → Type 0
HasOperand op o = operand_of (form_of op) ≡ o

abbrev HasDue : (op mentions due : ℕ) → Type 0
HasDue op n k = n + k ≡ blocks_in (operand_of (form_of op))

abbrev Fits : Stage → (op mentions : ℕ) → Type 0
Fits s op n = So (HasOperand op) (operand_in s) × So (HasDue op n) (due s)

fits_untold : (s : Stage) (op n : ℕ) → Untold s → Fits s op n
fits_untold s op n u = (untold (HasOperand op) (operand_in s) u.0, untold (HasDue op n) (due s) u.1)

fits_told : (s : Stage) (op : ℕ) → Tells s (operand_of (form_of op)) → Fits s op 0
fits_told s op h =
    let o = operand_of (form_of op) in
    (kept (HasOperand op) (some o) (operand_in s) h.0 (told (HasOperand op) (some o) o refl refl), told (HasDue op 0) (due s) (blocks_in o) h.1 (zero-add (blocks_in o)))

fits_carried : (s s' : Stage) (op n : ℕ) → Carried s s' → Fits s op n → Fits s' op n
fits_carried s s' op n h f = (kept (HasOperand op) (operand_in s) (operand_in s') h.0 f.0, kept (HasDue op n) (due s) (due s') h.1 f.1)

-- Between functions, whatever was closed before.
ready_fresh : (fs : List Func) → StageReady Stage.top (fresh fs)
ready_fresh fs =
    let f = fits_untold Stage.top 0 0 (refl, refl) in
    record {
      between = λ h. refl;
      inside = λ h. absurd h;
      kind = f.0;
      entries = inr refl;
      mentions = f.1;
      types = untold IsType none refl;
    }

-- What an act that is allowed makes of a draft that is ready.
module _ (s s' : Stage) (y : Typed s') (d : Draft) (r : StageReady s d) where
  abbrev op : ℕ
  op = d.parts.op

  abbrev mentions : ℕ
  mentions = length d.parts.mentions

  carries : Carried s s' → Fits s' op mentions
  carries h = fits_carried s s' op mentions h (r.kind, r.mentions)

  passed : Allowed s Act.pass s' → StageReady s' d
  passed g =
      let f = carries g.1 in
      record {
        between = λ h. r.between (subst T g.0 h);
        inside = λ h. r.inside (subst (λ (b : Bool). T (not b)) g.0 h);
        kind = f.0;
        entries = r.entries;
        mentions = f.1;
        types = y;
      }

  begun : Allowed s Act.begin_function s' → length d.functions < max_functions → StageReady s' d
  begun g l =
      let f = fits_untold s' op mentions g.1 in
      record {
        between = λ h. absurd (T_not (is_top s') g.0 h);
        inside = λ h. l;
        kind = f.0;
        entries = r.entries;
        mentions = f.1;
        types = y;
      }

  within : {f : Head} {bs : List OpenBlock} {b : OpenBlock} {x : Parts} → Inside s s' → Fits s' x.op (length x.mentions) → Entries x → StageReady s' (draft_of d.functions f bs b x)
  within i k n = record {
    between = λ h. absurd (T_not (is_top s') i.1 h);
    inside = λ h. r.inside i.0;
    kind = k.0;
    entries = n;
    mentions = k.1;
    types = y;
  }

  plain : {f : Head} {bs : List OpenBlock} {b : OpenBlock} → Inside s s' × Untold s' → StageReady s' (draft_of d.functions f bs b d.parts)
  plain g = within g.0 (fits_untold s' op mentions g.1) r.entries

  -- one block more is mentioned, and one less is due
  mentioned : (m : Mention) → (operand_in s' ≡ none) × So (λ (k : ℕ). due s ≡ some (suc k)) (due s') → Fits s' op (length (d.parts.mentions ++ (m ∷ [])))
  mentioned m g = (untold (HasOperand op) (operand_in s') g.0, λ k e. let h = r.mentions (suc k) (g.1 k e) in simp length-append (omega (arith, h)))

  abbrev functions : ℕ
  functions = length d.functions

  abbrev registers : ℕ
  registers = length d.function.registers

  abbrev blocks : ℕ
  blocks = length d.blocks

  performed : (a : Act) (p : TextPlace) → Allowed s a s' → Holds (StageReady s') (perform_act a p d)
  unfolding perform_act reading.begin_function reading.mark_ssa reading.set_result reading.name_function reading.begin_register reading.name_register reading.begin_block reading.name_block reading.end_block reading.begin_instruction reading.set_target reading.set_instruction reading.add_source reading.add_entry reading.add_mention reading.set_number reading.end_instruction reading.end_function
  performed Act.wrong p g = refuses
  performed Act.pass p g = proceeds (passed g)
  performed Act.begin_function p g = if_room_law functions max_functions p (λ h. proceeds (begun g h))
  performed Act.mark_ssa p g = proceeds (plain g)
  performed Act.begin_register p g = if_room_law registers max_registers p (λ h. proceeds (plain g))
  performed Act.begin_block p g = if_room_law blocks max_blocks p (λ h. proceeds (plain g))
  performed (Act.set_result t) p g = proceeds (plain g)
  performed (Act.name_function n) p g = if_new_law (function_number d.functions n) functions p (proceeds (plain g))
  performed (Act.name_block n) p g = if_new_law (block_number d.blocks n) blocks p (proceeds (plain g))
  performed (Act.name_parameter t n) p g = if_new_law (register_number d.function.registers n) registers p (proceeds (plain g))
  performed (Act.name_register t n) p g = if_new_law (register_number d.function.registers n) registers p (proceeds (plain g))
  performed (Act.begin_instruction op) p g =
      if_room_law (draft_rows d) max_rows p (λ h. proceeds (within g.0 (fits_told s' op g.1) (inr refl)))
  performed (Act.set_instruction op) p g = proceeds (within g.0 (fits_told s' op g.1) (inr refl))
  performed (Act.set_target n) p g =
      if_room_law (draft_rows d) max_rows p (λ h. if_declared_law (register_number d.function.registers n) registers p (proceeds (within g.0 (fits_untold s' 0 0 g.1) (inr refl))))
  performed (Act.add_source n) p g =
      if_declared_law (register_number d.function.registers n) registers p (proceeds (within g.0 (carries g.1) r.entries))
  performed (Act.add_entry n) p g =
      let phi = registers_phi (form_of op) (r.kind Operand.registers g.1) in
      if_room_law (phi_entries d) max_entries p (λ h. if_declared_law (register_number d.function.registers n) registers p (proceeds (within g.0 (carries g.2) (inl phi))))
  performed (Act.add_mention n) p g = proceeds (within g.0 (mentioned _ (g.1, g.2)) r.entries)
  performed (Act.set_number neg v) p g =
      either (number_in_range (load_type op) neg v) (λ h. proceeds (within g.0 (carries g.1) r.entries)) refuses
  performed Act.end_instruction p g = proceeds (within g.0 (fits_untold s' 0 0 g.1) (inr refl))
  performed Act.end_block p g = proceeds (plain g)
  performed Act.end_function p g =
      either (ltb (block_number d.blocks []) blocks)
      (λ h. if_resolved_law (undeclared d.blocks) (proceeds (rw g (ready_fresh _))))
      refuses

-- A reading that goes on does so from a draft that is ready.
went_on : {s : Stage} {x : ActOutcome} → Holds (StageReady s) x → ReadyAt (after_act s x)
went_on refuses = tt
went_on (proceeds r) = r

-- Ready at the start, and after every token, or place with none, if before it.
pub ready_start : ReadyAt parse₀
ready_start = ready_fresh []

pub ready_take : (x : Parse) (f : Found) → ReadyAt x → ReadyAt (take_token x f)
unfolding take_token
ready_take (Parse.refused n p) f r = tt
ready_take (Parse.reading s d) (Found.token p t) r =
    went_on (performed s (next_move s t).stage (moves s t).typed d r (next_move s t).act p (moves s t).allowed)
ready_take (Parse.reading s d) (Found.stray p) r = tt

pub ready_reading : {s s' : Stage} {d d' : Draft} (f : Found) → StageReady s d → take_token (Parse.reading s d) f ≡ Parse.reading s' d' → StageReady s' d'
ready_reading {s} {s'} {d} {d'} f r e = subst ReadyAt e (ready_take (Parse.reading s d) f r)
