-- What a byte does, by number, against the definition's step. Assumes nothing.
use mathlib.Core.Bool.{Bool, true, false, cond}
use mathlib.Core.Path.{◌≡◌, refl, sym, ◌∙◌, subst, subst⁻¹}
use mathlib.Core.List.{List, [], ◌∷◌}
use Prim.Native.Nat.{ℕ, ◌+◌, ◌-◌, ◌≤◌, ◌<◌}
use native.Mathlib.Omega.{arith}
use lib.Dec.{T, eqb, ltb, leb}
use lib.ListN.{length}
use borrow.Author.Tests.{lt-ltb, le-ltb, lt-leb, le-leb, eq-eqb}
use Rattle.laws.proofs.Branches.{cond_same}
use native.Mathlib.Decide.{dec_lt}
use Rattle.language.specs.Bytes.{Class, class_of, class_number, in_name, in_digits, hex_value}
use Rattle.language.specs.Tokens.{Mode, Lexer, Lexed, Token, token, stray, begun, begun_name, begun_number, longer_name, waiting_name, longer_number, quiet, finds, spoils, begin_as, begin, ends, extends, quotes, escapes, closes, ends_number, decimal_digit, hexadecimal_digit, step_as, lex_step}
use Rattle.lexer.specs.Actions.{mode_number, digit_mode_at, begins_at, in_plain_at, in_quoted_at, in_escaped_at, after_number_at, in_decimal_at, in_number_at, action_at}
use Rattle.std.specs.Prelude.{Option}
use Rattle.lexer.specs.Lexing.{held, Valued}
use Rattle.lexer.specs.Numbers.{amount_of}

-- with nothing open no byte ends anything
not_ending : (t : Bool) (x y : ℕ) → eqb x 32 ≡ false → eqb y 32 ≡ false → eqb (cond t x y) 32 ≡ false
not_ending true x y p q = p
not_ending false x y p q = q

pub begins_nothing_ends : (k b : ℕ) → eqb (begins_at k b) 32 ≡ false
unfolding begins_at
begins_nothing_ends k b =
    not_ending (eqb k 0) 17 _ refl
    (not_ending (eqb k 1) (cond (eqb b 48) 23 24) _ (not_ending (eqb b 48) 23 24 refl refl)
    (not_ending (eqb k 2) 16 _ refl
    (not_ending (eqb k 3) 18 _ refl
    (not_ending (eqb k 4) 22 _ refl (not_ending (eqb k 5) 20 _ refl (not_ending (eqb k 6) 35 36 refl refl))))))

-- The byte b at p begins something, or is a token or none by itself.
pub data Begins (p b : ℕ) : ℕ → Lexed → Type 0 where
  space : Begins p b 16 (quiet (begun Mode.between p))
  letter : Begins p b 17 (quiet (begun_name Mode.plain p b))
  quote : Begins p b 18 (quiet (begun Mode.quoted p))
  slash : Begins p b 20 (quiet (begun Mode.slash p))
  comment : Begins p b 21 (quiet (begun Mode.comment p))
  sign : Begins p b 22 (quiet (begun_number Mode.sign p (eqb b 45) 0))
  zero : Begins p b 23 (quiet (begun_number Mode.leading_zero p false (b - 48)))
  digit : Begins p b 24 (quiet (begun_number Mode.decimal p false (b - 48)))
  mark : Begins p b 35 (finds (token p (Token.mark b)) (begun Mode.between p))
  other : Begins p b 36 (finds (stray p) (begun Mode.between p))

-- The mode is a name's: its contents are held.
abbrev pub Named : Lexer → Type 0
Named l = (xs : List ℕ) → held l.mode xs ≡ xs

-- The mode is a number's: its value is kept.
abbrev pub Counting : Lexer → Type 0
Counting l = (v : Option ℕ) (n : ℕ) → Valued l.mode v n → v ≡ amount_of n

-- There is room for so many bytes more.
abbrev pub Room : Lexer → ℕ → Type 0
Room l k = length l.bytes + k ≤ 64

-- What the byte b does to l: its number, and what the definition's step gives.
pub data Act (l : Lexer) (b : ℕ) : ℕ → Lexed → Type 0 where
  plain : Named l → Room l 1 → Act l b 1 (quiet (longer_name Mode.plain l (b ∷ [])))
  quoted : Named l → Room l 1 → Act l b 2 (quiet (longer_name Mode.quoted l (b ∷ [])))
  waiting : Named l → Room l 0 → Act l b 3 (quiet (waiting_name l))
  waiting_next : Named l → Room l 1 → Act l b 4 (quiet (longer_name Mode.escaping l (b ∷ [])))
  both : Named l → Room l 2 → Act l b 5 (quiet (longer_name Mode.quoted l (92 ∷ b ∷ [])))
  zero : Counting l → Act l b 7 (decimal_digit Mode.leading_zero l b)
  decimal : Counting l → Act l b 8 (decimal_digit Mode.decimal l b)
  prefix : Act l b 9 (quiet (longer_number Mode.prefix l 0))
  hexadecimal : Counting l → Act l b 10 (hexadecimal_digit l b)
  begins : {a : ℕ} {x : Lexed} → Begins l.next b a x → Act l b a x
  ending : Act l b 32 (ends l b)
  spoiling : Act l b 33 (spoils l)
  closing : Named l → Room l 0 → (length l.bytes ≡ 0 → ⊥) → Act l b 34 (finds (token l.start (Token.name l.bytes)) (begun Mode.between l.next))

-- bytes more, with room for them and without
fits : (l : Lexer) (m : Mode) (bs : List ℕ) → Room l (length bs) → extends m l bs ≡ quiet (longer_name m l bs)
unfolding extends
fits l m bs h = rw (le-leb (length l.bytes + length bs) 64 h)

spoilt : (l : Lexer) (m : Mode) (bs : List ℕ) → 64 < length l.bytes + length bs → extends m l bs ≡ spoils l
unfolding extends
spoilt l m bs h = rw (lt-leb (length l.bytes + length bs) 64 h)

module _ {l : Lexer} {b : ℕ} where
  either : (t : Bool) {a c : ℕ} {x y : Lexed} → Act l b a x → Act l b c y → Act l b (cond t a c) (cond t x y)
  either true p q = p
  either false p q = q

  zero_or_digit : Counting l → (t : Bool) → Act l b (cond t 7 8) (decimal_digit (cond t Mode.leading_zero Mode.decimal) l b)
  zero_or_digit h true = Act.zero h
  zero_or_digit h false = Act.decimal h

  comment_or_space : (t : Bool)
      → Act l b (cond t 16 21) (quiet (begun (cond t Mode.between Mode.comment) l.next))
  comment_or_space true = Act.begins Begins.space
  comment_or_space false = Act.begins Begins.comment

begins_zero : {p b : ℕ} (t : Bool)
    → Begins p b (cond t 23 24) (quiet (begun_number (cond t Mode.leading_zero Mode.decimal) p false (b - 48)))
begins_zero true = Begins.zero
begins_zero false = Begins.digit

-- with nothing open, by the byte's class
pub begins_as : (k : Class) (p b : ℕ) → Begins p b (begins_at (class_number k) b) (begin_as k p b)
unfolding begins_at
begins_as Class.letter p b = Begins.letter
begins_as Class.digit p b = begins_zero (eqb b 48)
begins_as Class.space p b = Begins.space
begins_as Class.quote p b = Begins.quote
begins_as Class.sign p b = Begins.sign
begins_as Class.slash p b = Begins.slash
begins_as Class.mark p b = Begins.mark
begins_as Class.other p b = Begins.other

module _ (l : Lexer) (b : ℕ) where
  by_name : (k : Class) {a c : ℕ} {x y : Lexed} → Act l b a x → Act l b c y
      → Act l b (cond (ltb (class_number k) 2) a c) (cond (in_name k) x y)
  by_name Class.letter p q = p
  by_name Class.digit p q = p
  by_name Class.space p q = q
  by_name Class.quote p q = q
  by_name Class.sign p q = q
  by_name Class.slash p q = q
  by_name Class.mark p q = q
  by_name Class.other p q = q

  by_digit : (k : Class) {a c : ℕ} {x y : Lexed} → Act l b a x → Act l b c y
      → Act l b (cond (eqb (class_number k) 1) a c) (cond (in_digits k) x y)
  by_digit Class.letter p q = q
  by_digit Class.digit p q = p
  by_digit Class.space p q = q
  by_digit Class.quote p q = q
  by_digit Class.sign p q = q
  by_digit Class.slash p q = q
  by_digit Class.mark p q = q
  by_digit Class.other p q = q

  after_number : Act l b (after_number_at (class_number (class_of b))) (ends_number l b)
  unfolding after_number_at ends_number
  after_number = by_name (class_of b) Act.spoiling Act.ending

  in_decimal : Counting l → Act l b (in_decimal_at (class_number (class_of b))) (cond (in_digits (class_of b)) (decimal_digit Mode.decimal l b) (ends_number l b))
  unfolding in_decimal_at
  in_decimal h = by_digit (class_of b) (Act.decimal h) after_number

  -- room for k bytes more, as the definition tests it and as the code does
  module _ (h : Named l) (n : ℕ) (e : length l.bytes ≡ n) (few : n ≤ 64) where
    roomier : (m : Mode) (bs : List ℕ) (k a : ℕ) → length bs + k ≡ 65 → (Room l (length bs) → Act l b a (quiet (longer_name m l bs)))
        → Act l b (cond (ltb n k) a 33) (extends m l bs)
    roomier m bs k a q p = by (dec_lt n k)
      where
        by : Dec (n < k) → Act l b (cond (ltb n k) a 33) (extends m l bs)
        by (yes i) = let r : length l.bytes + length bs ≤ 64 = omega arith in rw (lt-ltb n k i, fits l m bs r) (p r)
        by (no i) = rw (le-ltb n k (omega arith), spoilt l m bs (omega arith)) Act.spoiling

    in_plain : Act l b (in_plain_at (class_number (class_of b)) n) (cond (in_name (class_of b)) (extends Mode.plain l (b ∷ [])) (ends l b))
    unfolding in_plain_at
    in_plain = by_name (class_of b) (roomier Mode.plain (b ∷ []) 64 1 refl (λ r. Act.plain h r)) Act.ending

    in_quoted : Act l b (in_quoted_at b n) (quotes l b)
    unfolding in_quoted_at quotes closes
    in_quoted =
        either (eqb b 39) (rw e (none (eqb n 0) refl))
        (either (eqb b 92) (Act.waiting h (omega arith)) (roomier Mode.quoted (b ∷ []) 64 2 refl (λ r. Act.quoted h r)))
      where
        none : (t : Bool) → eqb n 0 ≡ t → Act l b (cond t 33 34) (cond t (spoils l) (finds (token l.start (Token.name l.bytes)) (begun Mode.between l.next)))
        none true q = Act.spoiling
        none false q = Act.closing h (omega arith) (λ z. absurd (subst⁻¹ T (sym q ∙ eq-eqb n 0 (sym e ∙ z)) tt))

    in_escaped : Act l b (in_escaped_at b n) (escapes l b)
    unfolding in_escaped_at escapes
    in_escaped = by (dec_lt n 64)
      where
        by : Dec (n < 64)
            → Act l b (cond (leb 64 n) 33 (cond (eqb b 39) 2 (cond (eqb b 92) 4 (cond (ltb n 63) 5 33))))
            (cond (eqb b 39) (extends Mode.quoted l (b ∷ [])) (cond (eqb b 92) (extends Mode.escaping l (b ∷ [])) (extends Mode.quoted l (92 ∷ b ∷ []))))
        by (yes i) =
            let r : length l.bytes + 1 ≤ 64 = omega arith in
            rw (lt-leb 64 n i)
            (either (eqb b 39) (rw (fits l Mode.quoted (b ∷ []) r) (Act.quoted h r))
            (either (eqb b 92) (rw (fits l Mode.escaping (b ∷ []) r) (Act.waiting_next h r)) (roomier Mode.quoted (92 ∷ b ∷ []) 63 5 refl (λ r. Act.both h r))))
        by (no i) =
            rw (le-leb 64 n (omega arith), spoilt l Mode.quoted (b ∷ []) (omega arith), spoilt l Mode.escaping (b ∷ []) (omega arith), spoilt l Mode.quoted (92 ∷ b ∷ []) (omega arith), cond_same (eqb b 92) (spoils l), cond_same (eqb b 39) (spoils l))
            Act.spoiling

-- how many bytes of contents are held; in another mode it does not matter
abbrev CountedTo : Lexer → ℕ → Type 0
CountedTo l n = (length l.bytes ≡ n) × (n ≤ 64)

abbrev pub Counted : Mode → Lexer → ℕ → Type 0
Counted Mode.between l n = Unit {0}
Counted Mode.plain l n = CountedTo l n
Counted Mode.quoted l n = CountedTo l n
Counted Mode.escaping l n = CountedTo l n
Counted Mode.slash l n = Unit {0}
Counted Mode.comment l n = Unit {0}
Counted Mode.sign l n = Unit {0}
Counted Mode.leading_zero l n = Unit {0}
Counted Mode.decimal l n = Unit {0}
Counted Mode.prefix l n = Unit {0}
Counted Mode.hexadecimal l n = Unit {0}

counting : (l : Lexer) {m : Mode} → l.mode ≡ m → (v : Option ℕ) (n : ℕ) → Valued l.mode v n → Valued m v n
counting l q v n a = subst (λ (m : Mode). Valued m v n) q a

acts_as : (m : Mode) (l : Lexer) (b n : ℕ) → l.mode ≡ m → Counted m l n
    → Act l b (action_at (mode_number m) (class_number (class_of b)) b n) (step_as m l b)
unfolding action_at in_number_at begin digit_mode_at
acts_as Mode.between l b n q e = Act.begins (begins_as (class_of b) l.next b)
acts_as Mode.plain l b n q e = in_plain l b (λ xs. rw q) n e.0 e.1
acts_as Mode.quoted l b n q e = in_quoted l b (λ xs. rw q) n e.0 e.1
acts_as Mode.escaping l b n q e = in_escaped l b (λ xs. rw q) n e.0 e.1
acts_as Mode.slash l b n q e = either (eqb b 47) (Act.begins Begins.comment) Act.ending
acts_as Mode.comment l b n q e = comment_or_space (eqb b 10)
acts_as Mode.sign l b n q e = by_digit l b (class_of b) (zero_or_digit (counting l q) (eqb b 48)) Act.ending
acts_as Mode.leading_zero l b n q e = either (eqb b 120) Act.prefix (in_decimal l b (counting l q))
acts_as Mode.decimal l b n q e = in_decimal l b (counting l q)
acts_as Mode.prefix l b n q e = either (ltb (hex_value b) 16) (Act.hexadecimal (counting l q)) Act.ending
acts_as Mode.hexadecimal l b n q e = either (ltb (hex_value b) 16) (Act.hexadecimal (counting l q)) (after_number l b)

-- each step of the definition is what the number says
pub acts : (l : Lexer) (b n : ℕ) → Counted l.mode l n
    → Act l b (action_at (mode_number l.mode) (class_number (class_of b)) b n) (lex_step l b)
unfolding lex_step
acts l b n e = acts_as l.mode l b n refl e
