-- Every name that the lexer finds is spellable: what it keeps of a name so far has at most 64 bytes, and a backslash that came last waits
-- outside. Assumes nothing.
use mathlib.Core.Bool.{Bool, true, false, cond}
use mathlib.Core.List.{List, [], ◌∷◌, ◌++◌, foldl, append_assoc}
use mathlib.Core.Path.{◌≡◌, refl, sym, ◌∙◌, ap, subst, subst⁻¹}
use Prim.Native.Nat.{ℕ, ◌+◌, ◌-◌, ◌≤◌, ◌<◌}
use native.Mathlib.Omega.{arith}
use lib.Dec.{T, eqb, ltb, leb, lit≤, lit<, leb→le}
use lib.ListN.{length, get_or, length-append}
use lib.Seq.{get_or-append-add}
use mir.Facts.{yes_and}
use borrow.Author.Tests.{lt-ltb, le-leb, eqb-true, eq-eqb, ne_eqb}
use Rattle.laws.specs.Lists.{all, empty}
use Rattle.laws.specs.Sections.{Bytes}
use Rattle.laws.proofs.Appending.{all_append}
use Rattle.language.specs.Bytes.{Class, class_of, name_byte, digit_byte, hex_byte, quote_byte, backslash, slash_byte, line_feed, letter_x, digit_zero}
use Rattle.language.specs.Words.{word_of, word_count}
use Rattle.language.specs.Names.{slash_last, spellable}
use Rattle.language.specs.Programs.{max_name}
use Rattle.language.specs.Tokens.{Token, Found, token, stray, Mode, Lexer, Lexed, lexer₀, quiet, finds, begun, longer_name, waiting_name, spoils, digit_mode, begin, begin_as, name_or_word, ended, ended_as, ends, extends, quotes, escapes, closes, ends_number, decimal_digit, hexadecimal_digit, step_as, lex_step, lex_end, lex_more, tokens_from, tokens_of}

-- What is found is no name, or one that a text can spell.
abbrev pub is_spellable : Found → Bool
is_spellable (token p (Token.name n)) = spellable n
is_spellable (token p (Token.word w)) = true
is_spellable (token p (Token.number s v)) = true
is_spellable (token p (Token.mark b)) = true
is_spellable (token p Token.end) = true
is_spellable (stray p) = true

abbrev is_byte : ℕ → Bool
is_byte b = ltb b 256

-- Contents so far, after which a name may end.
record Kept (n : List ℕ) : Type 0 where
  fits : length n ≤ max_name
  last : slash_last n ≡ false
  bytes : T (all is_byte n)

-- Contents so far, with a backslash that waits outside.
record Waits (n : List ℕ) : Type 0 where
  fits : length n ≤ max_name
  bytes : T (all is_byte n)

-- What each mode keeps.
abbrev Keeps : Mode → List ℕ → Type 0
Keeps Mode.between n = Unit {0}
Keeps Mode.plain n = Kept n × (1 ≤ length n)
Keeps Mode.quoted n = Kept n
Keeps Mode.escaping n = Waits n
Keeps Mode.slash n = Unit {0}
Keeps Mode.comment n = Unit {0}
Keeps Mode.sign n = Unit {0}
Keeps Mode.leading_zero n = Unit {0}
Keeps Mode.decimal n = Unit {0}
Keeps Mode.prefix n = Unit {0}
Keeps Mode.hexadecimal n = Unit {0}

record Good (x : Lexed) : Type 0 where
  names : T (all is_spellable x.found)
  keeps : Keeps x.lexer.mode x.lexer.bytes

-- ---- the last byte

pub last_added : (n : List ℕ) (b : ℕ) → slash_last (n ++ (b ∷ [])) ≡ eqb b backslash
unfolding slash_last
last_added n b =
    let k : length (n ++ (b ∷ [])) - 1 ≡ length n + 0 = simp length-append (omega arith) in
    ap (λ (i : ℕ). eqb (get_or (n ++ (b ∷ [])) i 0) backslash) k ∙ ap (λ (c : ℕ). eqb c backslash) (get_or-append-add n (b ∷ []) 0 0)

pub none_last : slash_last [] ≡ false
unfolding slash_last
none_last = refl

slash_no_name : name_byte backslash ≡ false
unfolding class_of
slash_no_name = refl

name_no_slash : (b : ℕ) → name_byte b ≡ true → eqb b backslash ≡ false
name_no_slash b h = ne_eqb b backslash (λ e. absurd (differ (sym h ∙ ap name_byte e ∙ slash_no_name)))
  where
    differ : true ≡ false → ⊥
    differ e = subst (λ (t : Bool). T t) e tt

-- ---- contents with bytes more

byte_yes : (b : ℕ) → b < 256 → T (is_byte b)
byte_yes b h = rw (lt-ltb b 256 h) tt

-- one byte, and two
module _ (n : List ℕ) (b : ℕ) (h : b < 256) where
  kept_more : Waits n → length n + 1 ≤ max_name → eqb b backslash ≡ false → Kept (n ++ (b ∷ []))
  kept_more k f e =
      record {
        fits = simp length-append f;
        last = last_added n b ∙ e;
        bytes = all_append is_byte n (b ∷ []) k.bytes (yes_and (is_byte b) true (byte_yes b h) tt);
      }

  waits_more : Waits n → length n + 1 ≤ max_name → Waits (n ++ (b ∷ []))
  waits_more k f = record { fits = simp length-append f; bytes = all_append is_byte n (b ∷ []) k.bytes (yes_and (is_byte b) true (byte_yes b h) tt) }

kept_waits : {n : List ℕ} → Kept n → Waits n
kept_waits k = record { fits = k.fits; bytes = k.bytes }

kept_two : (n : List ℕ) (b : ℕ) → b < 256 → Waits n → length n + 2 ≤ max_name → eqb b backslash ≡ false → Kept (n ++ (backslash ∷ b ∷ []))
kept_two n b h k f e =
    subst (λ (m : List ℕ). Kept m) (append_assoc n (backslash ∷ []) (b ∷ []))
    (kept_more (n ++ (backslash ∷ [])) b h (waits_more n backslash (lit< tt) k (omega arith)) (simp length-append (omega arith)) e)

-- what is kept is spellable, if it has a byte
kept_spellable : (n : List ℕ) → Kept n → (length n ≡ 0 → ⊥) → T (spellable n)
unfolding spellable
kept_spellable n k some =
    rw (none n some, le-leb (length n) max_name k.fits, k.last) k.bytes
  where
    none : (n : List ℕ) → (length n ≡ 0 → ⊥) → empty n ≡ false
    none [] h = absurd (h refl)
    none (b ∷ n) h = refl

-- ---- a byte that begins something

keeps_digit : (t : Bool) (n : List ℕ) → Keeps (cond t Mode.leading_zero Mode.decimal) n
keeps_digit true n = tt
keeps_digit false n = tt

letter_in_name : (b : ℕ) → class_of b ≡ Class.letter → name_byte b ≡ true
letter_in_name b e = rw e

nothing_kept : Kept []
nothing_kept = record { fits = lit≤ tt; last = none_last; bytes = tt }

begin_good : (p b : ℕ) → b < 256 → Good (begin p b)
unfolding begin
begin_good p b h = by (class_of b) refl
  where
    by : (c : Class) → class_of b ≡ c → Good (begin_as c p b)
    by Class.letter e =
        record { names = tt; keeps = (kept_more [] b h (kept_waits nothing_kept) (lit≤ tt) (name_no_slash b (letter_in_name b e)), lit≤ tt) }
    by Class.digit e = record { names = tt; keeps = keeps_digit (eqb b digit_zero) [] }
    by Class.space e = record { names = tt; keeps = tt }
    by Class.quote e = record { names = tt; keeps = nothing_kept }
    by Class.sign e = record { names = tt; keeps = tt }
    by Class.slash e = record { names = tt; keeps = tt }
    by Class.mark e = record { names = tt; keeps = tt }
    by Class.other e = record { names = tt; keeps = tt }

-- ---- what is open ends

name_or_word_law : (n : List ℕ) (p : ℕ) → Kept n × (1 ≤ length n) → T (is_spellable (token p (name_or_word n)))
unfolding name_or_word
name_or_word_law n p k = by (eqb (word_of n) word_count)
  where
    by : (t : Bool) → T (is_spellable (token p (cond t (Token.name n) (Token.word (word_of n)))))
    by true = kept_spellable n k.0 (λ e. absurd (omega (arith, k.1, e)))
    by false = tt

ended_good : (m : Mode) (l : Lexer) → Keeps m l.bytes → T (all is_spellable (ended_as m l))
ended_good Mode.between l k = tt
ended_good Mode.plain l k = yes_and (is_spellable (token l.start (name_or_word l.bytes))) true (name_or_word_law l.bytes l.start k) tt
ended_good Mode.quoted l k = tt
ended_good Mode.escaping l k = tt
ended_good Mode.slash l k = tt
ended_good Mode.comment l k = tt
ended_good Mode.sign l k = tt
ended_good Mode.leading_zero l k = tt
ended_good Mode.decimal l k = tt
ended_good Mode.prefix l k = tt
ended_good Mode.hexadecimal l k = tt

module _ (l : Lexer) (b : ℕ) (h : b < 256) where
  ends_good : Keeps l.mode l.bytes → Good (ends l b)
  unfolding ends ended
  ends_good k =
      let g = begin_good l.next b h in
      record { names = all_append is_spellable (ended_as l.mode l) (begin l.next b).found (ended_good l.mode l k) g.names; keeps = g.keeps }

-- ---- a byte more of a name

spoils_good : (l : Lexer) → Good (spoils l)
spoils_good l = record { names = tt; keeps = tt }

extends_good : (m : Mode) (l : Lexer) (bs : List ℕ) → (length l.bytes + length bs ≤ max_name → Keeps m (l.bytes ++ bs)) → Good (extends m l bs)
unfolding extends
extends_good m l bs k = by (leb (length l.bytes + length bs) max_name) refl
  where
    by : (t : Bool) → leb (length l.bytes + length bs) max_name ≡ t → Good (cond t (quiet (longer_name m l bs)) (spoils l))
    by true e = record { names = tt; keeps = k (leb→le (length l.bytes + length bs) max_name (subst⁻¹ (λ (t : Bool). T t) e tt)) }
    by false e = spoils_good l

closes_good : (l : Lexer) → Kept l.bytes → Good (closes l)
unfolding closes
closes_good l k = by (eqb (length l.bytes) 0) refl
  where
    by : (t : Bool) → eqb (length l.bytes) 0 ≡ t
        → Good (cond t (spoils l) (finds (token l.start (Token.name l.bytes)) (begun Mode.between l.next)))
    by true e = spoils_good l
    by false e =
        record { names = yes_and (spellable l.bytes) true (kept_spellable l.bytes k (λ z. absurd (differ (sym e ∙ eq-eqb (length l.bytes) 0 z)))) tt; keeps = tt }
      where
        differ : false ≡ true → ⊥
        differ e = subst⁻¹ (λ (t : Bool). T t) e tt

module _ (l : Lexer) (b : ℕ) (h : b < 256) where
  quotes_good : Kept l.bytes → Good (quotes l b)
  unfolding quotes
  quotes_good k = by (eqb b quote_byte) (eqb b backslash) refl
    where
      by : (s t : Bool) → eqb b backslash ≡ t → Good (cond s (closes l) (cond t (quiet (waiting_name l)) (extends Mode.quoted l (b ∷ []))))
      by true t e = closes_good l k
      by false true e = record { names = tt; keeps = kept_waits k }
      by false false e = extends_good Mode.quoted l (b ∷ []) (λ f. kept_more l.bytes b h (kept_waits k) f e)

  escapes_good : Waits l.bytes → Good (escapes l b)
  unfolding escapes
  escapes_good k = by (eqb b quote_byte) refl (eqb b backslash) refl
    where
      quote_no_slash : eqb b quote_byte ≡ true → eqb b backslash ≡ false
      quote_no_slash e = rw (eqb-true b quote_byte e)

      by : (s : Bool) → eqb b quote_byte ≡ s → (t : Bool) → eqb b backslash ≡ t
          → Good (cond s (extends Mode.quoted l (b ∷ [])) (cond t (extends Mode.escaping l (b ∷ [])) (extends Mode.quoted l (backslash ∷ b ∷ []))))
      by true d t e = extends_good Mode.quoted l (b ∷ []) (λ f. kept_more l.bytes b h k f (quote_no_slash d))
      by false d true e = extends_good Mode.escaping l (b ∷ []) (λ f. waits_more l.bytes b h k f)
      by false d false e = extends_good Mode.quoted l (backslash ∷ b ∷ []) (λ f. kept_two l.bytes b h k f e)

  -- ---- any byte

  either : (t : Bool) (x y : Lexed) → Good x → Good y → Good (cond t x y)
  either true x y g k = g
  either false x y g k = k

  keeps_comment : (t : Bool) (n : List ℕ) → Keeps (cond t Mode.between Mode.comment) n
  keeps_comment true n = tt
  keeps_comment false n = tt

  digit_good : Good (decimal_digit (digit_mode b) l b)
  unfolding decimal_digit
  digit_good = record { names = tt; keeps = keeps_digit (eqb b digit_zero) [] }

  decimal_good : Good (decimal_digit Mode.decimal l b)
  unfolding decimal_digit
  decimal_good = record { names = tt; keeps = tt }

  hexadecimal_good : Good (hexadecimal_digit l b)
  unfolding hexadecimal_digit
  hexadecimal_good = record { names = tt; keeps = tt }

  number_good : Keeps l.mode l.bytes → Good (ends_number l b)
  unfolding ends_number
  number_good k = either (name_byte b) (spoils l) (ends l b) (spoils_good l) (ends_good l b h k)

  step_good : (m : Mode) → l.mode ≡ m → Keeps m l.bytes → Good (step_as m l b)
  step_good m e k = by m e k
    where
      given : Keeps l.mode l.bytes
      given = subst⁻¹ (λ (m : Mode). Keeps m l.bytes) e k

      long : length (l.bytes ++ (b ∷ [])) ≡ length l.bytes + 1
      long = length-append l.bytes (b ∷ [])

      plain : (t : Bool) → name_byte b ≡ t → Kept l.bytes → Good (cond t (extends Mode.plain l (b ∷ [])) (ends l b))
      plain true d k = extends_good Mode.plain l (b ∷ []) (λ f. (kept_more l.bytes b h (kept_waits k) f (name_no_slash b d), omega (arith, long)))
      plain false d k = ends_good l b h given

      by : (m : Mode) → l.mode ≡ m → Keeps m l.bytes → Good (step_as m l b)
      by Mode.between e k = begin_good l.next b h
      by Mode.plain e k = plain (name_byte b) refl k.0
      by Mode.quoted e k = quotes_good k
      by Mode.escaping e k = escapes_good k
      by Mode.slash e k = either (eqb b slash_byte) _ (ends l b) (record { names = tt; keeps = tt }) (ends_good l b h given)
      by Mode.comment e k = record { names = tt; keeps = keeps_comment (eqb b line_feed) [] }
      by Mode.sign e k = either (digit_byte b) _ (ends l b) digit_good (ends_good l b h given)
      by Mode.leading_zero e k = either (eqb b letter_x) _ _ (record { names = tt; keeps = tt }) (either (digit_byte b) _ (ends_number l b) decimal_good (number_good given))
      by Mode.decimal e k = either (digit_byte b) _ (ends_number l b) decimal_good (number_good given)
      by Mode.prefix e k = either (hex_byte b) _ (ends l b) hexadecimal_good (ends_good l b h given)
      by Mode.hexadecimal e k = either (hex_byte b) _ (ends_number l b) hexadecimal_good (number_good given)

-- ---- a text

more_good : (x : Lexed) (b : ℕ) → b < 256 → Good x → Good (lex_more x b)
unfolding lex_more lex_step
more_good x b h g =
    let s = step_good x.lexer b h x.lexer.mode refl g.keeps in
    record { names = all_append is_spellable x.found (lex_step x.lexer b).found g.names s.names; keeps = s.keeps }

text_good : (text : List ℕ) (x : Lexed) → Bytes text → Good x → Good (foldl lex_more x text)
text_good [] x h g = g
text_good (b ∷ bs) x h g = text_good bs (lex_more x b) h.1 (more_good x b h.0 g)

-- every name found in a text is one that a text can spell
pub names_spellable : (text : List ℕ) → Bytes text → T (all is_spellable (tokens_of text))
unfolding tokens_from tokens_of lex_end ended
names_spellable text h =
    let x = foldl lex_more (quiet lexer₀) text in
    let g = text_good text (quiet lexer₀) h (record { names = tt; keeps = tt }) in
    let l = x.lexer in
    all_append is_spellable x.found (ended_as l.mode l ++ (token l.next Token.end ∷ [])) g.names
    (all_append is_spellable (ended_as l.mode l) (token l.next Token.end ∷ []) (ended_good l.mode l g.keeps) tt)
