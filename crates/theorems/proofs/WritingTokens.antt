-- A text made of spelled tokens, each followed by a space or LF, is lexed to these tokens. Nothing is said of their places.
-- Assumes nothing.
use mathlib.Core.Bool.{Bool, true, false, cond, ◌&&◌}
use mathlib.Core.List.{List, [], ◌∷◌, ◌++◌, foldl, foldl-append, append_assoc, append-nil}
use mathlib.Core.Logic.{◌⊎◌, inl, inr, ⊎_elim}
use mathlib.Core.Path.{◌≡◌, refl, sym, ◌∙◌, ap, subst, subst⁻¹}
use Prim.Native.Nat.{ℕ, ◌+◌, ◌-◌, ◌*◌, ◌/◌, ◌%◌, ◌<◌}
use native.Mathlib.Nat.{div-add-mod, mod-lt}
use native.Mathlib.Omega.{arith}
use lib.Dec.{T, eqb, leb, leb→le, eqb→eq, lit<}
use lib.ListN.{length}
use mir.Facts.{and_yes}
use borrow.Author.Tests.{ne_eqb}
use Rattle.laws.specs.Lists.{all, below, gather}
use Rattle.laws.proofs.Every.{Every, more as every_cons, every_all, every_below_at}
use Rattle.language.specs.Bytes.{Class, class_of, name_byte, digit_byte, letter_x, digit_zero, line_feed, minus}
use Rattle.language.specs.Words.{words, word_of, word_count, spelling_of}
use Rattle.language.specs.Names.{plain_bytes, spellable, spelling}
use Rattle.language.specs.Programs.{max_name}
use Rattle.language.specs.Listing.{digits}
use Rattle.language.specs.Tokens.{Token, Found, token, Mode, Lexer, Lexed, lexer₀, quiet, finds, begun, longer_number, begun_number, digit_mode, begin, begin_as, name_or_word, ended, ended_as, ends, ends_number, decimal_digit, step_as, lex_step, lex_end, lex_more, tokens_from, tokens_of}
use Rattle.language.proofs.Digits.{digits_by, digit_class}
use Rattle.language.proofs.NamesLexed.{GoesOnAs, after, plain_after}
use Rattle.language.proofs.SpelledNames.{spelling_after}
use Rattle.theorems.specs.RoundTrip.{FindsTokens, none, more}
use Rattle.language.specs.Writing.{bytes_for, line_bytes, space_byte}

pub finds_append : {ts us : List Token} {fs gs : List Found} → FindsTokens ts fs → FindsTokens us gs → FindsTokens (ts ++ us) (fs ++ gs)
finds_append none k = k
finds_append (more p h) k = more p (finds_append h k)

-- ---- states of the lexer, without places

-- Nothing is open.
record Between (us : List Token) (x : Lexed) : Type 0 where
  mode : x.lexer.mode ≡ Mode.between
  found : FindsTokens us x.found

-- A number so far.
record Counting (s : Bool) (v : ℕ) (us : List Token) (x : Lexed) : Type 0 where
  mode : (x.lexer.mode ≡ Mode.leading_zero) ⊎ (x.lexer.mode ≡ Mode.decimal)
  negative : x.lexer.negative ≡ s
  value : x.lexer.value ≡ v
  found : FindsTokens us x.found

abbrev also : Lexed → Lexed → Lexed
also x y = record { lexer = y.lexer; found = x.found ++ y.found }

more_is : (x : Lexed) (b : ℕ) (m : Mode) → x.lexer.mode ≡ m → lex_more x b ≡ also x (step_as m x.lexer b)
unfolding lex_more lex_step
more_is x b m e = ap (λ (k : Mode). also x (step_as k x.lexer b)) e

still : {us : List Token} (fs : List Found) → FindsTokens us fs → FindsTokens us (fs ++ [])
still fs h = rw append-nil h

-- ---- a space

x_letter : class_of letter_x ≡ Class.letter
unfolding class_of
x_letter = refl

module _ (c : ℕ) (space : class_of c ≡ Class.space) where
  no_name_byte : name_byte c ≡ false
  no_name_byte = rw space

  begin_space : (p : ℕ) → begin p c ≡ quiet (begun Mode.between p)
  unfolding begin
  begin_space p = ap (λ (k : Class). begin_as k p c) space

  space_on : {us : List Token} (x : Lexed) → Between us x → Between us (lex_more x c)
  space_on {us} x k =
      let e : lex_more x c ≡ also x (quiet (begun Mode.between x.lexer.next)) =
      more_is x c Mode.between k.mode ∙ ap (also x) (begin_space x.lexer.next) in
      record { mode = ap (λ (y : Lexed). y.lexer.mode) e; found = subst⁻¹ (λ (y : Lexed). FindsTokens us y.found) e (still x.found k.found) }

  -- what is open ends
  ends_is : (l : Lexer) (m : Mode) → l.mode ≡ m → ends l c ≡ record { lexer = begun Mode.between l.next; found = ended_as m l ++ [] }
  unfolding ends ended
  ends_is l m e = λ i. record { lexer = (begin_space l.next i).lexer; found = ended_as (e i) l ++ (begin_space l.next i).found }

  ended_on :
      {us : List Token} (t : Token) (x : Lexed) (p : ℕ)
      → FindsTokens us x.found
      → (y : Lexed)
      → y ≡ also x (record { lexer = begun Mode.between x.lexer.next; found = token p t ∷ [] ++ [] })
      → Between (us ++ (t ∷ [])) y
  ended_on {us} t x p h y e =
      record { mode = ap (λ (z : Lexed). z.lexer.mode) e; found = subst⁻¹ (λ (z : Lexed). FindsTokens (us ++ (t ∷ [])) z.found) e (finds_append h (more p none)) }

  digit_no : digit_byte c ≡ false
  digit_no = rw space

  x_no : eqb c letter_x ≡ false
  x_no =
      ne_eqb c letter_x (λ e. absurd (let z : ◌≡◌ {A = Class} Class.space Class.letter = sym space ∙ ap class_of e ∙ x_letter in let y : ◌≡◌ {A = ℕ} 0 1 = cc in omega arith))

  number_ends : {s : Bool} {v : ℕ} {us : List Token} (x : Lexed) → Counting s v us x → Between (us ++ (Token.number s v ∷ [])) (lex_more x c)
  unfolding ends_number
  number_ends {s} {v} {us} x k = by k.mode
    where
      l : Lexer
      l = x.lexer

      shown : token l.start (Token.number l.negative l.value) ≡ token l.start (Token.number s v)
      shown = λ i. token l.start (Token.number (k.negative i) (k.value i))

      last : ends_number l c ≡ ends l c
      last = ap (λ (t : Bool). cond t (finds (Found.stray l.start) (begun Mode.between l.next)) (ends l c)) no_name_byte

      by : (l.mode ≡ Mode.leading_zero) ⊎ (l.mode ≡ Mode.decimal) → Between (us ++ (Token.number s v ∷ [])) (lex_more x c)
      by (inl e) =
          ended_on (Token.number s v) x l.start k.found (lex_more x c)
          (more_is x c Mode.leading_zero e
          ∙ ap (λ (t : Bool). also x (cond t (quiet (longer_number Mode.prefix l 0)) (cond (digit_byte c) (decimal_digit Mode.decimal l c) (ends_number l c)))) x_no
          ∙ ap (λ (t : Bool). also x (cond t (decimal_digit Mode.decimal l c) (ends_number l c))) digit_no
          ∙ ap (also x) (last ∙ ends_is l Mode.leading_zero e)
          ∙ ap (λ (f : Found). also x (record { lexer = begun Mode.between l.next; found = f ∷ [] ++ [] })) shown)
      by (inr e) =
          ended_on (Token.number s v) x l.start k.found (lex_more x c)
          (more_is x c Mode.decimal e
          ∙ ap (λ (t : Bool). also x (cond t (decimal_digit Mode.decimal l c) (ends_number l c))) digit_no
          ∙ ap (also x) (last ∙ ends_is l Mode.decimal e)
          ∙ ap (λ (f : Found). also x (record { lexer = begun Mode.between l.next; found = f ∷ [] ++ [] })) shown)

-- ---- any token, with a space after it

begin_is : (x : Lexed) (b : ℕ) → x.lexer.mode ≡ Mode.between → (c : Class) → class_of b ≡ c → lex_more x b ≡ also x (begin_as c x.lexer.next b)
unfolding begin
begin_is x b e c d = more_is x b Mode.between e ∙ ap (λ (k : Class). also x (begin_as k x.lexer.next b)) d

-- Some text spells this token.
abbrev pub Spellable : Token → Type 0
Spellable (Token.name n) = T (spellable n)
Spellable (Token.word w) = w < word_count
Spellable (Token.number s v) = Unit {0}
Spellable (Token.mark b) = class_of b ≡ Class.mark
Spellable Token.end = ⊥

-- every word is spelled like a plain name, and is itself
word_test : ℕ → Bool
word_test w = let n = spelling_of w in plain_bytes n && leb (length n) max_name && eqb (word_of n) w

words_tested : T (all word_test (below word_count))
unfolding word_test words word_of class_of
words_tested = tt

module _ (c : ℕ) (space : class_of c ≡ Class.space) (us : List Token) (x : Lexed) (k : Between us x) where
  -- bytes after which the lexer goes on as if it had found t
  found_then :
      (bs : List ℕ) (e : ℕ) (t : Token) → GoesOnAs (after x.found x.lexer.next e t) (foldl lex_more x bs)
      → Between (us ++ (t ∷ [])) (lex_more (foldl lex_more x bs) c)
  found_then bs e t g =
      let y = after x.found x.lexer.next e t in
      subst⁻¹ (λ (z : Lexed). Between (us ++ (t ∷ [])) z) (g.at_byte c (no_name_byte c space))
      (space_on c space y (record { mode = refl; found = finds_append k.found (more x.lexer.next none) }))

  word_then : (w : ℕ) → w < word_count → Between (us ++ (Token.word w ∷ [])) (lex_more (foldl lex_more x (spelling_of w)) c)
  unfolding word_test name_or_word
  word_then w h =
      let n = spelling_of w in
      let t : T (word_test w) = every_below_at word_count (every_all word_test (below word_count) words_tested) w h in
      let p = and_yes (plain_bytes n && leb (length n) max_name) (eqb (word_of n) w) t in
      let q = and_yes (plain_bytes n) (leb (length n) max_name) p.0 in
      let e : word_of n ≡ w = eqb→eq (word_of n) w p.1 in
      let known : name_or_word n ≡ Token.word w = rw (e, ne_eqb w word_count (λ d. absurd (omega arith))) in
      subst (λ (t : Token). Between (us ++ (t ∷ [])) (lex_more (foldl lex_more x n) c)) known
      (found_then n (x.lexer.next + length n) (name_or_word n) (plain_after x k.mode n q.0 (leb→le (length n) max_name q.1)))

  name_then : (n : List ℕ) → T (spellable n) → Between (us ++ (Token.name n ∷ [])) (lex_more (foldl lex_more x (spelling n)) c)
  name_then n h = found_then (spelling n) (x.lexer.next + length (spelling n)) (Token.name n) (spelling_after x k.mode n h)

  mark_then : (b : ℕ) → class_of b ≡ Class.mark → Between (us ++ (Token.mark b ∷ [])) (lex_more (lex_more x b) c)
  mark_then b h =
      let e : lex_more x b ≡ also x (finds (token x.lexer.next (Token.mark b)) (begun Mode.between x.lexer.next)) =
      begin_is x b k.mode Class.mark h in
      space_on c space (lex_more x b)
      (record {
        mode = ap (λ (y : Lexed). y.lexer.mode) e;
        found = subst⁻¹ (λ (y : Lexed). FindsTokens (us ++ (Token.mark b ∷ [])) y.found) e (finds_append k.found (more x.lexer.next none));
      })

-- ---- numbers

digit_modes : (t : Bool) → (cond t Mode.leading_zero Mode.decimal ≡ Mode.leading_zero) ⊎ (cond t Mode.leading_zero Mode.decimal ≡ Mode.decimal)
digit_modes true = inl refl
digit_modes false = inr refl

module _ (s : Bool) (us : List Token) where
  -- A sign alone.
  record Signed (x : Lexed) : Type 0 where
    mode : x.lexer.mode ≡ Mode.sign
    negative : x.lexer.negative ≡ s
    value : x.lexer.value ≡ 0
    found : FindsTokens us x.found

  counts :
      (x y : Lexed) (m : Mode) (v : ℕ)
      → FindsTokens us x.found
      → x.lexer.negative ≡ s
      → (m ≡ Mode.leading_zero) ⊎ (m ≡ Mode.decimal)
      → y ≡ also x (quiet (longer_number m x.lexer v))
      → Counting s v us y
  counts x y m v f g h e =
      record {
        mode = ⊎_elim (λ d. inl (ap (λ (y : Lexed). y.lexer.mode) e ∙ d)) (λ d. inr (ap (λ (y : Lexed). y.lexer.mode) e ∙ d)) h;
        negative = ap (λ (y : Lexed). y.lexer.negative) e ∙ g;
        value = ap (λ (y : Lexed). y.lexer.value) e;
        found = subst⁻¹ (λ (y : Lexed). FindsTokens us y.found) e (still x.found f);
      }

  -- one digit more
  digit_on : (v d : ℕ) → d < 10 → (x : Lexed) → Counting s v us x → Counting s (10 * v + d) us (lex_more x (digit_zero + d))
  unfolding decimal_digit
  digit_on v d h x k = by k.mode
    where
      b : ℕ
      b = digit_zero + d

      l : Lexer
      l = x.lexer

      is_digit : digit_byte b ≡ true
      is_digit = rw (digit_class d h)

      worth : 10 * l.value + (b - digit_zero) ≡ 10 * v + d
      worth = omega (arith, k.value)

      by : (l.mode ≡ Mode.leading_zero) ⊎ (l.mode ≡ Mode.decimal) → Counting s (10 * v + d) us (lex_more x b)
      by (inl e) =
          counts x (lex_more x b) Mode.decimal (10 * v + d) k.found k.negative (inr refl)
          (more_is x b Mode.leading_zero e
          ∙ ap (λ (t : Bool). also x (cond t (quiet (longer_number Mode.prefix l 0)) (cond (digit_byte b) (decimal_digit Mode.decimal l b) (ends_number l b)))) (ne_eqb b letter_x (λ e. absurd (omega arith)))
          ∙ ap (λ (t : Bool). also x (cond t (decimal_digit Mode.decimal l b) (ends_number l b))) is_digit
          ∙ ap (λ (v : ℕ). also x (quiet (longer_number Mode.decimal l v))) worth)
      by (inr e) =
          counts x (lex_more x b) Mode.decimal (10 * v + d) k.found k.negative (inr refl)
          (more_is x b Mode.decimal e ∙ ap (λ (t : Bool). also x (cond t (decimal_digit Mode.decimal l b) (ends_number l b))) is_digit
          ∙ ap (λ (v : ℕ). also x (quiet (longer_number Mode.decimal l v))) worth)

  -- the first digit, after a sign
  first_signed : (d : ℕ) → d < 10 → (x : Lexed) → Signed x → Counting s d us (lex_more x (digit_zero + d))
  unfolding decimal_digit
  first_signed d h x k =
      let b = digit_zero + d in
      let l = x.lexer in
      let is_digit : digit_byte b ≡ true = rw (digit_class d h) in
      let worth : 10 * l.value + (b - digit_zero) ≡ d = omega (arith, k.value) in
      counts x (lex_more x b) (digit_mode b) d k.found k.negative (digit_modes (eqb b digit_zero))
      (more_is x b Mode.sign k.mode ∙ ap (λ (t : Bool). also x (cond t (decimal_digit (digit_mode b) l b) (ends l b))) is_digit
      ∙ ap (λ (v : ℕ). also x (quiet (longer_number (digit_mode b) l v))) worth)

  -- all digits, the first one being taken
  digits_on : (x : Lexed) → ((d : ℕ) → d < 10 → Counting s d us (lex_more x (digit_zero + d))) → (n : ℕ) → Counting s n us (foldl lex_more x (digits n))
  digits_on x first =
      digits_by (λ n ds. Counting s n us (foldl lex_more x ds)) first
      (λ n ds big k.
      rw foldl-append
      (subst (λ (v : ℕ). Counting s v us (lex_more (foldl lex_more x ds) (digit_zero + n % 10))) (div-add-mod n 10)
      (digit_on (n / 10) (n % 10) (mod-lt n (lit< tt)) (foldl lex_more x ds) k)))

-- the first digit, with nothing open
first_digit : (us : List Token) (d : ℕ) → d < 10 → (x : Lexed) → Between us x → Counting false d us (lex_more x (digit_zero + d))
first_digit us d h x k =
    let b = digit_zero + d in
    let p = x.lexer.next in
    let worth : b - digit_zero ≡ d = omega arith in
    let e : lex_more x b ≡ also x (quiet (begun_number (digit_mode b) p false d)) =
    begin_is x b k.mode Class.digit (digit_class d h) ∙ ap (λ (v : ℕ). also x (quiet (begun_number (digit_mode b) p false v))) worth in
    record {
      mode = ⊎_elim (λ d. inl (ap (λ (y : Lexed). y.lexer.mode) e ∙ d)) (λ d. inr (ap (λ (y : Lexed). y.lexer.mode) e ∙ d)) (digit_modes (eqb b digit_zero));
      negative = ap (λ (y : Lexed). y.lexer.negative) e;
      value = ap (λ (y : Lexed). y.lexer.value) e;
      found = subst⁻¹ (λ (y : Lexed). FindsTokens us y.found) e (still x.found k.found);
    }

minus_class : class_of minus ≡ Class.sign
unfolding class_of
minus_class = refl

minus_on : (us : List Token) (x : Lexed) → Between us x → Signed true us (lex_more x minus)
minus_on us x k =
    let e : lex_more x minus ≡ also x (quiet (begun_number Mode.sign x.lexer.next true 0)) = begin_is x minus k.mode Class.sign minus_class in
    record {
      mode = ap (λ (y : Lexed). y.lexer.mode) e;
      negative = ap (λ (y : Lexed). y.lexer.negative) e;
      value = ap (λ (y : Lexed). y.lexer.value) e;
      found = subst⁻¹ (λ (y : Lexed). FindsTokens us y.found) e (still x.found k.found);
    }

module _ (c : ℕ) (space : class_of c ≡ Class.space) (us : List Token) (x : Lexed) (k : Between us x) where
  number_then : (s : Bool) (v : ℕ) → Between (us ++ (Token.number s v ∷ [])) (lex_more (foldl lex_more x (cond s (minus ∷ digits v) (digits v))) c)
  number_then true v =
      number_ends c space (foldl lex_more (lex_more x minus) (digits v))
      (digits_on true us (lex_more x minus) (λ d h. first_signed true us d h (lex_more x minus) (minus_on us x k)) v)
  number_then false v =
      number_ends c space (foldl lex_more x (digits v)) (digits_on false us x (λ d h. first_digit us d h x k) v)

  token_then : (t : Token) → Spellable t → Between (us ++ (t ∷ [])) (foldl lex_more x (bytes_for t ++ (c ∷ [])))
  unfolding bytes_for
  token_then (Token.name n) h = rw foldl-append (name_then c space us x k n h)
  token_then (Token.word w) h = rw foldl-append (word_then c space us x k w h)
  token_then (Token.number s v) h = rw foldl-append (number_then s v)
  token_then (Token.mark b) h = mark_then c space us x k b h
  token_then Token.end h = absurd h

-- ---- lines

space_class : class_of space_byte ≡ Class.space
unfolding class_of
space_class = refl

feed_class : class_of line_feed ≡ Class.space
unfolding class_of
feed_class = refl

line_on : (ts us : List Token) (x : Lexed) → Every Spellable ts → Between us x → Between (us ++ ts) (foldl lex_more x (line_bytes ts))
line_on [] us x h k = rw append-nil k
line_on (t ∷ []) us x (every_cons p h) k = token_then line_feed feed_class us x k t p
line_on (t ∷ (u ∷ ts)) us x (every_cons p h) k =
    let y = foldl lex_more x (bytes_for t ++ (space_byte ∷ [])) in
    let g : Between (us ++ (t ∷ [])) y = token_then space_byte space_class us x k t p in
    let joined : bytes_for t ++ (space_byte ∷ []) ++ line_bytes (u ∷ ts) ≡ bytes_for t ++ (space_byte ∷ line_bytes (u ∷ ts)) =
    append_assoc (bytes_for t) (space_byte ∷ []) (line_bytes (u ∷ ts)) in
    let r : Between (us ++ (t ∷ []) ++ (u ∷ ts)) (foldl lex_more y (line_bytes (u ∷ ts))) = line_on (u ∷ ts) (us ++ (t ∷ [])) y h g in
    rw (← joined, foldl-append) (rw append_assoc at r)

lines_on :
    (ls : List (List Token)) (us : List Token) (x : Lexed)
    → Every (Every Spellable) ls
    → Between us x
    → Between (us ++ gather (λ l. l) ls) (foldl lex_more x (gather line_bytes ls))
lines_on [] us x h k = rw append-nil k
lines_on (l ∷ ls) us x (every_cons p h) k =
    rw foldl-append
    (rw append_assoc at (lines_on ls (us ++ l) (foldl lex_more x (line_bytes l)) h (line_on l us x p k)))

-- the tokens of a text of lines, whatever their places, and the end
pub lexes : (ls : List (List Token)) → Every (Every Spellable) ls → FindsTokens (gather (λ l. l) ls ++ (Token.end ∷ [])) (tokens_of (gather line_bytes ls))
unfolding tokens_from tokens_of lex_end ended
lexes ls h =
    let x = foldl lex_more (quiet lexer₀) (gather line_bytes ls) in
    let k : Between (gather (λ l. l) ls) x = lines_on ls [] (quiet lexer₀) h (record { mode = refl; found = none }) in
    finds_append k.found (rw k.mode (more x.lexer.next none))
