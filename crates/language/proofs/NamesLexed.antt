-- What the lexer makes of the bytes of a name: of a plain one these bytes, of a quoted one the contents of what stands between the quotes,
-- or a stray where these are none or too many. Assumes nothing.
use mathlib.Core.Bool.{Bool, true, false, cond, ◌&&◌}
use mathlib.Core.List.{List, [], ◌∷◌, ◌++◌, foldl, append_assoc, append-nil}
use mathlib.Core.Path.{◌≡◌, refl, sym, ◌∙◌, ap, subst, subst⁻¹}
use Prim.Native.Nat.{ℕ, ◌+◌, ◌≤◌, ◌<◌}
use native.Mathlib.Decide.{dec_le}
use native.Mathlib.Omega.{arith}
use lib.Dec.{T, eqb}
use lib.Ieee.Bits.{is_true}
use lib.ListN.{length, length-append}
use mir.Facts.{and_yes}
use borrow.Author.Tests.{le-leb, lt-leb, eqb-true, ne_eqb}
use Rattle.laws.specs.Lists.{all}
use Rattle.language.specs.Bytes.{Class, class_of, name_byte, letter_byte, in_letters, quote_byte, backslash}
use Rattle.language.specs.Names.{unquoted, inside_after, plain_bytes}
use Rattle.language.specs.Programs.{max_name}
use Rattle.language.specs.Tokens.{Token, Found, token, stray, Mode, Lexer, Lexed, quiet, begun, spoils, begin, name_or_word, ended, ends, extends, quotes, escapes, closes, lex_step, lex_end, lex_more}
use Rattle.language.proofs.TokenSteps.{lex_onward, idle}

-- ---- states of the lexer

-- A name so far: what was found before it, the place of its first byte, that of the next byte, the contents.
abbrev pub naming : List Found → Mode → (start next : ℕ) → List ℕ → Lexed
naming fs m s e n = record { lexer = record { mode = m; next = e; start = s; bytes = n; negative = false; value = 0 }; found = fs }

-- A name that is found, and closed by the byte at e.
abbrev pub named : List Found → (start end : ℕ) → List ℕ → Lexed
named fs s e n = record { lexer = begun Mode.between e; found = fs ++ (token s (Token.name n) ∷ []) }

quiet_more : (x : Lexed) (b : ℕ) (l : Lexer) → lex_step x.lexer b ≡ quiet l → lex_more x b ≡ record { lexer = l; found = x.found }
unfolding lex_more
quiet_more x b l e = rw (e, append-nil)

-- ---- a plain spelling

module _ (fs : List Found) (s : ℕ) where
  -- bytes more of a name, with room for them
  extended : (m k : Mode) (e : ℕ) (c bs : List ℕ) → length c + length bs ≤ max_name
      → extends k (naming fs m s e c).lexer bs ≡ quiet (naming fs k s (e + 1) (c ++ bs)).lexer
  unfolding extends
  extended m k e c bs h = rw (le-leb (length c + length bs) max_name h)

  plain_byte : (e : ℕ) (c : List ℕ) (b : ℕ) → name_byte b ≡ true → length c + 1 ≤ max_name
      → lex_more (naming fs Mode.plain s e c) b ≡ naming fs Mode.plain s (e + 1) (c ++ (b ∷ []))
  unfolding lex_step
  plain_byte e c b t h =
      quiet_more (naming fs Mode.plain s e c) b (naming fs Mode.plain s (e + 1) (c ++ (b ∷ []))).lexer
      (rw t (extended Mode.plain Mode.plain e c (b ∷ []) h))

  plain_on : (n : List ℕ) (e : ℕ) (c : List ℕ) → T (all name_byte n) → length c + length n ≤ max_name
      → foldl lex_more (naming fs Mode.plain s e c) n ≡ naming fs Mode.plain s (e + length n) (c ++ n)
  plain_on [] e c t h = let z : e + 0 ≡ e = omega arith in rw (append-nil, z)
  plain_on (b ∷ n) e c t h =
      let a = and_yes (name_byte b) (all name_byte n) t in
      let z : e + 1 + length n ≡ e + length (b ∷ n) = omega arith in
      ap (λ (x : Lexed). foldl lex_more x n) (plain_byte e c b (is_true (name_byte b) a.0) (omega arith))
      ∙ plain_on n (e + 1) (c ++ (b ∷ [])) a.1 (simp length-append (omega arith))
      ∙ ap (λ (k : ℕ). naming fs Mode.plain s k (c ++ (b ∷ []) ++ n)) z
      ∙ ap (naming fs Mode.plain s (e + length (b ∷ n))) (append_assoc c (b ∷ []) n)

-- ---- between quotes

-- Inside quotes, where a backslash waits or none does, and the bytes that wait.
abbrev inside : Bool → Mode
inside waits = cond waits Mode.escaping Mode.quoted

abbrev pending : Bool → List ℕ
pending waits = cond waits (backslash ∷ []) []

-- A byte is a quote, a backslash or another one.
pub data Kind (b : ℕ) : Type 0 where
  quote : b ≡ quote_byte → Kind b
  slash : b ≡ backslash → Kind b
  other : eqb b quote_byte ≡ false → eqb b backslash ≡ false → Kind b

pub kind : (b : ℕ) → Kind b
kind b = by (eqb b quote_byte) refl (eqb b backslash) refl
  where
    by : (s : Bool) → eqb b quote_byte ≡ s → (t : Bool) → eqb b backslash ≡ t → Kind b
    by true d t e = quote (eqb-true b quote_byte d)
    by false d true e = slash (eqb-true b backslash e)
    by false d false e = other d e

-- At b the contents get ds more, and a backslash waits or none does.
record Adds (t : Bool) (b : ℕ) (t' : Bool) (ds : List ℕ) : Type 0 where
  step : (l : Lexer) → l.mode ≡ inside t → lex_step l b ≡ extends (inside t') l ds
  rest : (bs : List ℕ) → unquoted (pending t ++ (b ∷ bs)) ≡ ds ++ unquoted (pending t' ++ bs)
  stays : (bs : List ℕ) → inside_after t (b ∷ bs) ≡ inside_after t' bs

-- What a byte does there: more contents, a backslash that waits, the end.
data Goes : Bool → ℕ → Type 0 where
  longer : {t : Bool} {b : ℕ} (t' : Bool) (ds : List ℕ) → Adds t b t' ds → Goes t b
  waiting : Goes false backslash
  closing : Goes false quote_byte

goes_quote : (t : Bool) → Goes t quote_byte
unfolding lex_step escapes
goes_quote true = longer {t = true} {b = quote_byte} false (quote_byte ∷ []) (record { step = λ l m. rw m; rest = λ bs. refl; stays = λ bs. refl })
goes_quote false = closing

goes_slash : (t : Bool) → Goes t backslash
unfolding lex_step escapes
goes_slash true = longer {t = true} {b = backslash} true (backslash ∷ []) (record { step = λ l m. rw m; rest = λ bs. refl; stays = λ bs. refl })
goes_slash false = waiting

goes_other : (t : Bool) (b : ℕ) → eqb b quote_byte ≡ false → eqb b backslash ≡ false → Goes t b
unfolding lex_step quotes escapes
goes_other true b q d = longer {t = true} {b = b} false (backslash ∷ b ∷ []) (record { step = λ l m. rw (m, q, d); rest = λ bs. rw (q, d); stays = λ bs. rw (q, d) })
goes_other false b q d = longer {t = false} {b = b} false (b ∷ []) (record { step = λ l m. rw (m, q, d); rest = λ bs. rw d; stays = λ bs. rw (q, d) })

goes : (t : Bool) (b : ℕ) → Goes t b
goes t b = by (kind b)
  where
    by : Kind b → Goes t b
    by (quote e) = subst⁻¹ (Goes t) e (goes_quote t)
    by (slash e) = subst⁻¹ (Goes t) e (goes_slash t)
    by (other q d) = goes_other t b q d

-- "A name has 1 to 64 bytes": these contents.
abbrev pub Sized : List ℕ → Type 0
Sized n = (1 ≤ length n) × (length n ≤ max_name)

-- All the contents, from here on.
abbrev contents : Bool → List ℕ → List ℕ → List ℕ
contents t c bs = c ++ unquoted (pending t ++ bs)

contents_more : {t t' : Bool} {b : ℕ} {ds : List ℕ} → Adds t b t' ds → (c bs : List ℕ) → contents t' (c ++ ds) bs ≡ contents t c (b ∷ bs)
contents_more {t} {t'} {b} {ds} a c bs = append_assoc c ds (unquoted (pending t' ++ bs)) ∙ ap (λ (n : List ℕ). c ++ n) (sym (a.rest bs))

module _ (fs : List Found) (s : ℕ) where
  -- the quote that closes
  closed : (e : ℕ) (c : List ℕ) → 1 ≤ length c → lex_more (naming fs Mode.quoted s e c) quote_byte ≡ named fs s e c
  unfolding lex_more lex_step quotes closes
  closed e c h = rw (ne_eqb (length c) 0 (λ z. absurd (omega arith)))

  waited : (e : ℕ) (c : List ℕ) → lex_more (naming fs Mode.quoted s e c) backslash ≡ naming fs Mode.escaping s (e + 1) c
  unfolding lex_more lex_step quotes
  waited e c = rw append-nil

  added :
      {t t' : Bool} {b : ℕ} {ds : List ℕ} → Adds t b t' ds → (e : ℕ) (c : List ℕ) → length c + length ds ≤ max_name
      → lex_more (naming fs (inside t) s e c) b ≡ naming fs (inside t') s (e + 1) (c ++ ds)
  added {t} {t'} {b} {ds} a e c h =
      quiet_more (naming fs (inside t) s e c) b (naming fs (inside t') s (e + 1) (c ++ ds)).lexer
      (a.step (naming fs (inside t) s e c).lexer refl ∙ extended fs s (inside t) (inside t') e c ds h)

  -- ---- contents of 1 to 64 bytes

  -- from here the quote that closes finds them
  Closing : List ℕ → Bool → ℕ → List ℕ → Type 0
  Closing bs t e c =
      T (inside_after t bs) → Sized (contents t c bs)
      → foldl lex_more (naming fs (inside t) s e c) (bs ++ (quote_byte ∷ [])) ≡ named fs s (e + length bs) (contents t c bs)

  closing_nil : (t : Bool) (e : ℕ) (c : List ℕ) → Closing [] t e c
  unfolding Closing
  closing_nil true e c h z = absurd h
  closing_nil false e c h z =
      let none : c ++ [] ≡ c = append-nil c in
      let here : e + 0 ≡ e = omega arith in
      rw (none, here) (closed e c (rw none at z.0))

  closing_more : (bs : List ℕ) → ((t : Bool) (e : ℕ) (c : List ℕ) → Closing bs t e c) → (t : Bool) (b : ℕ) → Goes t b → (e : ℕ) (c : List ℕ) → Closing (b ∷ bs) t e c
  unfolding Closing
  closing_more bs ih t b (longer t' ds a) e c h z =
      let same : contents t' (c ++ ds) bs ≡ contents t c (b ∷ bs) = contents_more a c bs in
      let z' : Sized (contents t' (c ++ ds) bs) = subst⁻¹ Sized same z in
      let room : length c + length ds ≤ max_name = omega (arith, simp length-append at z'.1) in
      let on : e + 1 + length bs ≡ e + length (b ∷ bs) = omega arith in
      ap (λ (x : Lexed). foldl lex_more x (bs ++ (quote_byte ∷ []))) (added a e c room)
      ∙ ih t' (e + 1) (c ++ ds) (subst T (a.stays bs) h) z'
      ∙ (λ i. named fs s (on i) (same i))
  closing_more bs ih false b waiting e c h z =
      let on : e + 1 + length bs ≡ e + length (b ∷ bs) = omega arith in
      ap (λ (x : Lexed). foldl lex_more x (bs ++ (quote_byte ∷ []))) (waited e c) ∙ ih true (e + 1) c h z
      ∙ ap (λ (k : ℕ). named fs s k (contents true c bs)) on
  closing_more bs ih false b closing e c h z = absurd h

  closing_on : (bs : List ℕ) (t : Bool) (e : ℕ) (c : List ℕ) → Closing bs t e c
  closing_on [] t e c = closing_nil t e c
  closing_on (b ∷ bs) t e c = closing_more bs (closing_on bs) t b (goes t b) e c

  -- ---- contents of more

  -- These bytes give a stray for the quote at s.
  Strays : Lexed → List ℕ → Type 0
  Strays x bs = (gs : List Found) × ((foldl lex_more x bs).found ≡ fs ++ (stray s ∷ gs))

  Straying : List ℕ → Bool → ℕ → List ℕ → Type 0
  Straying bs t e c = T (inside_after t bs) → length c ≤ max_name → max_name < length (contents t c bs) → Strays (naming fs (inside t) s e c) (bs ++ (quote_byte ∷ []))

  spoiled :
      {t t' : Bool} {b : ℕ} {ds : List ℕ} → Adds t b t' ds → (e : ℕ) (c bs : List ℕ) → max_name < length c + length ds
      → Strays (naming fs (inside t) s e c) (b ∷ bs)
  unfolding Strays lex_more extends
  spoiled {t} {t'} {b} {ds} a e c bs h =
      let l = (naming fs (inside t) s e c).lexer in
      let x : Lexed = record { lexer = begun Mode.between e; found = fs ++ (stray s ∷ []) } in
      let gs = (foldl lex_more (quiet x.lexer) bs).found in
      let first : lex_step l b ≡ spoils l = a.step l refl ∙ rw (lt-leb (length c + length ds) max_name h) in (
        gs,
        ap (λ (y : Lexed). (foldl lex_more (record { lexer = y.lexer; found = fs ++ y.found }) bs).found) first
            ∙ ap (λ (y : Lexed). y.found) (lex_onward x bs)
            ∙ append_assoc fs (stray s ∷ []) gs,
      )

  straying_nil : (t : Bool) (e : ℕ) (c : List ℕ) → Straying [] t e c
  unfolding Straying
  straying_nil true e c h f m = absurd h
  straying_nil false e c h f m = absurd (omega (arith, length-append c []))

  straying_more : (bs : List ℕ) → ((t : Bool) (e : ℕ) (c : List ℕ) → Straying bs t e c) → (t : Bool) (b : ℕ) → Goes t b → (e : ℕ) (c : List ℕ) → Straying (b ∷ bs) t e c
  unfolding Straying Strays
  straying_more bs ih t b (longer t' ds a) e c h f m =
      elim (dec_le (length c + length ds) max_name) [
        | yes room ↦
            let same : contents t' (c ++ ds) bs ≡ contents t c (b ∷ bs) = contents_more a c bs in
            subst⁻¹ (λ (x : Lexed). Strays x (bs ++ (quote_byte ∷ []))) (added a e c room)
            (ih t' (e + 1) (c ++ ds) (subst T (a.stays bs) h) (simp length-append room) (subst⁻¹ (λ (n : List ℕ). max_name < length n) same m))
        | no full ↦ spoiled a e c (bs ++ (quote_byte ∷ [])) (omega arith)
      ]
  straying_more bs ih false b waiting e c h f m =
      subst⁻¹ (λ (x : Lexed). Strays x (bs ++ (quote_byte ∷ []))) (waited e c) (ih true (e + 1) c h f m)
  straying_more bs ih false b closing e c h f m = absurd h

  straying_on : (bs : List ℕ) (t : Bool) (e : ℕ) (c : List ℕ) → Straying bs t e c
  straying_on [] t e c = straying_nil t e c
  straying_on (b ∷ bs) t e c = straying_more bs (straying_on bs) t b (goes t b) e c

-- ---- a name where nothing is open

-- All that is found if the text ends here.
abbrev pub ending : Lexed → List Found
ending x = x.found ++ lex_end x.lexer

-- y goes on as z does at the end of the text and at every byte that is no name character.
pub record GoesOnAs (z y : Lexed) : Type 0 where
  pub at_end : ending y ≡ ending z
  pub at_byte : (b : ℕ) → name_byte b ≡ false → lex_more y b ≡ lex_more z b

-- A token is found, and nothing is open before the byte at e.
abbrev pub after : List Found → (start end : ℕ) → Token → Lexed
after fs s e t = record { lexer = idle Mode.between e; found = fs ++ (token s t ∷ []) }

pub letter_class : (b : ℕ) → T (letter_byte b) → class_of b ≡ Class.letter
letter_class b h = by (class_of b) h
  where
    by : (c : Class) → T (in_letters c) → c ≡ Class.letter
    by Class.letter h = refl
    by Class.digit h = absurd h
    by Class.space h = absurd h
    by Class.quote h = absurd h
    by Class.sign h = absurd h
    by Class.slash h = absurd h
    by Class.mark h = absurd h
    by Class.other h = absurd h

quote_class : class_of quote_byte ≡ Class.quote
unfolding class_of
quote_class = refl

unquoted_some : (b : ℕ) (bs : List ℕ) → 1 ≤ length (unquoted (b ∷ bs))
unquoted_some b [] = by (eqb b backslash)
  where
    by : (t : Bool) → 1 ≤ length (cond (t && false) [] (b ∷ []))
    by true = omega arith
    by false = omega arith
unquoted_some b (c ∷ bs) = by (eqb b backslash) (unquoted_some c bs)
  where
    by : (t : Bool) → 1 ≤ length (unquoted (c ∷ bs)) → 1 ≤ length (cond (t && eqb c quote_byte) (unquoted (c ∷ bs)) (b ∷ unquoted (c ∷ bs)))
    by t h = either (t && eqb c quote_byte)
      where
        either : (t : Bool) → 1 ≤ length (cond t (unquoted (c ∷ bs)) (b ∷ unquoted (c ∷ bs)))
        either true = h
        either false = omega arith

module _ (x : Lexed) (between : x.lexer.mode ≡ Mode.between) where
  abbrev here : ℕ
  here = x.lexer.next

  letter_begins : (b : ℕ) → T (letter_byte b) → lex_more x b ≡ naming x.found Mode.plain here (here + 1) (b ∷ [])
  unfolding lex_step begin
  letter_begins b h = quiet_more x b (naming x.found Mode.plain here (here + 1) (b ∷ [])).lexer (rw (between, letter_class b h))

  quote_begins : lex_more x quote_byte ≡ naming x.found Mode.quoted here (here + 1) []
  unfolding lex_step begin
  quote_begins = quiet_more x quote_byte (naming x.found Mode.quoted here (here + 1) []).lexer (rw (between, quote_class))

  plain_lexed : (n : List ℕ) → T (plain_bytes n) → length n ≤ max_name → foldl lex_more x n ≡ naming x.found Mode.plain here (here + length n) n
  plain_lexed [] p h = absurd p
  plain_lexed (b ∷ n) p h =
      let a = and_yes (letter_byte b) (all name_byte n) p in
      let z : here + 1 + length n ≡ here + length (b ∷ n) = omega arith in
      ap (λ (x : Lexed). foldl lex_more x n) (letter_begins b a.0)
      ∙ plain_on x.found here n (here + 1) (b ∷ []) a.1 (omega arith)
      ∙ ap (λ (k : ℕ). naming x.found Mode.plain here k (b ∷ n)) z

  pub quoted_lexed :
      (bs : List ℕ) → T (inside_after false bs) → Sized (unquoted bs)
      → foldl lex_more x (quote_byte ∷ (bs ++ (quote_byte ∷ []))) ≡ named x.found here (here + 1 + length bs) (unquoted bs)
  unfolding Closing
  quoted_lexed bs h z = ap (λ (x : Lexed). foldl lex_more x (bs ++ (quote_byte ∷ []))) quote_begins ∙ closing_on x.found here bs false (here + 1) [] h z

  -- a plain name or a word
  pub plain_after :
      (n : List ℕ) → T (plain_bytes n) → length n ≤ max_name
      → GoesOnAs (after x.found here (here + length n) (name_or_word n)) (foldl lex_more x n)
  unfolding lex_more lex_step lex_end ends ended
  plain_after n p h =
      let f : foldl lex_more x n ≡ naming x.found Mode.plain here (here + length n) n = plain_lexed n p h in
      let t = token here (name_or_word n) in
      rw f
      (record {
        at_end = sym (append_assoc x.found (t ∷ []) (token (here + length n) Token.end ∷ []));
        at_byte = λ b q. rw q (ap (λ (fs : List Found). record { lexer = (begin (here + length n) b).lexer; found = fs }) (sym (append_assoc x.found (t ∷ []) (begin (here + length n) b).found)));
      })

  -- a name in quotes, with any bytes that may stand there
  pub quoted_after :
      (bs : List ℕ) → T (inside_after false bs) → Sized (unquoted bs)
      → GoesOnAs (after x.found here (here + length (quote_byte ∷ (bs ++ (quote_byte ∷ [])))) (Token.name (unquoted bs))) (foldl lex_more x (quote_byte ∷ (bs ++ (quote_byte ∷ []))))
  unfolding lex_more lex_step lex_end ended
  quoted_after bs h z =
      let f : foldl lex_more x (quote_byte ∷ (bs ++ (quote_byte ∷ []))) ≡ named x.found here (here + 1 + length bs) (unquoted bs) = quoted_lexed bs h z in
      let long : here + 1 + length bs + 1 ≡ here + length (quote_byte ∷ (bs ++ (quote_byte ∷ []))) = simp length-append (omega arith) in
      rw (f, ← long) (record { at_end = refl; at_byte = λ b q. refl })

  -- quotes with no contents, or with too many
  pub quoted_stray :
      (bs : List ℕ) → T (inside_after false bs) → ¬ Sized (unquoted bs)
      → (gs : List Found) × ((foldl lex_more x (quote_byte ∷ (bs ++ (quote_byte ∷ [])))).found ≡ x.found ++ (stray here ∷ gs))
  unfolding Strays Straying lex_more lex_step quotes closes
  quoted_stray [] h z = ([], ap (λ (x : Lexed). (lex_more x quote_byte).found) quote_begins)
  quoted_stray (b ∷ bs) h z =
      let n = unquoted (b ∷ bs) in
      subst⁻¹ (λ (y : Lexed). Strays x.found here y (b ∷ bs ++ (quote_byte ∷ []))) quote_begins
      (straying_on x.found here (b ∷ bs) false (here + 1) [] h (omega arith)
      (elim (dec_le (length n) max_name) [ yes f ↦ absurd (z ((unquoted_some b bs, f))) | no f ↦ omega arith ]))
