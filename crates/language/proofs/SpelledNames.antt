-- A name is found, and nothing else, in its own spelling, and before any byte that is no name character; so the spellable names are those
-- that the lexer finds alone in their spellings. Assumes nothing.
use mathlib.Core.Bool.{Bool, true, false, cond, not, ◌&&◌}
use mathlib.Core.List.{List, [], ◌∷◌, ◌++◌, foldl, foldl-append, append_assoc}
use mathlib.Core.Logic.{◌↔◌}
use mathlib.Core.Path.{◌≡◌, refl, sym, ◌∙◌, ap, subst, subst⁻¹}
use Prim.Native.Nat.{ℕ, ◌+◌, ◌≤◌}
use native.Mathlib.Numerals.{unary_clauses}
use native.Mathlib.Omega.{arith}
use lib.Dec.{T, eqb, ltb, leb, eqb→eq, leb→le, lit<}
use lib.Ieee.Bits.{is_false}
use lib.ListN.{length}
use mir.Facts.{and_yes, yes_and, T_not}
use borrow.Author.Tests.{ne_eqb}
use Rattle.laws.specs.Lists.{all, empty}
use Rattle.laws.specs.Sections.{Bytes}
use Rattle.laws.proofs.Sections.{bytes_append}
use Rattle.laws.proofs.Tests.{of_true}
use Rattle.language.specs.Bytes.{class_of, name_byte, letter_byte, quote_byte, backslash}
use Rattle.language.specs.Words.{word_of, word_count}
use Rattle.language.specs.Names.{quote_next, unquoted, inside_after, slash_last, spellable, plain_bytes, plain_name, escaped, spelling}
use Rattle.language.specs.Programs.{max_name}
use Rattle.language.specs.Tokens.{Token, Found, token, stray, Mode, Lexer, Lexed, lexer₀, quiet, begun, name_or_word, ended, lex_end, lex_more, tokens_from, tokens_of}
use Rattle.language.proofs.TokenSteps.{lex_onward, Idle, idle, idle_same}
use Rattle.language.proofs.NameLaws.{is_spellable, names_spellable}
use Rattle.language.proofs.NamesLexed.{Kind, quote, slash, other, kind, Sized, ending, GoesOnAs, after, letter_class, plain_after, quoted_lexed, quoted_after, quoted_stray}

-- ---- contents with a backslash before each quote

no_quote_next : (n : List ℕ) → quote_next (escaped n) ≡ false
unfolding escaped
no_quote_next [] = refl
no_quote_next (b ∷ n) = by (eqb b quote_byte) refl
  where
    by : (t : Bool) → eqb b quote_byte ≡ t → quote_next (cond t (backslash ∷ b ∷ []) (b ∷ []) ++ escaped n) ≡ false
    by true e = refl
    by false e = e

pub unquoted_escaped : (n : List ℕ) → unquoted (escaped n) ≡ n
unfolding escaped
unquoted_escaped [] = refl
unquoted_escaped (b ∷ n) = by (kind b) (unquoted_escaped n)
  where
    by : Kind b → unquoted (escaped n) ≡ n → unquoted (escaped (b ∷ n)) ≡ b ∷ n
    by (quote e) ih = rw (e, ih)
    by (slash e) ih = rw (e, no_quote_next n, ih)
    by (other q d) ih = rw (q, d, ih)

-- The last byte, or the one before them all, is a backslash.
abbrev slash_after : Bool → List ℕ → Bool
slash_after t [] = t
slash_after t (b ∷ n) = slash_after (eqb b backslash) n

slash_after_law : (b : ℕ) (n : List ℕ) → slash_after (eqb b backslash) n ≡ slash_last (b ∷ n)
unfolding slash_last
slash_after_law b [] = refl
slash_after_law b (c ∷ n) = simp unary_clauses (simp unary_clauses at (slash_after_law c n))

inside_escaped : (n : List ℕ) (t : Bool) → slash_after t n ≡ false → T (inside_after t (escaped n))
unfolding escaped
inside_escaped [] true e = absurd (subst (λ (t : Bool). T t) e tt)
inside_escaped [] false e = tt
inside_escaped (b ∷ n) t e = by (kind b) (inside_escaped n) e
  where
    by : Kind b → ((t : Bool) → slash_after t n ≡ false → T (inside_after t (escaped n))) → slash_after (eqb b backslash) n ≡ false → T (inside_after t (escaped (b ∷ n)))
    by (quote d) ih e = rw d (ih false (rw d at e))
    by (slash d) ih e = rw d (ih true (rw d at e))
    by (other q d) ih e = rw (q, q, d) (ih false (rw d at e))

pub escaped_inside : (n : List ℕ) → slash_last n ≡ false → T (inside_after false (escaped n))
escaped_inside [] e = inside_escaped [] false refl
escaped_inside (b ∷ n) e = inside_escaped (b ∷ n) false (slash_after_law b n ∙ e)

-- ---- name characters between quotes stay as they are

name_differs : (b c : ℕ) → T (name_byte b) → T (not (name_byte c)) → eqb b c ≡ false
name_differs b c h k = ne_eqb b c (λ e. absurd (T_not (name_byte c) (subst (λ (b : ℕ). T (name_byte b)) e h) k))

no_name_quote : T (not (name_byte quote_byte))
unfolding class_of
no_name_quote = tt

no_name_slash : T (not (name_byte backslash))
unfolding class_of
no_name_slash = tt

pub in_name_inside : (n : List ℕ) → T (all name_byte n) → T (inside_after false n)
in_name_inside [] h = tt
in_name_inside (b ∷ n) h =
    let a = and_yes (name_byte b) (all name_byte n) h in
    rw (name_differs b quote_byte a.0 no_name_quote, name_differs b backslash a.0 no_name_slash) (in_name_inside n a.1)

pub in_name_unquoted : (n : List ℕ) → T (all name_byte n) → unquoted n ≡ n
in_name_unquoted [] h = refl
in_name_unquoted (b ∷ n) h =
    let a = and_yes (name_byte b) (all name_byte n) h in
    rw (name_differs b backslash a.0 no_name_slash) (ap (λ (n : List ℕ). b ∷ n) (in_name_unquoted n a.1))

pub plain_in_name : (n : List ℕ) → T (plain_bytes n) → T (all name_byte n)
plain_in_name [] p = tt
plain_in_name (b ∷ n) p =
    let a = and_yes (letter_byte b) (all name_byte n) p in
    yes_and (name_byte b) (all name_byte n) (rw (letter_class b a.0) tt) a.1

-- ---- the spelling of a name

-- what `spellable` asks
pub record Asked (n : List ℕ) : Type 0 where
  pub sized : Sized n
  pub ends : slash_last n ≡ false

pub spellable_asks : (n : List ℕ) → T (spellable n) → Asked n
unfolding spellable
spellable_asks n h =
    let ends = not (slash_last n) in
    let fits = leb (length n) max_name in
    let a = and_yes (not (empty n) && fits && ends) (all (λ b. ltb b 256) n) h in
    let b = and_yes (not (empty n) && fits) ends a.0 in
    let c = and_yes (not (empty n)) fits b.0 in
    record { sized = (some n c.0, leb→le (length n) max_name c.1); ends = is_false (slash_last n) b.1 }
  where
    some : (n : List ℕ) → T (not (empty n)) → 1 ≤ length n
    some [] h = absurd h
    some (b ∷ n) h = omega arith

pub spelling_after :
    (x : Lexed) → x.lexer.mode ≡ Mode.between → (n : List ℕ) → T (spellable n)
    → GoesOnAs (after x.found x.lexer.next (x.lexer.next + length (spelling n)) (Token.name n)) (foldl lex_more x (spelling n))
unfolding spelling plain_name name_or_word
spelling_after x e n h = by (plain_bytes n) refl (eqb (word_of n) word_count) refl
  where
    a : Asked n
    a = spellable_asks n h

    p : ℕ
    p = x.lexer.next

    in_quotes : List ℕ
    in_quotes = quote_byte ∷ (escaped n ++ (quote_byte ∷ []))

    quoted : GoesOnAs (after x.found p (p + length in_quotes) (Token.name n)) (foldl lex_more x in_quotes)
    quoted =
        subst (λ (m : List ℕ). GoesOnAs (after x.found p (p + length in_quotes) (Token.name m)) (foldl lex_more x in_quotes)) (unquoted_escaped n)
        (quoted_after x e (escaped n) (escaped_inside n a.ends) (subst⁻¹ (λ (m : List ℕ). Sized m) (unquoted_escaped n) a.sized))

    by :
        (s : Bool) → plain_bytes n ≡ s → (t : Bool) → eqb (word_of n) word_count ≡ t
        → (let bs = cond (s && t) n in_quotes in GoesOnAs (after x.found p (p + length bs) (Token.name n)) (foldl lex_more x bs))
    by true b true w =
        subst (λ (t : Token). GoesOnAs (after x.found p (p + length n) t) (foldl lex_more x n)) (rw w)
        (plain_after x e n (of_true (plain_bytes n) b) a.sized.1)
    by true b false w = quoted
    by false b t w = quoted

-- ---- what is found

-- nothing is open in l before the byte at p
idle_at : (l : Lexer) (p : ℕ) → l.mode ≡ Mode.between → l.next ≡ p → (bs : List ℕ) → tokens_from (idle Mode.between p) bs ≡ tokens_from l bs
idle_at l p m e bs = ap (λ (p : ℕ). tokens_from (idle Mode.between p) bs) (sym e) ∙ sym (idle_same Idle.between l m bs)

-- one token found, and then the rest
onward : (f : Found) (l : Lexer) (bs : List ℕ) → ending (foldl lex_more (record { lexer = l; found = f ∷ [] }) bs) ≡ f ∷ tokens_from l bs
unfolding tokens_from
onward f l bs =
    let on = lex_onward (record { lexer = l; found = f ∷ [] }) bs in
    rw on

module _ (l : Lexer) (between : l.mode ≡ Mode.between) where
  -- a plain name or a word, before a byte that is no name character
  pub plain_before :
      (n : List ℕ) → T (plain_bytes n) → length n ≤ max_name → (b : ℕ) → name_byte b ≡ false
      → (l' : Lexer) → l'.mode ≡ Mode.between → l'.next ≡ l.next + length n
      → (rest : List ℕ) → tokens_from l (n ++ (b ∷ rest)) ≡ token l.next (name_or_word n) ∷ tokens_from l' (b ∷ rest)
  unfolding tokens_from
  plain_before n h z b q l' m k rest =
      let p = l.next + length n in
      let f = token l.next (name_or_word n) in
      ap ending (foldl-append lex_more (quiet l) n (b ∷ rest))
      ∙ ap (λ (x : Lexed). ending (foldl lex_more x rest)) ((plain_after (quiet l) between n h z).at_byte b q)
      ∙ onward f (idle Mode.between p) (b ∷ rest)
      ∙ ap (λ (fs : List Found). f ∷ fs) (idle_at l' p m k (b ∷ rest))

  -- a name in quotes, before any bytes
  pub quoted_before :
      (bs : List ℕ) → T (inside_after false bs) → Sized (unquoted bs)
      → (l' : Lexer) → l'.mode ≡ Mode.between → l'.next ≡ l.next + length bs + 2
      → (rest : List ℕ) → tokens_from l (quote_byte ∷ (bs ++ (quote_byte ∷ rest))) ≡ token l.next (Token.name (unquoted bs)) ∷ tokens_from l' rest
  unfolding tokens_from
  quoted_before bs h z l' m k rest =
      let e = l.next + 1 + length bs in
      let f = token l.next (Token.name (unquoted bs)) in
      ap (λ (ts : List ℕ). ending (foldl lex_more (quiet l) (quote_byte ∷ ts))) (sym (append_assoc bs (quote_byte ∷ []) rest))
      ∙ ap ending (foldl-append lex_more (quiet l) (quote_byte ∷ (bs ++ (quote_byte ∷ []))) rest)
      ∙ ap (λ (x : Lexed). ending (foldl lex_more x rest)) (quoted_lexed (quiet l) between bs h z)
      ∙ onward f (begun Mode.between e) rest
      ∙ ap (λ (fs : List Found). f ∷ fs) (idle_same Idle.between (begun Mode.between e) refl rest ∙ idle_at l' (e + 1) m (omega arith) rest)

  -- quotes with no contents, or with too many, are no token
  pub quoted_spoils :
      (bs : List ℕ) → T (inside_after false bs) → ¬ Sized (unquoted bs)
      → (rest : List ℕ) → (gs : List Found) × (tokens_from l (quote_byte ∷ (bs ++ (quote_byte ∷ rest))) ≡ stray l.next ∷ gs)
  unfolding tokens_from
  quoted_spoils bs h z rest =
      let x = foldl lex_more (quiet l) (quote_byte ∷ (bs ++ (quote_byte ∷ []))) in
      let y = foldl lex_more (quiet x.lexer) rest in
      let r = quoted_stray (quiet l) between bs h z in (
        r.0 ++ y.found ++ lex_end y.lexer,
        ap (λ (ts : List ℕ). ending (foldl lex_more (quiet l) (quote_byte ∷ ts))) (sym (append_assoc bs (quote_byte ∷ []) rest))
            ∙ ap ending (foldl-append lex_more (quiet l) (quote_byte ∷ (bs ++ (quote_byte ∷ []))) rest ∙ lex_onward x rest)
            ∙ ap (λ (fs : List Found). fs ++ y.found ++ lex_end y.lexer) r.1,
      )

  -- a name by its spelling, before a byte that is no name character
  pub spelling_before :
      (n : List ℕ) → T (spellable n) → (b : ℕ) → name_byte b ≡ false
      → (l' : Lexer) → l'.mode ≡ Mode.between → l'.next ≡ l.next + length (spelling n)
      → (rest : List ℕ) → tokens_from l (spelling n ++ (b ∷ rest)) ≡ token l.next (Token.name n) ∷ tokens_from l' (b ∷ rest)
  unfolding tokens_from
  spelling_before n h b q l' m k rest =
      let p = l.next + length (spelling n) in
      let f = token l.next (Token.name n) in
      ap ending (foldl-append lex_more (quiet l) (spelling n) (b ∷ rest))
      ∙ ap (λ (x : Lexed). ending (foldl lex_more x rest)) ((spelling_after (quiet l) between n h).at_byte b q)
      ∙ onward f (idle Mode.between p) (b ∷ rest)
      ∙ ap (λ (fs : List Found). f ∷ fs) (idle_at l' p m k (b ∷ rest))

  -- and at the end
  pub spelling_last : (n : List ℕ) → T (spellable n) → tokens_from l (spelling n) ≡ token l.next (Token.name n) ∷ token (l.next + length (spelling n)) Token.end ∷ []
  unfolding tokens_from lex_end ended
  spelling_last n h = (spelling_after (quiet l) between n h).at_end

-- ---- the spellings of all names

-- What is found in a name's spelling.
abbrev pub alone : List ℕ → List Found
alone n = token 0 (Token.name n) ∷ token (length (spelling n)) Token.end ∷ []

pub spelling_alone : (n : List ℕ) → T (spellable n) → tokens_of (spelling n) ≡ alone n
unfolding tokens_of
spelling_alone n h =
    let here : 0 + length (spelling n) ≡ length (spelling n) = omega arith in
    spelling_last lexer₀ refl n h ∙ ap (λ (k : ℕ). token 0 (Token.name n) ∷ token k Token.end ∷ []) here

bytes_escaped : (n : List ℕ) → Bytes n → Bytes (escaped n)
unfolding escaped
bytes_escaped [] h = tt
bytes_escaped (b ∷ n) h = by (eqb b quote_byte) (bytes_escaped n h.1)
  where
    by : (t : Bool) → Bytes (escaped n) → Bytes (cond t (backslash ∷ b ∷ []) (b ∷ []) ++ escaped n)
    by true k = (lit< tt, (h.0, k))
    by false k = (h.0, k)

pub bytes_spelling : (n : List ℕ) → Bytes n → Bytes (spelling n)
unfolding spelling
bytes_spelling n h = by (plain_name n)
  where
    by : (t : Bool) → Bytes (cond t n (quote_byte ∷ (escaped n ++ (quote_byte ∷ []))))
    by true = h
    by false = (lit< tt, bytes_append (escaped n) (quote_byte ∷ []) (bytes_escaped n h) (lit< tt, tt))

-- "a name no text can spell" is one that the lexer does not find alone in its own spelling
pub spellable_exactly : (n : List ℕ) → Bytes n → T (spellable n) ↔ (tokens_of (spelling n) ≡ alone n)
spellable_exactly n h = (spelling_alone n, found)
  where
    found : tokens_of (spelling n) ≡ alone n → T (spellable n)
    found e = (and_yes (spellable n) true (subst (λ (fs : List Found). T (all is_spellable fs)) e (names_spellable (spelling n) (bytes_spelling n h)))).0

-- a plain name is its own spelling, so it can be spelled
pub plain_spellable : (n : List ℕ) → Bytes n → T (plain_name n) → length n ≤ max_name → T (spellable n)
unfolding plain_name tokens_of tokens_from lex_end ended name_or_word
plain_spellable n h p f =
    let a = and_yes (plain_bytes n) (eqb (word_of n) word_count) p in
    let w : word_of n ≡ word_count = eqb→eq (word_of n) word_count a.1 in
    let e : tokens_of n ≡ token 0 (name_or_word n) ∷ token (0 + length n) Token.end ∷ [] = (plain_after (quiet lexer₀) refl n a.0 f).at_end in
    let named : name_or_word n ≡ Token.name n = rw w in
    let found = subst (λ (t : Token). T (all is_spellable (token 0 t ∷ token (0 + length n) Token.end ∷ []))) named (subst (λ (fs : List Found). T (all is_spellable fs)) e (names_spellable n h)) in
    (and_yes (spellable n) true found).0
