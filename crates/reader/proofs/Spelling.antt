-- A lexeme is the token that the definition makes of it. Assumes nothing.
use mathlib.Core.Bool.{Bool, true, false, cond, false≢true}
use mathlib.Core.List.{List, [], ◌∷◌, foldl}
use mathlib.Core.Path.{◌≡◌, refl, sym, subst, ◌∙◌}
use Prim.Native.Nat.{ℕ, ◌≤◌, ◌<◌}
use native.Mathlib.Decide.{dec_lt}
use native.Mathlib.Omega.{arith}
use lib.Dec.{ltb}
use lib.ListN.{length}
use borrow.Author.Tests.{lt-ltb, le-ltb, ne_eqb}
use Rattle.instructions.specs.Ranges.{beyond}
use Rattle.language.specs.Tokens.{Token as Tokenᴸ, Found as Foundᴸ, name_or_word}
use Rattle.language.specs.Programs.{max_text, max_name}
use Rattle.language.specs.Reading.{Parse}
use Rattle.language.specs.Reading as meaning
use Rattle.language.specs.Words.{word_of, word_count}
use Rattle.lexer.specs.Lexing as lexing
use Rattle.lexer.specs.Contents.{contents_in}
use Rattle.lexer.specs.Numbers.{amount_of}
use Rattle.std.specs.Prelude.{Option, Some, None}
use Rattle.lexer.specs.declared.Lexeme.{Lexeme}
use Rattle.lexer.specs.declared.Lexeme.TheVariants as lexemes
use Rattle.lexer.specs.declared.Found.TheVariants as founds
use Rattle.text_place.specs.declared.TextPlace.{TextPlace}
use Rattle.std.specs.Prelude.{Result, Ok, Err}
use Rattle.answers.specs.declared.reasons.Reason.TheVariants as reasons
use Rattle.drafts.specs.declared.state.Fault.{Fault}
use Rattle.reader.specs.declared.tokens.Spelled.{Spelled}
use Rattle.reader.specs.declared.taking.Reader.{Reader}
use Rattle.reader.specs.declared.taking.Step.{Step}
use Rattle.reader.specs.declared.taking.Step.TheVariants as steps
use Rattle.grammar.specs.Meaning.{bytes_of}
use Rattle.grammar.specs.declared.Token.{Token}
use Rattle.grammar.specs.declared.Token.TheVariants as tokens
use Rattle.drafts.specs.State.{fault_at, KeptAs, Lent}
use Rattle.reader.specs.Parse.{Means, Reads, Takes, Beside, Suits, is_end}
use Rattle.reader.specs.Text.{nameless, SpelledAs, spelled_bytes, is_end_lexeme, FoundAs, FoundHere, TakesFound}

-- a number as the lexer keeps it
kept_as : (n : ℕ) (v : Option ℕ) → v ≡ amount_of n → KeptAs n v
unfolding amount_of
kept_as n v e = rw e (by (dec_lt n beyond))
  where
    by : Dec (n < beyond) → KeptAs n (cond (ltb n beyond) (Some n) None)
    by (yes q) = rw (lt-ltb n beyond q) KeptAs.exact
    by (no q) = rw (le-ltb n beyond (omega arith)) (KeptAs.large (omega arith))

no_contents : (text h : List ℕ) → contents_in text h 0 0 ≡ []
unfolding contents_in
no_contents text h = refl

module _ (text h : List ℕ) where
  -- no bytes are beside a token that is no name
  spelled_nameless : (x : Lexeme) (t : Token) → bytes_of t [] ≡ [] → ((m : Tokenᴸ) → lexing.Means text h x m → Means [] t m) → is_end t ≡ is_end_lexeme x
      → SpelledAs text h x (nameless t)
  spelled_nameless x t own means end =
      record {
        within = λ k. omega arith;
        room = omega arith;
        short = omega arith;
        own = rw (no_contents text h) own;
        means = λ m k. rw (no_contents text h) (means m k);
        end = end;
      }

  module _ (s n : ℕ) (place : lexing.Lies text h s n) where
    named : (x : Lexeme) → is_end_lexeme x ≡ false → ((m : Tokenᴸ) → lexing.Means text h x m → Means (contents_in text h s n) tokens.Name m)
        → SpelledAs text h x (record { token = tokens.Name; from = s; bytes = n })
    named x e means = record { within = place.part; room = place.room; short = place.size.1; own = refl; means = means; end = sym e }

    pub quoted_name : SpelledAs text h (lexemes.Quoted s n) (record { token = tokens.Name; from = s; bytes = n })
    quoted_name = named (lexemes.Quoted s n) refl by
      where
        by : (m : Tokenᴸ) → lexing.Means text h (lexemes.Quoted s n) m → Means (contents_in text h s n) tokens.Name m
        by m (lexing.Means.quoted s n) = Means.named

    module _ (w : ℕ) (is : w ≡ word_of (contents_in text h s n)) where
      pub plain_name : w ≡ word_count → SpelledAs text h (lexemes.Plain s n) (record { token = tokens.Name; from = s; bytes = n })
      unfolding name_or_word
      plain_name e = named (lexemes.Plain s n) refl by
        where
          by : (m : Tokenᴸ) → lexing.Means text h (lexemes.Plain s n) m → Means (contents_in text h s n) tokens.Name m
          by m (lexing.Means.plain s n) = rw (sym is ∙ e) Means.named

      pub plain_word : (w ≡ word_count → ⊥) → SpelledAs text h (lexemes.Plain s n) (nameless (tokens.Word w))
      unfolding name_or_word
      plain_word e = spelled_nameless (lexemes.Plain s n) (tokens.Word w) refl by refl
        where
          by : (m : Tokenᴸ) → lexing.Means text h (lexemes.Plain s n) m → Means [] (tokens.Word w) m
          by m (lexing.Means.plain s n) = rw (← is, ne_eqb w word_count e) (Means.word w)

  pub number_spelled : (g : Bool) (v : Option ℕ) → SpelledAs text h (lexemes.Number g v) (nameless (tokens.Number g v))
  number_spelled g v = spelled_nameless (lexemes.Number g v) (tokens.Number g v) refl by refl
    where
      by : (m : Tokenᴸ) → lexing.Means text h (lexemes.Number g v) m → Means [] (tokens.Number g v) m
      by m (lexing.Means.number g v n e) = Means.number g v n (kept_as n v e)

  pub mark_spelled : (b : ℕ) → SpelledAs text h (lexemes.Mark b) (nameless (tokens.Mark b))
  mark_spelled b = spelled_nameless (lexemes.Mark b) (tokens.Mark b) refl by refl
    where
      by : (m : Tokenᴸ) → lexing.Means text h (lexemes.Mark b) m → Means [] (tokens.Mark b) m
      by m (lexing.Means.mark b) = Means.mark b

  pub end_spelled : SpelledAs text h lexemes.End (nameless tokens.End)
  end_spelled = spelled_nameless lexemes.End tokens.End refl (λ m. elim [ ]) refl

-- ---- what is found

here : {text h : List ℕ} {p : TextPlace} {x : Lexeme} {one : List Foundᴸ} → FoundAs text h (founds.Lexeme p x) one → lexing.Within text h x × (p.byte ≤ length text)
here (FoundAs.finds (lexing.Finds.lexeme p x t m w l)) = (w, l)
here (FoundAs.end p l) = (tt, l)

pub here_within : {text h : List ℕ} {p : TextPlace} {x : Lexeme} → FoundHere text h (founds.Lexeme p x) → lexing.Within text h x
here_within k = (here k.found).0

-- the one token that is found
pub data FoundToken (text h : List ℕ) (p : TextPlace) (x : Lexeme) : List Foundᴸ → Type 0 where
  token : (m : Tokenᴸ) → lexing.Means text h x m → FoundToken text h p x (Foundᴸ.token p.byte m ∷ [])
  end : is_end_lexeme x ≡ true → FoundToken text h p x (Foundᴸ.token p.byte Tokenᴸ.end ∷ [])

found_token : {text h : List ℕ} {p : TextPlace} {x : Lexeme} {one : List Foundᴸ} → FoundAs text h (founds.Lexeme p x) one → FoundToken text h p x one
found_token (FoundAs.finds (lexing.Finds.lexeme p x t m w l)) = FoundToken.token t m
found_token (FoundAs.end p l) = FoundToken.end refl

means_end : {name : List ℕ} (t : Token) → is_end t ≡ true → Means name t Tokenᴸ.end
means_end tokens.Name q = absurd (false≢true q)
means_end (tokens.Word w) q = absurd (false≢true q)
means_end (tokens.Number g v) q = absurd (false≢true q)
means_end (tokens.Mark k) q = absurd (false≢true q)
means_end tokens.End q = Means.end

module _ {text h : List ℕ} {p : TextPlace} {x : Lexeme} {y : Spelled} (spelled : SpelledAs text h x y) where
  pub beside : FoundHere text h (founds.Lexeme p x) → length text ≤ max_text → {name : List ℕ} → (name ≡ spelled_bytes text h y) × (length name ≤ y.bytes)
      → Beside y.token name p
  beside k l {name} (e, n) = record { short = by spelled.short n; bytes = rw e spelled.own; low = low (here k.found).1 l }
    where
      by : {a b : ℕ} → b ≤ max_name → a ≤ b → a ≤ max_name
      by q r = omega arith

      low : {a b : ℕ} → a ≤ b → b ≤ max_text → a < 4294967296
      low q r = omega arith

  pub lexeme_taken : {name : List ℕ} → name ≡ spelled_bytes text h y → {c : Reader} {a : Lent} {r : Result (Step Reader) Fault} {b : Lent} → Takes name p y.token c a r b
      → TakesFound text h (founds.Lexeme p x) c a r b
  lexeme_taken {name} e {c} {a} {r} {b} takes fs parse reads one f = by one (found_token f)
    where
      by : (one : List Foundᴸ) → FoundToken text h p x one → Reads fs b (foldl meaning.take_token parse one) r
      by one (FoundToken.token m k) = takes fs parse reads m (rw e (spelled.means m k))
      by one (FoundToken.end q) = takes fs parse reads Tokenᴸ.end (means_end y.token (spelled.end ∙ q))

pub lexeme_suits : {text h : List ℕ} {x : Lexeme} {y : Spelled} → SpelledAs text h x y → (r : Result (Step Reader) Fault) → Suits (is_end y.token) r → Suits (is_end_lexeme x) r
lexeme_suits spelled r s = subst (λ (e : Bool). Suits e r) spelled.end s

pub nothing_taken : {text h : List ℕ} {c : Reader} {a : Lent} → TakesFound text h founds.Nothing c a (Ok (steps.Reading c)) a
nothing_taken {text} {h} {c} {a} fs parse reads one f = by f
  where
    by : {one : List Foundᴸ} → FoundAs text h founds.Nothing one → Reads fs a (foldl meaning.take_token parse one) (Ok (steps.Reading c))
    by (FoundAs.finds lexing.Finds.nothing) = reads

pub stray_taken : {text h : List ℕ} {p : TextPlace} {c : Reader} {a b : Lent} → TakesFound text h (founds.Stray p) c a (Err (fault_at reasons.NoToken p)) b
unfolding meaning.take_token
stray_taken {text} {h} {p} {c} {a} {b} fs parse (Reads.reading s d q k i) one f = by f
  where
    by : {one : List Foundᴸ} → FoundAs text h (founds.Stray p) one → Reads fs b (foldl meaning.take_token (Parse.reading s d) one) (Err (fault_at reasons.NoToken p))
    by (FoundAs.finds (lexing.Finds.stray p)) = Reads.refused (fault_at reasons.NoToken p)
