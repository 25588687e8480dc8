-- Facts of tokens, by computation: the edges of document 01's rules, each text with what is found in it. Assumes nothing.
use mathlib.Core.Bool.{true, false}
use mathlib.Core.List.{List, [], ◌∷◌, ◌++◌, map}
use mathlib.Core.Path.{◌≡◌, refl}
use Prim.Native.Nat.{ℕ}
use Prim.Native.String.{String}
use lib.ListN.{replicate}
use Rattle.language.specs.Bytes.{bytes_of, class_of, hex_value}
use Rattle.language.specs.Words.{words, word_of, ssa_word, entry_word}
use Rattle.language.specs.Names.{escaped}
use Rattle.language.specs.Tokens.{Token, Found, token, stray, tokens_from, tokens_of, lex_more, lex_end, lex_step, begin, name_or_word, ended, ends, extends, quotes, escapes, closes, ends_number, decimal_digit, hexadecimal_digit}

-- All that the lexer's meaning is made of, to be opened by one name.
unfoldable pub lexing : Unit {0}
unfolding tokens_from tokens_of lex_more lex_end lex_step begin name_or_word ended ends extends quotes escapes closes ends_number decimal_digit hexadecimal_digit word_of words class_of hex_value
lexing = tt

-- What is found up to the first place with no token: what follows that is never read.
abbrev readable : List Found → List Found
readable [] = []
readable (token p t ∷ fs) = token p t ∷ readable fs
readable (stray p ∷ fs) = stray p ∷ []

-- A name, a number, a mark, the end, each at its place.
abbrev named : ℕ → String → Found
named p n = token p (Token.name (bytes_of n))

abbrev worded : ℕ → ℕ → Found
worded p w = token p (Token.word w)

abbrev plus : ℕ → ℕ → Found
plus p v = token p (Token.number false v)

abbrev minus : ℕ → ℕ → Found
minus p v = token p (Token.number true v)

abbrev marked : ℕ → ℕ → Found
marked p b = token p (Token.mark b)

abbrev ending : ℕ → Found
ending p = token p Token.end

record Case : Type 0 where
  text : List ℕ
  found : List Found

infix 70 ◌gives◌
abbrev ◌gives◌ : String → List Found → Case
text gives found = record { text = bytes_of text; found = found }

edges : List Case
edges =
    "" gives (ending 0 ∷ [])
    ∷ " \t\r\n" gives (ending 4 ∷ [])
    ∷ "a;" gives (named 0 "a" ∷ marked 1 59 ∷ ending 2 ∷ [])
    -- other bytes: double quote, backslash, NUL, form feed, bytes from 128
    ∷ "\"" gives (stray 0 ∷ [])
    ∷ "a\\" gives (named 0 "a" ∷ stray 1 ∷ [])
    ∷ "5\0" gives (plus 0 5 ∷ stray 1 ∷ [])
    ∷ ";\u{c}" gives (marked 0 59 ∷ stray 1 ∷ [])
    ∷ "\u{80}" gives (stray 0 ∷ [])
    ∷ "'\u{80}ÿ\0'" gives (named 0 "\u{80}ÿ\0" ∷ ending 5 ∷ [])
    -- comments end at LF alone
    ∷ "//a\rb\nc" gives (named 6 "c" ∷ ending 7 ∷ [])
    ∷ "a//b" gives (named 0 "a" ∷ ending 4 ∷ [])
    ∷ "5//" gives (plus 0 5 ∷ ending 3 ∷ [])
    ∷ "'//'" gives (named 0 "//" ∷ ending 4 ∷ [])
    ∷ "///'\n'/'" gives (named 5 "/" ∷ ending 8 ∷ [])
    -- a backslash never escapes a backslash; one that is not directly before a quote stays
    ∷ "'a\\\\'" gives (stray 0 ∷ [])
    ∷ "'\\'" gives (stray 0 ∷ [])
    ∷ "'\\''" gives (named 0 "'" ∷ ending 4 ∷ [])
    ∷ "'a\\\\b'" gives (named 0 "a\\\\b" ∷ ending 6 ∷ [])
    ∷ "'a\\'b'" gives (named 0 "a'b" ∷ ending 6 ∷ [])
    ∷ "'\\x'" gives (named 0 "\\x" ∷ ending 4 ∷ [])
    ∷ "'a\\\\'b'" gives (named 0 "a\\'b" ∷ ending 7 ∷ [])
    -- no token, placed where it would have begun
    ∷ "''" gives (stray 0 ∷ [])
    ∷ " 'a" gives (stray 1 ∷ [])
    ∷ "a/b" gives (named 0 "a" ∷ stray 1 ∷ [])
    ∷ "/" gives (stray 0 ∷ [])
    ∷ "+" gives (stray 0 ∷ [])
    ∷ "- 5" gives (stray 0 ∷ [])
    ∷ "+-5" gives (stray 0 ∷ [])
    ∷ "0x" gives (stray 0 ∷ [])
    ∷ " -0x;" gives (stray 1 ∷ [])
    ∷ "0X1" gives (stray 0 ∷ [])
    ∷ "0xfg" gives (stray 0 ∷ [])
    ∷ "12ab" gives (stray 0 ∷ [])
    ∷ "-1.5" gives (stray 0 ∷ [])
    ∷ "1_0" gives (stray 0 ∷ [])
    ∷ "00x1" gives (stray 0 ∷ [])
    -- two tokens
    ∷ "5'a'" gives (plus 0 5 ∷ named 1 "a" ∷ ending 4 ∷ [])
    ∷ "'a'b" gives (named 0 "a" ∷ named 3 "b" ∷ ending 4 ∷ [])
    ∷ "a'b'" gives (named 0 "a" ∷ named 1 "b" ∷ ending 4 ∷ [])
    ∷ "5+6" gives (plus 0 5 ∷ plus 1 6 ∷ ending 3 ∷ [])
    ∷ "a-6" gives (named 0 "a" ∷ minus 1 6 ∷ ending 3 ∷ [])
    ∷ ".5" gives (named 0 ".5" ∷ ending 2 ∷ [])
    -- numbers of any length, by value
    ∷ "007 0" gives (plus 0 7 ∷ plus 4 0 ∷ ending 5 ∷ [])
    ∷ "-0" gives (minus 0 0 ∷ ending 2 ∷ [])
    ∷ "-0x7fAf" gives (minus 0 0x7faf ∷ ending 7 ∷ [])
    ∷ "+123456789012345678901234567890" gives (plus 0 123456789012345678901234567890 ∷ ending 31 ∷ [])
    -- words, and plain names that other languages have as words
    ∷ "ssa 'ssa' ssa1" gives (worded 0 ssa_word ∷ named 4 "ssa" ∷ named 10 "ssa1" ∷ ending 14 ∷ [])
    ∷ "volatile dead" gives (named 0 "volatile" ∷ named 9 "dead" ∷ ending 13 ∷ [])
    ∷ "not float32" gives (named 0 "not" ∷ named 4 "float32" ∷ ending 11 ∷ [])
    ∷ "load.f32 entry" gives (named 0 "load.f32" ∷ worded 9 entry_word ∷ ending 14 ∷ [])
    ∷ []

-- each text of the list gives what is written beside it
found_at_edges : map (λ c. readable (tokens_of c.text)) edges ≡ map (λ c. c.found) edges
unfolding edges lexing
found_at_edges = refl

-- "The 64 bytes are counted on the contents": n letters, and so many quotes that the contents hold.
long : ℕ → List ℕ
long n = replicate n 97

quotes_in : ℕ → List ℕ
quotes_in n = replicate n 39

quoted : List ℕ → List ℕ
quoted n = 39 ∷ (escaped n ++ (39 ∷ []))

longest_plain : tokens_of (long 64) ≡ token 0 (Token.name (long 64)) ∷ ending 64 ∷ []
unfolding long lexing
longest_plain = refl

too_long_plain : readable (tokens_of (59 ∷ long 65)) ≡ marked 0 59 ∷ stray 1 ∷ []
unfolding long lexing
too_long_plain = refl

longest_quoted : tokens_of (quoted (quotes_in 64)) ≡ token 0 (Token.name (quotes_in 64)) ∷ ending 130 ∷ []
unfolding quoted quotes_in escaped lexing
longest_quoted = refl

too_long_quoted : readable (tokens_of (quoted (quotes_in 65))) ≡ stray 0 ∷ []
unfolding quoted quotes_in escaped lexing
too_long_quoted = refl

-- a backslash that stays is counted: 62 letters and two bytes more, 63 and two more
longest_with_slash : tokens_of (quoted (long 62 ++ (92 ∷ 97 ∷ []))) ≡ token 0 (Token.name (long 62 ++ (92 ∷ 97 ∷ []))) ∷ ending 66 ∷ []
unfolding quoted long escaped lexing
longest_with_slash = refl

too_long_with_slash : readable (tokens_of (quoted (long 63 ++ (92 ∷ 97 ∷ [])))) ≡ stray 0 ∷ []
unfolding quoted long escaped lexing
too_long_with_slash = refl
