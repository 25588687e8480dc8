-- Laws of reading: a text is read by its tokens, in parts as in one piece, and the first refusal stands. Assumes nothing.
use mathlib.Core.List.{List, [], ◌∷◌, ◌++◌, foldl, foldl-append}
use mathlib.Core.Path.{◌≡◌, refl}
use Prim.Native.Nat.{ℕ, ◌≤◌}
use lib.ListN.{length}
use borrow.Author.Tests.{le-ltb}
use Rattle.language.specs.Programs.{max_text}
use Rattle.language.specs.Tokens.{TextPlace, Found, Lexed, quiet, lexer₀, lex_more, tokens_from, tokens_of}
use Rattle.language.specs.Reading.{Parse, Reader, take_token, parse₀, read_byte, finish, read_end, read}

-- once refused, a reading stays refused
pub refusal_stands : (n : ℕ) (p : TextPlace) (found : List Found) → foldl take_token (Parse.refused n p) found ≡ Parse.refused n p
unfolding take_token
refusal_stands n p [] = refl
refusal_stands n p (f ∷ fs) = refusal_stands n p fs

-- The reader whose bytes so far gave x.
abbrev reader_of : Lexed → Reader
reader_of x = record { lexer = x.lexer; parse = foldl take_token parse₀ x.found }

reads_found : (text : List ℕ) (x : Lexed) → foldl read_byte (reader_of x) text ≡ reader_of (foldl lex_more x text)
unfolding read_byte lex_more
reads_found [] x = refl
reads_found (b ∷ bs) x = rw (← foldl-append) (reads_found bs (lex_more x b))

-- a text that is not too long means what its tokens, taken one by one, come to
pub read_by_tokens : (text : List ℕ) → length text ≤ max_text → read text ≡ finish (foldl take_token parse₀ (tokens_of text))
unfolding read read_end tokens_from tokens_of
read_by_tokens text h =
    rw (le-ltb max_text (length text) h, reads_found text (quiet lexer₀), foldl-append)

-- a text in two parts is read like the whole
pub read_in_parts : (a b : List ℕ) (r : Reader) → foldl read_byte r (a ++ b) ≡ foldl read_byte (foldl read_byte r a) b
read_in_parts a b r = foldl-append read_byte r a b
