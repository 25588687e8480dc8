-- Facts of classes, words and names, by computation. Assumes nothing.
use mathlib.Core.Bool.{true, false}
use mathlib.Core.List.{List, [], ◌∷◌, ◌++◌, map}
use mathlib.Core.Path.{◌≡◌, refl}
use Prim.Native.Nat.{ℕ}
use Prim.Native.String.{String}
use lib.ListN.{length, get_or, replicate}
use Rattle.laws.specs.Lists.{all, any, keep, from, below, member, same, gather}
use Rattle.language.specs.Bytes.{bytes_of, class_of, class_number, hex_byte, hex_value}
use Rattle.language.specs.Words.{words, word_of, word_count}
use Rattle.language.specs.Names.{unquoted, slash_last, spellable, plain_name, escaped, spelling}

-- The bytes of each class, by its number: "letter or `.` or `_`; digit; space (space, tab, CR, LF); quote; sign; slash; mark
-- (`{ } ( ) , ; =`); other".
classes : List (List ℕ)
classes =
    (from 65 26 ++ from 97 26 ++ bytes_of "._")
    ∷ from 48 10
    ∷ bytes_of " \t\r\n"
    ∷ bytes_of "'"
    ∷ bytes_of "+-"
    ∷ bytes_of "/"
    ∷ bytes_of "{}(),;="
    ∷ (from 0 9 ++ from 11 2 ++ from 14 18 ++ bytes_of "!\"#$%&*:<>?@[\\]^`|~" ++ from 127 129)
    ∷ []

-- "Each of the 256 byte values belongs to exactly one class": the lists that hold a byte are that of its class alone
one_class : all (λ b. same (keep (λ k. member b (get_or classes k [])) (below 8)) (class_number (class_of b) ∷ [])) (below 256) ≡ true
unfolding classes class_of
one_class = refl

-- and they hold nothing else
byte_count : length (gather (λ c. c) classes) ≡ 256
unfolding classes
byte_count = refl

hexadecimal_digits : keep hex_byte (below 256) ≡ bytes_of "0123456789ABCDEFabcdef"
unfolding hex_value
hexadecimal_digits = refl

-- there are 52 words, and each is found at its own number
word_numbers : map word_of words ≡ below word_count
unfolding words word_of
word_numbers = refl

-- contents, and below each how it is spelled
contents : List String
contents =
    "a" ∷ "_.9" ∷ ".5" ∷ "entrys" ∷ "Entry" ∷ "load.f32" ∷ "entry" ∷ "jump.cond" ∷ "9a" ∷ "a b" ∷ "//" ∷ "\n" ∷ "'" ∷ "a'b" ∷ "'a'" ∷ "\\x" ∷ "a\\'" ∷ "\\\\b" ∷ []

as_spelled : List String
as_spelled =
    "a" ∷ "_.9" ∷ ".5" ∷ "entrys" ∷ "Entry" ∷ "load.f32" ∷ "'entry'" ∷ "'jump.cond'" ∷ "'9a'" ∷ "'a b'" ∷ "'//'" ∷ "'\n'" ∷ "'\\''" ∷ "'a\\'b'" ∷ "'\\'a\\''" ∷ "'\\x'" ∷ "'a\\\\''" ∷ "'\\\\b'" ∷ []

all_spelled : map (λ n. spelling (bytes_of n)) contents ≡ map bytes_of as_spelled
unfolding contents as_spelled spelling plain_name escaped word_of words class_of
all_spelled = refl

all_spellable : all (λ n. spellable (bytes_of n)) contents ≡ true
unfolding contents spellable slash_last
all_spellable = refl

no_contents : any (λ n. spellable (bytes_of n)) ("" ∷ "\\" ∷ "a\\" ∷ "'\\" ∷ "a\\\\" ∷ []) ≡ false
unfolding spellable slash_last
no_contents = refl

-- "no outer quotes, and each backslash directly before a quote is dropped"
without_quotes : map (λ n. unquoted (bytes_of n)) ("a" ∷ "\\'" ∷ "a\\'b" ∷ "\\x" ∷ "\\\\'" ∷ "\\'\\'" ∷ []) ≡ map bytes_of ("a" ∷ "'" ∷ "a'b" ∷ "\\x" ∷ "\\'" ∷ "''" ∷ [])
without_quotes = refl

-- "1 to 64 bytes", and a byte is below 256
longest_name : map (λ n. spellable (replicate n 39)) (0 ∷ 1 ∷ 64 ∷ 65 ∷ []) ≡ false ∷ true ∷ true ∷ false ∷ []
unfolding spellable slash_last
longest_name = refl

bytes_alone : map (λ b. spellable (b ∷ [])) (0 ∷ 91 ∷ 92 ∷ 255 ∷ 256 ∷ []) ≡ true ∷ true ∷ false ∷ true ∷ false ∷ []
unfolding spellable slash_last
bytes_alone = refl
