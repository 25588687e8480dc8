-- The bytes of a text and their classes (document 01, "The text"). Assumes nothing.
use Rattle.std.specs.Prelude.{Bool, true, false, cond, List, [] as []ᴸ, ◌∷◌ as ◌∷ᴸ◌, ℕ, ◌-◌, eqb, ltb}
use Prim.Native.Char.{code}
use Prim.Native.String.{String, [], ◌∷◌}

-- The bytes of an ASCII text, so that a definition or a fact can quote what it speaks of.
abbrev pub bytes_of : String → List ℕ
bytes_of [] = []ᴸ
bytes_of (c ∷ s) = code c ∷ᴸ bytes_of s

-- The bytes that the rules speak of one by one.
abbrev pub line_feed : ℕ
line_feed = 10

abbrev pub quote_byte : ℕ
quote_byte = 39

abbrev pub left_paren : ℕ
left_paren = 40

abbrev pub right_paren : ℕ
right_paren = 41

abbrev pub comma : ℕ
comma = 44

abbrev pub minus : ℕ
minus = 45

abbrev pub slash_byte : ℕ
slash_byte = 47

abbrev pub digit_zero : ℕ
digit_zero = 48

abbrev pub semicolon : ℕ
semicolon = 59

abbrev pub equals : ℕ
equals = 61

abbrev pub backslash : ℕ
backslash = 92

abbrev pub letter_x : ℕ
letter_x = 120

abbrev pub left_brace : ℕ
left_brace = 123

abbrev pub right_brace : ℕ
right_brace = 125

-- "Each of the 256 byte values belongs to exactly one class: letter or `.` or `_`; digit; space (space, tab, CR, LF);
-- quote; sign; slash; mark (`{ } ( ) , ; =`); other."
pub data Class : Type 0 where
  letter digit space quote sign slash mark other : Class

-- The single bytes first (tab LF CR space ' ( ) + , - . / ; = _ { }), then the digits and the letters by rising ranges.
unfoldable pub class_of : ℕ → Class
class_of b =
    cond (eqb b 9) Class.space
    (cond (eqb b 10) Class.space
    (cond (eqb b 13) Class.space
    (cond (eqb b 32) Class.space
    (cond (eqb b 39) Class.quote
    (cond (eqb b 40) Class.mark
    (cond (eqb b 41) Class.mark
    (cond (eqb b 43) Class.sign
    (cond (eqb b 44) Class.mark
    (cond (eqb b 45) Class.sign
    (cond (eqb b 46) Class.letter
    (cond (eqb b 47) Class.slash
    (cond (eqb b 59) Class.mark
    (cond (eqb b 61) Class.mark
    (cond (eqb b 95) Class.letter
    (cond (eqb b 123) Class.mark
    (cond (eqb b 125) Class.mark
    (cond (ltb b 48) Class.other
    (cond (ltb b 58) Class.digit
    (cond (ltb b 65) Class.other
    (cond (ltb b 91) Class.letter
    (cond (ltb b 97) Class.other
    (cond (ltb b 123) Class.letter Class.other))))))))))))))))))))))

-- A class as a number below 8, in the order of the sentence.
abbrev pub class_number : Class → ℕ
class_number Class.letter = 0
class_number Class.digit = 1
class_number Class.space = 2
class_number Class.quote = 3
class_number Class.sign = 4
class_number Class.slash = 5
class_number Class.mark = 6
class_number Class.other = 7

-- "letter, `.` or `_`, then those or digits"
abbrev pub in_name : Class → Bool
in_name Class.letter = true
in_name Class.digit = true
in_name Class.space = false
in_name Class.quote = false
in_name Class.sign = false
in_name Class.slash = false
in_name Class.mark = false
in_name Class.other = false

-- A name character.
abbrev pub name_byte : ℕ → Bool
name_byte b = in_name (class_of b)

-- "letter, `.` or `_`", which alone begin a plain name
abbrev pub in_letters : Class → Bool
in_letters Class.letter = true
in_letters Class.digit = false
in_letters Class.space = false
in_letters Class.quote = false
in_letters Class.sign = false
in_letters Class.slash = false
in_letters Class.mark = false
in_letters Class.other = false

abbrev pub letter_byte : ℕ → Bool
letter_byte b = in_letters (class_of b)

abbrev pub in_digits : Class → Bool
in_digits Class.letter = false
in_digits Class.digit = true
in_digits Class.space = false
in_digits Class.quote = false
in_digits Class.sign = false
in_digits Class.slash = false
in_digits Class.mark = false
in_digits Class.other = false

-- A decimal digit.
abbrev pub digit_byte : ℕ → Bool
digit_byte b = in_digits (class_of b)

-- The value of a hexadecimal digit, in capitals or not, or 16 for another byte.
unfoldable pub hex_value : ℕ → ℕ
hex_value b =
    cond (ltb b 48) 16
    (cond (ltb b 58) (b - 48)
    (cond (ltb b 65) 16
    (cond (ltb b 71) (b - 55)
    (cond (ltb b 97) 16
    (cond (ltb b 103) (b - 87) 16)))))

-- A hexadecimal digit.
abbrev pub hex_byte : ℕ → Bool
hex_byte b = ltb (hex_value b) 16
