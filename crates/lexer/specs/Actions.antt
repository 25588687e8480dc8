-- What a byte does to what is open, by number, as the code tests it: 0 to 10, it goes on with it, in that mode; 16 to 26, it begins mode 0 to 10;
-- 32, it ends what is open and is still to be taken; 33, it makes what is open no token; 34, it closes a quoted name; 35, it is a mark; 36, it is no
-- token. Those below 32 find nothing. 4 and 5, no modes that anything goes on in, are: it goes on with a quoted name whose contents
-- have the backslash that waited, and waits itself or comes next. Assumes nothing.
use Rattle.std.specs.Prelude.{cond, ℕ, eqb, ltb, leb}
use Rattle.language.specs.Bytes.{hex_value}
use Rattle.language.specs.Tokens.{Mode}

-- A mode as a number below 11, in the order of its definition.
abbrev pub mode_number : Mode → ℕ
mode_number Mode.between = 0
mode_number Mode.plain = 1
mode_number Mode.quoted = 2
mode_number Mode.escaping = 3
mode_number Mode.slash = 4
mode_number Mode.comment = 5
mode_number Mode.sign = 6
mode_number Mode.leading_zero = 7
mode_number Mode.decimal = 8
mode_number Mode.prefix = 9
mode_number Mode.hexadecimal = 10

unfoldable pub digit_mode_at : (byte : ℕ) → ℕ
digit_mode_at b = cond (eqb b 48) 7 8

unfoldable pub begins_at : (class byte : ℕ) → ℕ
begins_at k b =
    cond (eqb k 0) 17
    (cond (eqb k 1) (cond (eqb b 48) 23 24)
    (cond (eqb k 2) 16 (cond (eqb k 3) 18 (cond (eqb k 4) 22 (cond (eqb k 5) 20 (cond (eqb k 6) 35 36))))))

unfoldable pub in_plain_at : (class kept : ℕ) → ℕ
in_plain_at k n = cond (ltb k 2) (cond (ltb n 64) 1 33) 32

unfoldable pub in_quoted_at : (byte kept : ℕ) → ℕ
in_quoted_at b n = cond (eqb b 39) (cond (eqb n 0) 33 34) (cond (eqb b 92) 3 (cond (ltb n 64) 2 33))

unfoldable pub in_escaped_at : (byte kept : ℕ) → ℕ
in_escaped_at b n = cond (leb 64 n) 33 (cond (eqb b 39) 2 (cond (eqb b 92) 4 (cond (ltb n 63) 5 33)))

unfoldable pub after_number_at : (class : ℕ) → ℕ
after_number_at k = cond (ltb k 2) 33 32

unfoldable pub in_decimal_at : (class : ℕ) → ℕ
in_decimal_at k = cond (eqb k 1) 8 (after_number_at k)

unfoldable pub in_number_at : (mode class byte : ℕ) → ℕ
in_number_at m k b =
    cond (eqb m 6) (cond (eqb k 1) (digit_mode_at b) 32)
    (cond (eqb m 7) (cond (eqb b 120) 9 (in_decimal_at k))
    (cond (eqb m 8) (in_decimal_at k)
    (cond (eqb m 9) (cond (ltb (hex_value b) 16) 10 32)
    (cond (ltb (hex_value b) 16) 10 (after_number_at k)))))

unfoldable pub action_at : (mode class byte kept : ℕ) → ℕ
action_at m k b n =
    cond (eqb m 0) (begins_at k b)
    (cond (eqb m 1) (in_plain_at k n)
    (cond (eqb m 2) (in_quoted_at b n)
    (cond (eqb m 3) (in_escaped_at b n)
    (cond (eqb m 4) (cond (eqb b 47) 21 32)
    (cond (eqb m 5) (cond (eqb b 10) 16 21)
    (in_number_at m k b))))))
