-- Lines told and shown, by computation: what a must-fail edit of these definitions runs into. Assumes nothing.
use mathlib.Core.Path.{◌≡◌, refl}
use mathlib.Core.List.{[], ◌∷◌, map}
use Rattle.std.specs.Prelude.{None}
use Rattle.language.specs.Bytes.{bytes_of}
use Rattle.language.specs.Listing.{digits}
use Rattle.language.specs.Reading.{number_in_range, bits_of}
use Rattle.language.specs.Writing.{bytes_for, number_token}
use Rattle.language.proofs.Computing.{computing}
use Rattle.decimal.specs.Meanings.{bits_in}
use Rattle.decimal.specs.Numbers.{is_digit, amount_kept, decimal_from, unsigned, number_of}
use Rattle.merge_lines.specs.Lines.{number_in, line_with, line_of, reading_shown, record_line}

unfoldable telling : Unit {0}
unfolding computing number_in_range bits_of digits bytes_for number_token bits_in is_digit amount_kept decimal_from unsigned number_of number_in line_of reading_shown record_line
telling = tt

-- A reading of -12; the least and the greatest numbers, with leading zeros and `-0`.
told :
    map line_of (bytes_of "7\t1700000000\t3\t-12" ∷ bytes_of "-0\t007\t18446744073709551615\t-9223372036854775808" ∷ bytes_of "0\t0\t0\t9223372036854775807" ∷ [])
    ≡ line_with 7 1700000000 3 18446744073709551604 ∷ line_with 0 7 18446744073709551615 9223372036854775808 ∷ line_with 0 0 0 9223372036854775807 ∷ []
unfolding telling
told = refl

-- Too few, too many, an empty word, another byte; each number one past its range.
not_told :
    map line_of (
    []
    ∷ bytes_of "1\t2\t3"
    ∷ bytes_of "1\t2\t3\t4\t"
    ∷ bytes_of "1\t2\t\t4"
    ∷ bytes_of "1\t2\t3\t+4"
    ∷ bytes_of "1 2 3 4"
    ∷ bytes_of "-1\t2\t3\t4"
    ∷ bytes_of "1\t18446744073709551616\t3\t4"
    ∷ bytes_of "1\t2\t-3\t4"
    ∷ bytes_of "1\t2\t3\t9223372036854775808"
    ∷ bytes_of "1\t2\t3\t-9223372036854775809"
    ∷ [])
    ≡ None ∷ None ∷ None ∷ None ∷ None ∷ None ∷ None ∷ None ∷ None ∷ None ∷ None ∷ []
unfolding telling
not_told = refl

-- The same records as they are shown, with their verdicts.
shown :
    record_line (record { appliance = 7; time = 1700000000; fail = 1; tablet = 3; reading = 18446744073709551604 })
    ∷ record_line (record { appliance = 0; time = 0; fail = 0; tablet = 0; reading = 9223372036854775807 })
    ∷ []
    ≡ bytes_of "7\t1700000000\t3\t-12\tfail\n" ∷ bytes_of "0\t0\t0\t9223372036854775807\tpass\n" ∷ []
unfolding telling
shown = refl
