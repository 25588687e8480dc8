-- Calls of document 01's whole function and of smaller words, by computation: what a must-fail edit of these definitions runs into.
-- Assumes nothing.
use mathlib.Core.Path.{◌≡◌, refl, ap, ◌∙◌}
use mathlib.Core.List.{List, [], ◌∷◌}
use mathlib.Core.Bool.{Bool, true, false}
use Rattle.decimal.specs.declared.words.Decimal.{Decimal}
use Prim.Native.Nat.{ℕ}
use Rattle.language.specs.Bytes.{bytes_of}
use Rattle.language.specs.Instructions.{int8, uint8}
use Rattle.language.specs.Reading.{number_in_range, bits_of}
use Rattle.language.specs.Programs.{max_text}
use Rattle.language.specs.Answers.{Ran, zeros, place_of, refused_run, run_function, show}
use Rattle.language.specs.Listing.{digits, line, refused_line}
use Rattle.language.proofs.Computing.{computing}
use Rattle.language.proofs.ReadingFacts.{turn_text, turn, turn_reads}
use Rattle.theorems.proofs.TurnWritten.{turned_text, turned_written}
use Rattle.decimal.specs.Meanings.{bits_in}
use Rattle.std.specs.Prelude.{Option, Some, None}
use Rattle.decimal.specs.Numbers.{is_digit, amount_kept, decimal_from, unsigned, number_of}
use Rattle.call_words.specs.Words.{function_named, function_by_word, budget_of}
use Rattle.answer_lines.specs.Lines.{value_written}
use Rattle.call_words.specs.Arguments.{Given, given_of, first_outside, arguments_of}
use Rattle.calling.specs.Calls.{call_function, run_line, translated_line, translate_line, shown_line, text_line, read_line, run_printed, translate_printed}

unfoldable calling : Unit {0}
unfolding computing number_in_range bits_of place_of refused_run run_function digits line refused_line bits_in is_digit amount_kept decimal_from unsigned number_of function_named function_by_word budget_of value_written first_outside arguments_of call_function run_line translated_line translate_line
calling = tt

-- ---- words

functions : function_by_word (turn ∷ []) (bytes_of "turn") ∷ function_by_word (turn ∷ []) (bytes_of "007") ∷ function_by_word (turn ∷ []) (bytes_of "-0") ∷ function_by_word (turn ∷ []) (bytes_of "tur") ∷ [] ≡ 0 ∷ 7 ∷ 1 ∷ 1 ∷ []
unfolding calling turn
functions = refl

large_number : function_by_word (turn ∷ []) (bytes_of "18446744073709551616") ≡ 18446744073709551615
unfolding calling turn
large_number = refl

budgets_said : budget_of (bytes_of "12") ∷ budget_of (bytes_of "-0") ∷ budget_of (bytes_of "-1") ∷ budget_of (bytes_of "1x") ∷ budget_of [] ∷ [] ≡ Some 12 ∷ Some 0 ∷ None ∷ None ∷ None ∷ []
unfolding calling
budgets_said = refl

-- P4: int8 100 + 100 = -56
least_values : value_written int8 200 ∷ value_written int8 128 ∷ value_written uint8 200 ∷ [] ≡ bytes_of "-56" ∷ bytes_of "-128" ∷ bytes_of "200" ∷ []
unfolding calling
least_values = refl

-- ---- calls

-- what a word below 2^64 says, and one beyond
abbrev said : Bool → ℕ → Option Decimal
said s n = Some (record { negative = s; magnitude = Some n })

abbrev said_beyond : Option Decimal
said_beyond = Some (record { negative = false; magnitude = None })

-- turn(7, 9, n)
abbrev numbers : ℕ → Given
numbers n = given_of 3 (said false 7 ∷ said false 9 ∷ said false n ∷ [])

-- 21 before the count, the count before the arguments, the first argument of two that lie outside.
refusals :
    call_function (turn ∷ []) 1 (given_of 0 []) 9
    ∷ call_function (turn ∷ []) 0 (given_of 2 (said true 7 ∷ said false 9 ∷ [])) 9
    ∷ call_function (turn ∷ []) 0 (given_of 3 (said false 7 ∷ said true 9 ∷ said false 256 ∷ [])) 9
    ∷ call_function (turn ∷ []) 0 (given_of 3 (said false 7 ∷ said false 9 ∷ said_beyond ∷ [])) 9
    ∷ []
    ≡ Ran.refused 21 0 ∷ Ran.refused 20 2 ∷ Ran.refused 20 1 ∷ Ran.refused 20 2 ∷ []
unfolding calling turn
refusals = refl

-- P1 to P3, and a budget of one step less.
runs :
    run_line (turn ∷ []) (bytes_of "turn") (numbers 0) 9
    ∷ run_line (turn ∷ []) (bytes_of "0") (numbers 1) 16
    ∷ run_line (turn ∷ []) (bytes_of "turn") (numbers 2) 23
    ∷ run_line (turn ∷ []) (bytes_of "turn") (numbers 2) 22
    ∷ []
    ≡ bytes_of "returned\t7\t9\n" ∷ bytes_of "returned\t9\t16\n" ∷ bytes_of "returned\t7\t23\n" ∷ bytes_of "stopped\t43\t10\t22\n" ∷ []
unfolding calling turn
runs = refl

-- From the text.
printed_run : run_printed turn_text (bytes_of "turn") (numbers 0) 9 ≡ bytes_of "returned\t7\t9\n"
unfolding run_printed calling turn
printed_run = ap (read_line (λ p. run_line p (bytes_of "turn") (numbers 0) 9)) turn_reads

turned_shown : (let s = show max_text turned_text in shown_line s.answer s.buffer) ≡ turned_text
unfolding show zeros turned_text
turned_shown = refl

printed_translation : translate_printed turn_text (bytes_of "turn") ≡ turned_text
unfolding translate_printed calling turn text_line
printed_translation =
    ap (read_line (λ p. translate_line p (bytes_of "turn"))) turn_reads
    ∙ ap (λ (text : List ℕ). let s = show max_text text in shown_line s.answer s.buffer) turned_written
    ∙ turned_shown
