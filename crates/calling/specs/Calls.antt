-- What is printed of a call: of a run on arguments by meaning, of a translation, and of a file's own text. Assumes nothing.
use Rattle.std.specs.Prelude.{cond, List, [], ◌∷◌, ◌≡◌, ℕ, eqb, ltb, length, get_or, take}
use Rattle.language.specs.Programs.{Program, no_function, max_text, max_registers, is_ssa}
use Rattle.language.specs.Reading.{Reading, read}
use Rattle.language.specs.Checking.{check}
use Rattle.language.specs.Translating.{translation, translation_fits}
use Rattle.language.specs.Answers.{Ran, Wrote, if_accepted, check_answer, run_function, show}
use Rattle.language.specs.Table.{decode}
use Rattle.language.specs.Listing.{refused_line}
use Rattle.language.specs.MadeNames.{written}
use Rattle.call_words.specs.Words.{function_by_word}
use Rattle.call_words.specs.Arguments.{Given, first_outside, arguments_of}
use Rattle.answer_lines.specs.Lines.{ran_line}

-- The function that a word means in a table: one that the check refuses has none, and 0 stands for it.
unfoldable pub function_meant : (t word : List ℕ) → ℕ
function_meant t word = if_accepted (check_answer t) (λ n p. 0) (function_by_word (decode t) word)

-- Function i of an accepted program, called by meaning: 21; 20 with the count given, or with the number of an argument outside its parameter's
-- range by meaning; then the run on the numbers that the registers hold, of which there are never more than 256.
unfoldable pub call_function : Program → ℕ → Given → (budget : ℕ) → Ran
call_function p i g budget =
    let f = get_or p i no_function in
    cond (ltb i (length p))
    (cond (eqb g.count f.params)
    (cond (eqb (first_outside f g) g.count) (run_function p i (arguments_of f g) budget max_registers).answer
    (Ran.refused 20 (first_outside f g)))
    (Ran.refused 20 g.count))
    (Ran.refused 21 0)

unfoldable pub run_line : Program → (word : List ℕ) → Given → (budget : ℕ) → List ℕ
run_line p word g budget =
    let i = function_by_word p word in
    ran_line (get_or p i no_function).result (call_function p i g budget)

-- What writing left in a buffer: the text, or the refusal.
abbrev pub shown_line : Wrote → (buffer : List ℕ) → List ℕ
shown_line (Wrote.wrote n) b = take n b
shown_line (Wrote.refused k p) b = refused_line k p

-- The text of an accepted program, for which a buffer of the longest text has room: 33, or the text.
unfoldable pub text_line : Program → List ℕ
text_line p = let s = show max_text (written p) in shown_line s.answer s.buffer

-- Function i of an accepted program, translated: 21, 30, 31, or the text of the program of its translation alone.
unfoldable pub translated_line : Program → ℕ → List ℕ
translated_line p i =
    let f = get_or p i no_function in
    cond (ltb i (length p))
    (cond (is_ssa f) (cond (translation_fits f) (text_line (translation f ∷ [])) (refused_line 31 0)) (refused_line 30 0))
    (refused_line 21 0)

unfoldable pub translate_line : Program → (word : List ℕ) → List ℕ
translate_line p word = translated_line p (function_by_word p word)

-- Of an accepted program, or its refusal by the check.
abbrev pub checked_line : (Program → List ℕ) → Program → List ℕ
checked_line line p = if_accepted (check p) refused_line (line p)

-- Of a text: first it is read (1 to 8), then checked whole (9 to 17).
abbrev pub read_line : (Program → List ℕ) → Reading → List ℕ
read_line line (Reading.refused n p) = refused_line n p
read_line line (Reading.program p) = checked_line line p

-- `run FILE FUNCTION BUDGET [ARG..]`
unfoldable pub run_printed : (text word : List ℕ) → Given → (budget : ℕ) → List ℕ
run_printed text word g budget = read_line (λ p. run_line p word g budget) (read text)

-- `translate FILE FUNCTION`
unfoldable pub translate_printed : (text word : List ℕ) → List ℕ
translate_printed text word = read_line (λ p. translate_line p word) (read text)

-- `write FILE`
unfoldable pub write_printed : (text : List ℕ) → List ℕ
write_printed text = read_line text_line (read text)

-- What is printed of a buffer that was left as `out`, up to place r.
abbrev pub Prints : (out : List ℕ) (r : ℕ) (bytes : List ℕ) → Type 0
Prints out r bytes = take r out ≡ bytes
