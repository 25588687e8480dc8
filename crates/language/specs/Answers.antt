-- The answers of the entry points (document 01, "Numbers we answer"): for all inputs the number, place, value and steps, and every cell of
-- what was lent.
-- Assumes nothing.
use Rattle.std.specs.Prelude.{Bool, cond, ◌&&◌, List, [], ◌∷◌, ◌++◌, ℕ, ◌+◌, ◌-◌, ◌*◌, eqb, leb, ltb, length, get_or, replicate}
use Rattle.laws.specs.Lists.{gather}
use Rattle.language.specs.Programs.{Func, Program, max_text, max_functions, no_function, function_in, is_ssa, has_signature, first_row, row_place}
use Rattle.language.specs.Reading.{Reading, read}
use Rattle.language.specs.Table.{table_length, function_count, cells, decode}
use Rattle.language.specs.Checking.{Verdict, check}
use Rattle.language.specs.Running.{Place, Outcome, Run, run_of, first_unfit}
use Rattle.language.specs.Translating.{translation, translation_fits}
use Rattle.language.specs.MadeNames.{written}

-- "A refusal (1 to 22, 30, 31) zeroes all lent output."
unfoldable pub zeros : ℕ → List ℕ
zeros n = replicate n 0

-- The four numbers of an answer: "Unstated numbers of an answer are 0."
pub record Answer : Type 0 where
  pub number : ℕ
  pub place : ℕ
  pub value : ℕ
  pub steps : ℕ

abbrev pub answer_of : (number place value steps : ℕ) → Answer
answer_of n p v s = record { number = n; place = p; value = v; steps = s }

-- The numbers of what reading, checking and translating answer: done, or refused with a number and its place.
unfoldable pub verdict_numbers : Verdict → Answer
verdict_numbers Verdict.accepted = answer_of 0 0 0 0
verdict_numbers (Verdict.refused n p) = answer_of n p 0 0

-- What a run answers: a returned value, a return without one, a stop, or a refusal.
pub data Ran : Type 0 where
  returned : (value steps : ℕ) → Ran
  left : (steps : ℕ) → Ran
  stopped : (number place steps : ℕ) → Ran
  refused : (number place : ℕ) → Ran

unfoldable pub ran_numbers : Ran → Answer
ran_numbers (Ran.returned v s) = answer_of 0 0 v s
ran_numbers (Ran.left s) = answer_of 0 0 0 s
ran_numbers (Ran.stopped n p s) = answer_of n p 0 s
ran_numbers (Ran.refused n p) = answer_of n p 0 0

-- An answer with the lent table as it is afterwards, and one with the lent registers.
pub record Filled : Type 0 where
  pub answer : Verdict
  pub table : List ℕ

pub record Finished : Type 0 where
  pub answer : Ran
  pub registers : List ℕ

-- What writing answers: the text's length, or a refusal; and that with the lent buffer.
pub data Wrote : Type 0 where
  wrote : (count : ℕ) → Wrote
  refused : (number place : ℕ) → Wrote

unfoldable pub wrote_numbers : Wrote → Answer
wrote_numbers (Wrote.wrote n) = answer_of 0 0 n 0
wrote_numbers (Wrote.refused n p) = answer_of n p 0 0

pub record Shown : Type 0 where
  pub answer : Wrote
  pub buffer : List ℕ

-- ---- read

-- A refusal with a lent table of n cells.
unfoldable pub refused_table : ℕ → ℕ → ℕ → Filled
refused_table n k p = record { answer = Verdict.refused k p; table = zeros n }

-- A program goes to a lent table of n cells: 22, "table output of another length".
unfoldable pub fill : ℕ → Program → Filled
fill n p =
    cond (eqb n table_length) (record { answer = Verdict.accepted; table = cells p })
    (refused_table n 22 0)

abbrev pub filled_from : ℕ → Reading → Filled
filled_from n (Reading.refused k p) = refused_table n k p
filled_from n (Reading.program p) = fill n p

-- Reading a text to a lent table of n cells: 1 to 8, and "reading gives 22 last".
unfoldable pub read_answer : List ℕ → ℕ → Filled
read_answer text n = filled_from n (read text)

-- ---- check

-- The check of a lent table: 9 at 0 for its length, then its program's.
unfoldable pub check_answer : List ℕ → Verdict
check_answer t = cond (eqb (length t) table_length) (check (decode t)) (Verdict.refused 9 0)

-- ---- run

-- The row of a place, as an answer has it.
unfoldable pub place_of : ℕ → Func → Place → ℕ
place_of i f p = row_place i (first_row f p.block + p.row)

-- A run of function i that used up its budget, or ended within it: 43, "budget used up", placed at the "next row".
abbrev pub ran_as : ℕ → Func → Run → Ran
ran_as i f (Run.going p g) = Ran.stopped 43 (place_of i f p) p.steps
ran_as i f (Run.ended (Outcome.returned v) p g) = Ran.returned v p.steps
ran_as i f (Run.ended Outcome.left p g) = Ran.left p.steps
ran_as i f (Run.ended (Outcome.stopped n) p g) = Ran.stopped n (place_of i f p) p.steps

-- "A stop or a normal end leaves the registers as the last finished step did; cells of the lent buffer past the function's registers are then 0."
abbrev pub left_in : ℕ → Run → List ℕ
left_in n (Run.going p g) = g ++ zeros (n - length g)
left_in n (Run.ended o p g) = g ++ zeros (n - length g)

unfoldable pub refused_run : ℕ → ℕ → ℕ → Finished
refused_run n k p = record { answer = Ran.refused k p; registers = zeros n }

-- Function i of an accepted program, with a lent buffer of n cells: "then 21; running then 20, 22".
unfoldable pub run_function : Program → ℕ → List ℕ → ℕ → ℕ → Finished
run_function p i args budget n =
    let f = get_or p i no_function in
    cond (ltb i (length p))
    (cond (eqb (length args) f.params)
    (cond (eqb (first_unfit f args) (length args))
    (cond (ltb n (length f.registers)) (refused_run n 22 0)
    (record { answer = ran_as i f (run_of f args budget); registers = left_in n (run_of f args budget) }))
    (refused_run n 20 (first_unfit f args)))
    (refused_run n 20 (length args)))
    (refused_run n 21 0)

-- "Running and translating take a table and a function's number, check all of the table (9 to 17)".
abbrev pub if_accepted : {A : Type 0} → Verdict → (ℕ → ℕ → A) → A → A
if_accepted Verdict.accepted refuses done = done
if_accepted (Verdict.refused k p) refuses done = refuses k p

unfoldable pub run_answer : List ℕ → ℕ → List ℕ → ℕ → ℕ → Finished
run_answer t i args budget n = if_accepted (check_answer t) (refused_run n) (run_function (decode t) i args budget n)

-- Many runs at once, each on one argument: the four numbers of each, one after the other, as running on that argument alone answers them.
unfoldable pub number_cells : Answer → List ℕ
number_cells a = a.number ∷ a.place ∷ a.value ∷ a.steps ∷ []

unfoldable pub run_each : List ℕ → ℕ → List ℕ → ℕ → ℕ → List ℕ
run_each t i args budget n = gather (λ a. number_cells (ran_numbers (run_answer t i (a ∷ []) budget n).answer)) args

-- An answer with the lent numbers as they are afterwards.
pub record Listed : Type 0 where
  pub answer : Verdict
  pub numbers : List ℕ

-- To m lent numbers: 22 where these are not four for each argument.
unfoldable pub run_each_answer : List ℕ → ℕ → List ℕ → ℕ → ℕ → ℕ → Listed
run_each_answer t i args budget n m =
    cond (eqb m (4 * length args)) (record { answer = Verdict.accepted; numbers = run_each t i args budget n })
    (record { answer = Verdict.refused 22 0; numbers = zeros m })

-- ---- a function's signature (document 02, A8: "missing or of another signature")

-- Function i of a lent table gives a result of this type and takes parameters of these. Of the table no more is asked than its length and
-- that it says to hold no more functions than there is room for.
unfoldable pub signature_answer : List ℕ → ℕ → ℕ → List ℕ → Bool
signature_answer t i result types =
    eqb (length t) table_length
    && (leb (function_count t) max_functions && (ltb i (function_count t) && has_signature (function_in (decode t) i) result types))

-- ---- translate

-- Function i of an accepted program to a lent table of n cells: "then 21; .. translating then 30, 31, 22".
unfoldable pub translate_function : Program → ℕ → ℕ → Filled
translate_function p i n =
    let f = get_or p i no_function in
    cond (ltb i (length p))
    (cond (is_ssa f) (cond (translation_fits f) (fill n (translation f ∷ [])) (refused_table n 31 0)) (refused_table n 30 0))
    (refused_table n 21 0)

unfoldable pub translate_answer : List ℕ → ℕ → ℕ → Filled
translate_answer t i n = if_accepted (check_answer t) (refused_table n) (translate_function (decode t) i n)

-- ---- write (document 02, A1)

-- A refusal with a lent buffer of n bytes.
unfoldable pub refused_text : ℕ → ℕ → ℕ → Shown
refused_text n k p = record { answer = Wrote.refused k p; buffer = zeros n }

-- A text to a lent buffer of n bytes: "33 if the text exceeds 65,536 bytes, then 32 exactly if it exceeds the buffer. The answer is the
-- text's length; past it the buffer is zero."
unfoldable pub show : ℕ → List ℕ → Shown
show n text =
    cond (ltb max_text (length text)) (refused_text n 33 0)
    (cond (ltb n (length text)) (refused_text n 32 0)
    (record { answer = Wrote.wrote (length text); buffer = text ++ zeros (n - length text) }))

-- "The table is checked first, as for running."
unfoldable pub write_answer : List ℕ → ℕ → Shown
write_answer t n = if_accepted (check_answer t) (refused_text n) (show n (written (decode t)))
