-- Demand 2, "accepted exactly": which programs the check accepts, and which refusal it gives of any other. 17 is judged over
-- paths here, never by the computation that finds them.
-- Assumes nothing.
use Rattle.std.specs.Prelude.{◌≡◌, ◌↔◌, false, cond, ◌&&◌, List, map, ℕ, ◌≤◌, ◌<◌, T, eqb, ltb, length, take}
use Rattle.language.specs.Programs.{Func, Program, function_in, max_functions, is_ssa, has_signature, rows_at, first_row, row_place}
use Rattle.language.specs.Checking.{Spot, spot_at, row_number, breaks10, breaks11, breaks12, breaks13, breaks14, breaks15, breaks16, breaks_row, Missing, Verdict, sound, check}
use Rattle.language.specs.Table.{table_length, decode}
use Rattle.language.specs.Answers.{check_answer, signature_answer}

-- The names of the functions before number i.
abbrev pub names_before : Program → ℕ → List (List ℕ)
names_before p i = map (λ f. f.name) (take i p)

-- ---- accepted

-- The rules of a function, those before it having these names.
pub record RulesHold (names : List (List ℕ)) (f : Func) : Type 0 where
  -- 9
  pub head : T (sound names f)
  -- 10 of a block with no rows
  pub filled : (b : ℕ) → b < length f.blocks → 0 < length (rows_at f b)
  -- 9 to 16 of every row
  pub rows : (b j : ℕ) → j < length (rows_at f b) → breaks_row f (spot_at f b j) ≡ false
  -- 17 of every row, "over all paths from entry"
  pub paths : (b j : ℕ) → j < length (rows_at f b) → T (is_ssa f) → ¬ Missing f (spot_at f b j)

pub record Right (p : Program) : Type 0 where
  pub count : length p ≤ max_functions
  pub functions : (i : ℕ) → i < length p → RulesHold (names_before p i) (function_in p i)

-- "A function is accepted exactly when its rules hold", of all functions of a program.
abbrev pub AcceptedExactly : Type 0
AcceptedExactly = (p : Program) → (check p ≡ Verdict.accepted) ↔ Right p

-- ---- refused

-- Row s breaks this number: document 01's table.
pub data Breaks (f : Func) (s : Spot) : (number : ℕ) → Type 0 where
  -- "block without terminator at its end, or one earlier", at its "last row; the earlier one"
  unterminated : T (breaks10 f s) → Breaks f s 10
  -- "types wrong, `leave` outside a void function"
  mistyped : T (breaks11 f s) → Breaks f s 11
  -- "ssa: register assigned twice, parameter assigned", at the "second row"
  reassigned : T (breaks12 f s) → Breaks f s 12
  -- "`copy` in ssa, `phi` outside it"
  unsuited : T (breaks13 f s) → Breaks f s 13
  -- "phi in entry, or after another instruction"
  misplaced : T (breaks14 f s) → Breaks f s 14
  -- "phi entries differ in number from predecessors, or are none"
  uneven : T (breaks15 f s) → Breaks f s 15
  -- "ssa: register used, never assigned"
  unassigned : T (breaks16 f s) → Breaks f s 16
  -- "ssa: some path from entry reaches the use without an assignment"
  missing : T (is_ssa f) → Missing f s → Breaks f s 17

-- What a function breaks of 9 to 17, those before it having these names: the number and its row, 0 for 9.
pub data Broken (names : List (List ℕ)) (f : Func) : (number row : ℕ) → Type 0 where
  head : sound names f ≡ false → Broken names f 9 0
  -- "A block with no rows is placed at the row where it would begin."
  block : (b : ℕ) → b < length f.blocks → length (rows_at f b) ≡ 0 → Broken names f 10 (first_row f b)
  row : (k b j : ℕ) → j < length (rows_at f b) → Breaks f (spot_at f b j) k → Broken names f k (row_number f (spot_at f b j))

-- All that is wrong with a program: function, number and row.
pub data Fault (p : Program) : (function number row : ℕ) → Type 0 where
  count : max_functions < length p → Fault p 0 9 0
  function : (i k r : ℕ) → i < length p → Broken (names_before p i) (function_in p i) k r → Fault p i k r

-- Accepted, by the table: "none of 9 to 17 holds".
abbrev pub AcceptedWithoutFault : Type 0
AcceptedWithoutFault = (p : Program) → (check p ≡ Verdict.accepted) ↔ ((i k r : ℕ) → ¬ Fault p i k r)

-- Where it is placed, 9 at the "function; 0 if the function count": "a row as a place is 2,048 times the function's number plus the row".
abbrev pub fault_place : (function number row : ℕ) → ℕ
fault_place i k r = cond (eqb k 9) i (row_place i r)

-- "functions in order, lowest number first, then earliest row"
pub data Before (i k r i' k' r' : ℕ) : Type 0 where
  function : i < i' → Before i k r i' k' r'
  number : i ≡ i' → k < k' → Before i k r i' k' r'
  row : i ≡ i' → k ≡ k' → r < r' → Before i k r i' k' r'

-- A fault of this number and place before which there is none: the one that is answered.
pub record Refused (p : Program) (k place : ℕ) : Type 0 where
  pub function : ℕ
  pub row : ℕ
  pub fault : Fault p function k row
  pub placed : place ≡ fault_place function k row
  pub first : (i' k' r' : ℕ) → Fault p i' k' r' → ¬ Before i' k' r' function k row

abbrev pub RefusedExactly : Type 0
RefusedExactly =
    (p : Program) (k place : ℕ) → (check p ≡ Verdict.refused k place) ↔ Refused p k place

-- ---- over tables as they are lent

abbrev pub TableAcceptedExactly : Type 0
TableAcceptedExactly =
    (t : List ℕ) → (check_answer t ≡ Verdict.accepted) ↔ ((length t ≡ table_length) × Right (decode t))

-- 9 at "0 if the function count or length"; a table of the one length is refused as its program is.
pub data TableRefused (t : List ℕ) : (number place : ℕ) → Type 0 where
  size : ¬ (length t ≡ table_length) → TableRefused t 9 0
  program : (k place : ℕ) → length t ≡ table_length → Refused (decode t) k place → TableRefused t k place

abbrev pub TableRefusedExactly : Type 0
TableRefusedExactly =
    (t : List ℕ) (k place : ℕ) → (check_answer t ≡ Verdict.refused k place) ↔ TableRefused t k place

-- What is asked of an accepted table's signature is that of its program: the function is there, and has it.
abbrev pub SignatureAccepted : Type 0
SignatureAccepted =
    (t : List ℕ) (i result : ℕ) (types : List ℕ)
    → check_answer t ≡ Verdict.accepted
    → signature_answer t i result types ≡ (ltb i (length (decode t)) && has_signature (function_in (decode t) i) result types)
