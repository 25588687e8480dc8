-- The marked cases P1 to P12 of document 01, each from its text: read, checked, run, and where the function is ssa translated, checked again and run
-- again. One table with one proved statement.
-- Assumes nothing.
use mathlib.Core.Path.{◌≡◌, refl}
use mathlib.Core.Bool.{Bool, true, false}
use mathlib.Core.List.{List, [], ◌∷◌, ◌++◌, map}
use Prim.Native.Nat.{ℕ}
use Prim.Native.String.{String}
use lib.IntN.{pos, neg_ℤ}
use lib.ListN.{get_or}
use Rattle.language.specs.Bytes.{bytes_of}
use Rattle.language.specs.Programs.{Func, Program, no_function, is_ssa}
use Rattle.language.specs.Reading.{Reading, read}
use Rattle.language.specs.Checking.{Verdict, check}
use Rattle.language.specs.Running.{run_of}
use Rattle.language.specs.Translating.{translation}
use Rattle.language.proofs.Computing.{computing}
use Rattle.language.proofs.ReadingFacts.{reads, turn_text}
use Rattle.language.proofs.RunFacts.{Summary, summary, Reported, reported}

-- What comes of a text's first function on its arguments: a refusal; a run, with its report by meaning and its steps; a run and that of the
-- translation.
pub data Told : Type 0 where
  refused : (number place : ℕ) → Told
  ran : (report : Reported) (steps : ℕ) → Told
  twice : (report : Reported) (steps : ℕ) (again : Reported) (translated : ℕ) → Told

abbrev summed : Func → List ℕ → Summary
summed f args = summary (run_of f args 99)

abbrev told_twice : Func → List ℕ → Verdict → Told
told_twice f args Verdict.accepted =
    let s = summed f args in
    let t = summed (translation f) args in
    Told.twice (reported f.result s.outcome) s.steps (reported f.result t.outcome) t.steps
told_twice f args (Verdict.refused n p) = Told.refused n p

abbrev told_of : Func → List ℕ → Bool → Told
told_of f args true = told_twice f args (check (translation f ∷ []))
told_of f args false = let s = summed f args in Told.ran (reported f.result s.outcome) s.steps

abbrev judged : Program → List ℕ → Verdict → Told
judged p args Verdict.accepted = let f = get_or p 0 no_function in told_of f args (is_ssa f)
judged p args (Verdict.refused n r) = Told.refused n r

abbrev told : Reading → List ℕ → Told
told (Reading.refused n p) args = Told.refused n p
told (Reading.program p) args = judged p args (check p)

pub record Case : Type 0 where
  pub text : List ℕ
  pub arguments : List ℕ
  pub answer : Told

-- A function of two parameters and one instruction: return type, the parameters' types, the instruction.
abbrev two : String → String → String → String → List ℕ
two t l r op =
    bytes_of "function " ++ bytes_of t ++ bytes_of " f(" ++ bytes_of l ++ bytes_of " a, " ++ bytes_of r ++ bytes_of " b) { register " ++ bytes_of t
    ++ bytes_of " r; block entry { r = " ++ bytes_of op ++ bytes_of " a, b; return r; } }"

-- The same with one parameter.
abbrev one : String → String → String → List ℕ
one t s op =
    bytes_of "function " ++ bytes_of t ++ bytes_of " f(" ++ bytes_of s ++ bytes_of " a) { register " ++ bytes_of t ++ bytes_of " r; block entry { r = "
    ++ bytes_of op ++ bytes_of " a; return r; } }"

-- A function that loads a uint8.
abbrev loads : String → List ℕ
loads n = bytes_of "function uint8 f() { register uint8 r; block entry { r = load.ui8 (" ++ bytes_of n ++ bytes_of "); return r; } }"

abbrev turning : ℕ → ℕ → ℕ → ℕ → Case
turning n v s t =
    record
    { text = turn_text; arguments = 7 ∷ 9 ∷ n ∷ []; answer = Told.twice (Reported.whole (pos v)) s (Reported.whole (pos v)) t }

abbrev case : List ℕ → List ℕ → Reported → Case
case t args v = record { text = t; arguments = args; answer = Told.ran v 2 }

-- A stop ends the run with its first step.
abbrev stops : List ℕ → List ℕ → ℕ → Case
stops t args n = record { text = t; arguments = args; answer = Told.ran (Reported.stop n) 1 }

-- Arguments are numbers below 2^w: -7 is 249, -128 is 128, -1 is 255 in eight bits.
pub marked : List Case
marked =
    -- P1 turn(7,9,0) = 7, 9 steps, translated 13; P2 turn(7,9,1) = 9, 16 steps, translated 24; P3 turn(7,9,2) = 7, 23 steps
    turning 0 7 9 13 ∷ turning 1 9 16 24 ∷ turning 2 7 23 35
    -- P4 int8 100 + 100 = -56
    ∷ case (two "int8" "int8" "int8" "ari.add") (100 ∷ 100 ∷ []) (Reported.whole (neg_ℤ (pos 56)))
    -- P5 int8 -7 div 2 = -3, rem -1
    ∷ case (two "int8" "int8" "int8" "ari.div") (249 ∷ 2 ∷ []) (Reported.whole (neg_ℤ (pos 3)))
    ∷ case (two "int8" "int8" "int8" "ari.rem") (249 ∷ 2 ∷ []) (Reported.whole (neg_ℤ (pos 1)))
    -- P6 int8 -128 div -1 stops 42, rem 0
    ∷ stops (two "int8" "int8" "int8" "ari.div") (128 ∷ 255 ∷ []) 42
    ∷ case (two "int8" "int8" "int8" "ari.rem") (128 ∷ 255 ∷ []) (Reported.whole (pos 0))
    -- P7 int8 -128 shr 7 = -1
    ∷ case (two "int8" "int8" "uint" "shr") (128 ∷ 7 ∷ []) (Reported.whole (neg_ℤ (pos 1)))
    -- P8 uint8 shl by 7 runs, by 8 stops 41
    ∷ case (two "uint8" "uint8" "uint" "shl") (3 ∷ 7 ∷ []) (Reported.whole (pos 128))
    ∷ stops (two "uint8" "uint8" "uint" "shl") (3 ∷ 8 ∷ []) 41
    -- P9 uint8 0x81 rol 1 = 3
    ∷ case (two "uint8" "uint8" "uint" "rol") (0x81 ∷ 1 ∷ []) (Reported.whole (pos 3))
    -- P10 conv int8 -1 to uint16 = 65,535
    ∷ case (one "uint16" "int8" "conv") (255 ∷ []) (Reported.whole (pos 65535))
    -- P11 negated int8 -128 is -128
    ∷ case (one "int8" "int8" "ari.neg") (128 ∷ []) (Reported.whole (neg_ℤ (pos 128)))
    -- P12 `load.ui8 (255)` reads, `(256)` is 4
    ∷ case (loads "255") [] (Reported.whole (pos 255))
    ∷ record { text = loads "256"; arguments = []; answer = Told.refused 4 67 }
    ∷ []

-- Each text on its arguments comes to what stands beside it.
pub marked_right : map (λ c. told (read c.text) c.arguments) marked ≡ map (λ c. c.answer) marked
unfolding computing reads turn_text marked
marked_right = refl
