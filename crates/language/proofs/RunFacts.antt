-- Runs by computation: each instruction, and what a run leaves. (P1 to P12 are in Marked.)
-- Assumes nothing.
use mathlib.Core.Path.{◌≡◌, refl}
use mathlib.Core.List.{List, [], ◌∷◌, map}
use Prim.Native.Nat.{ℕ}
use lib.IntN.{ℤ, pos, neg_ℤ}
use Rattle.language.specs.Instructions.{uint, void}
use Rattle.language.specs.Arithmetic.{meaning}
use Rattle.language.specs.Programs.{Row, Func}
use Rattle.language.specs.Running.{Outcome, Run, run_of}
use Rattle.language.proofs.Computing.{computing}
use Rattle.language.proofs.Examples.{func}

-- How a run that has ended did so: outcome, row of the last step, steps, registers.
pub record Summary : Type 0 where
  pub outcome : Outcome
  pub row : ℕ
  pub steps : ℕ
  pub registers : List ℕ

-- A run that goes on is summed up as stop 43, at the row that comes next.
abbrev pub summary : Run → Summary
summary (Run.going p g) = record { outcome = Outcome.stopped 43; row = p.row; steps = p.steps; registers = g }
summary (Run.ended o p g) = record { outcome = o; row = p.row; steps = p.steps; registers = g }

-- What a value means in a type, or a stop's number; `left` is no whole number.
pub data Reported : Type 0 where
  whole : ℤ → Reported
  nothing : Reported
  stop : ℕ → Reported

abbrev pub reported : ℕ → Outcome → Reported
reported t (Outcome.returned v) = Reported.whole (meaning t v)
reported t Outcome.left = Reported.nothing
reported t (Outcome.stopped n) = Reported.stop n

-- A function whose one instruction takes its parameters: target type t, sources of types l and r.
abbrev pub binary_func : ℕ → ℕ → ℕ → ℕ → Func
binary_func op t l r = func 0 t 2 (l ∷ r ∷ t ∷ []) ((Row.binary op 2 0 1 ∷ Row.return 2 ∷ []) ∷ [])

abbrev pub unary_func : ℕ → ℕ → ℕ → Func
unary_func op t s = func 0 t 1 (s ∷ t ∷ []) ((Row.unary op 1 0 ∷ Row.return 1 ∷ []) ∷ [])

-- A function, its arguments, and what its run reports.
pub record Case : Type 0 where
  pub function : Func
  pub arguments : List ℕ
  pub report : Reported

abbrev binary : ℕ → ℕ → ℕ → ℕ → ℕ → ℕ → Reported → Case
binary op t l r a b v = record { function = binary_func op t l r; arguments = a ∷ b ∷ []; report = v }

abbrev unary : ℕ → ℕ → ℕ → ℕ → Reported → Case
unary op t s a v = record { function = unary_func op t s; arguments = a ∷ []; report = v }

-- int8 is 0, int16 1, uint8 4, uint16 5; -7 is 249, -128 is 128 and -1 is 255 in eight bits.
-- Every instruction that computes, and the edges of those of P4 to P11.
abbrev computed : List Case
computed =
    -- ari.sub a, b is a - b; mul wraps; a zero divisor stops 40 for both
    binary 10 4 4 4 3 5 (Reported.whole (pos 254))
    ∷ binary 10 0 0 0 3 5 (Reported.whole (neg_ℤ (pos 2)))
    ∷ binary 11 0 0 0 100 3 (Reported.whole (pos 44))
    ∷ binary 12 0 0 0 7 254 (Reported.whole (neg_ℤ (pos 3)))
    ∷ binary 13 0 0 0 7 254 (Reported.whole (pos 1))
    ∷ binary 12 4 4 4 1 0 (Reported.stop 40)
    ∷ binary 13 4 4 4 1 0 (Reported.stop 40)
    -- unsigned 128 div 255 is no overflow
    ∷ binary 12 4 4 4 128 255 (Reported.whole (pos 0))
    ∷ binary 15 4 4 4 12 10 (Reported.whole (pos 8))
    ∷ binary 16 4 4 4 12 10 (Reported.whole (pos 14))
    ∷ binary 17 4 4 4 12 10 (Reported.whole (pos 6))
    ∷ unary 18 4 4 1 (Reported.whole (pos 254))
    -- shr of an unsigned type fills with zero; counts go by the first source's width; a count of 0 runs
    ∷ binary 20 4 4 uint 128 7 (Reported.whole (pos 1))
    ∷ binary 20 5 5 uint 128 8 (Reported.whole (pos 0))
    ∷ binary 20 0 0 uint 128 8 (Reported.stop 41)
    ∷ binary 22 4 4 uint 129 1 (Reported.whole (pos 192))
    ∷ binary 21 4 4 uint 129 0 (Reported.whole (pos 129))
    ∷ binary 22 4 4 uint 129 8 (Reported.stop 41)
    -- cmp.eq neq gt lt gteq lteq on int8 -1 and 1: by meaning
    ∷ binary 23 uint 0 0 255 1 (Reported.whole (pos 0))
    ∷ binary 24 uint 0 0 255 1 (Reported.whole (pos 1))
    ∷ binary 25 uint 0 0 255 1 (Reported.whole (pos 0))
    ∷ binary 26 uint 0 0 255 1 (Reported.whole (pos 1))
    ∷ binary 27 uint 0 0 255 255 (Reported.whole (pos 1))
    ∷ binary 28 uint 0 0 1 255 (Reported.whole (pos 0))
    -- and on uint8 255 and 1
    ∷ binary 25 uint 4 4 255 1 (Reported.whole (pos 1))
    ∷ unary 29 0 5 511 (Reported.whole (neg_ℤ (pos 1)))
    ∷ unary 30 4 4 7 (Reported.whole (pos 7))
    ∷ []

-- The run of each function on its arguments reports what stands beside it.
pub Right : List Case → Type 0
Right cs =
    map (λ c. reported c.function.result (summary (run_of c.function c.arguments 2)).outcome) cs ≡ map (λ c. c.report) cs

pub computed_right : Right computed
unfolding computing Right
computed_right = refl

-- "Each instruction .. is one step; one that stops counts too": `ari.div` by 0 in row 1 stops after 2 steps, with the registers as
-- row 0 left them.
pub stop_counts :
    summary (run_of (func 0 void 1 (4 ∷ 4 ∷ []) ((Row.load 2 1 9 ∷ Row.binary 12 1 0 0 ∷ Row.leave ∷ []) ∷ [])) (0 ∷ []) 5)
    ≡ record { outcome = Outcome.stopped 40; row = 1; steps = 2; registers = 0 ∷ 9 ∷ [] }
unfolding computing
stop_counts = refl

-- `leave` returns nothing; registers that are no parameters start at 0; "Budget 0 means answer 43 after 0 steps".
abbrev leaves : Func
leaves = func 0 void 1 (4 ∷ 4 ∷ []) ((Row.nop ∷ Row.leave ∷ []) ∷ [])

pub leave_leaves : summary (run_of leaves (5 ∷ []) 2) ≡ record { outcome = Outcome.left; row = 1; steps = 2; registers = 5 ∷ 0 ∷ [] }
unfolding computing
leave_leaves = refl

pub budget_used : summary (run_of leaves (5 ∷ []) 1) ≡ record { outcome = Outcome.stopped 43; row = 1; steps = 1; registers = 5 ∷ 0 ∷ [] }
unfolding computing
budget_used = refl

pub budget_none : summary (run_of leaves (5 ∷ []) 0) ≡ record { outcome = Outcome.stopped 43; row = 0; steps = 0; registers = 5 ∷ 0 ∷ [] }
unfolding computing
budget_none = refl

-- A step that has no instruction to do stays and counts: at a place without a row, and at a row that is no instruction.
pub no_row : summary (run_of (func 0 void 0 [] ([] ∷ [])) [] 3) ≡ record { outcome = Outcome.stopped 43; row = 0; steps = 3; registers = [] }
unfolding computing
no_row = refl

pub no_instruction :
    summary (run_of (func 0 void 0 (4 ∷ []) ((Row.nop ∷ Row.unknown 36 ∷ Row.leave ∷ []) ∷ [])) [] 5)
    ≡ record { outcome = Outcome.stopped 43; row = 1; steps = 5; registers = 0 ∷ [] }
unfolding computing
no_instruction = refl
