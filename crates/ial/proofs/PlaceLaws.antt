-- A run of a function that was checked is at a row of it, so that its place is a small number.
-- Assumes nothing.
use mathlib.Core.Path.{◌≡◌, subst⁻¹}
use mathlib.Core.Bool.{true}
use mathlib.Core.List.{List, []}
use Prim.Native.Nat.{ℕ, ◌+◌, ◌<◌}
use native.Mathlib.Omega.{arith}
use Rattle.language.specs.Programs.{Func, first_row, max_rows, max_functions}
use Rattle.language.specs.Table.{decode_function}
use Rattle.language.specs.Running.{Place, Outcome, Run, run_of, arguments_fit}
use Rattle.language.specs.Answers.{Ran, place_of, ran_as}
use Rattle.theorems.specs.Clean.{Clean, AtPlace}
use Rattle.theorems.proofs.AcceptanceCheck.{sound_parts}
use Rattle.theorems.proofs.Values.{Stays, run_stays}
use Rattle.theorems.proofs.Spots.{first_within}
use Rattle.machine.specs.Runs.{ran_in, Answers}
use Rattle.machine.specs.declared.runs.Run.{Run as Runᶜ}
use Rattle.ial.specs.Runs.{stop_place}

module _ (f : Func) (c : Clean f) where
  -- The place of a run is a row of the function.
  abbrev OnRow : Run → Type 0
  OnRow (Run.going p g) = first_row f p.block + p.row < max_rows
  OnRow (Run.ended o p g) = first_row f p.block + p.row < max_rows

  row_within : (p : Place) → AtPlace f p → first_row f p.block + p.row < max_rows
  row_within p v = omega (arith, first_within f p.block v.block, v.row, (sound_parts [] f c.head).rows)

  run_within : (x : Run) → Stays f x → OnRow x
  run_within (Run.going p g) s = row_within p s.0
  run_within (Run.ended o p g) s = row_within p s.0

  place_small : (i : ℕ) → i < max_functions → (x : Run) → OnRow x → stop_place (ran_as i f x) < 32768
  unfolding place_of
  place_small i l (Run.going p g) w = omega arith
  place_small i l (Run.ended (Outcome.returned v) p g) w = omega arith
  place_small i l (Run.ended Outcome.left p g) w = omega arith
  place_small i l (Run.ended (Outcome.stopped n) p g) w = omega arith

-- so the code's place is
pub answer_small :
    {t : List ℕ} {a : ℕ} {args : List ℕ} {budget n : ℕ} {r : Runᶜ} {h : List ℕ} (i : ℕ)
    → i < max_functions
    → Clean (decode_function t a)
    → arguments_fit (decode_function t a) args ≡ true
    → Answers t a args budget n r h
    → stop_place (ran_in i r) < 32768
answer_small {t} {a} {args} {budget} i l c e w =
    let f = decode_function t a in
    subst⁻¹ (λ (x : Ran). stop_place x < 32768) (w.ran i) (place_small f c i l (run_of f args budget) (run_within f c (run_of f args budget) (run_stays f c args budget e)))
