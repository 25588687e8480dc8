-- A call whose arguments lie in their ranges is answered by the run: what the registers hold of them is below 2^w. Assumes nothing.
use mathlib.Core.Path.{◌≡◌, refl, sym, ap, ◌∙◌}
use mathlib.Core.Bool.{Bool, true, false, cond, not}
use mathlib.Core.List.{[]}
use Prim.Native.Nat.{ℕ, ◌-◌, ◌^◌, ◌≤◌, ◌<◌}
use native.Mathlib.Nat.{mod-lt, zero-add}
use native.Mathlib.Omega.{arith}
use lib.Dec.{T, eqb, ltb, ltb→lt}
use lib.ListN.{length, get_or, length-map}
use lib.Pow.{pow_pos}
use borrow.Author.Tests.{eq-eqb, lt-ltb, le-ltb}
use Rattle.laws.specs.Lists.{below, together}
use Rattle.laws.proofs.Agreeing.{position_is}
use Rattle.laws.proofs.Indexing.{length_below, length_together_le, get_or_together}
use Rattle.laws.proofs.Ranges.{get_or_map_from}
use Rattle.laws.proofs.Tests.{of_true}
use Rattle.language.specs.Instructions.{width, signed}
use Rattle.language.specs.Programs.{Func, Register, no_function, no_register, max_registers, type_at}
use Rattle.language.specs.Reading.{number_in_range, bits_of}
use Rattle.language.specs.Running.{first_unfit}
use Rattle.language.specs.Answers.{run_function}
use Rattle.language.proofs.Widths.{powers}
use Rattle.theorems.proofs.AcceptanceCheck.{sound_parts, clean_of_check}
use Rattle.std.specs.Prelude.{Option, Some, None}
use Rattle.decimal.specs.declared.words.Decimal.{Decimal}
use Rattle.decimal.specs.Meanings.{bits_in, bits_below, bits_from}
use Rattle.call_words.specs.Arguments.{Given, unkept, bits_held, argument_bits, first_outside, arguments_of}
use Rattle.calling.specs.Calls.{call_function}
use Rattle.calling.specs.Statements.{CallRuns}

-- ---- one argument

in_range_below : (t : ℕ) (s : Bool) (v : ℕ) → T (number_in_range t s v) → bits_of t s v < 2 ^ width t
unfolding number_in_range bits_of
in_range_below t true v h = mod-lt (2 ^ width t - v) (pow_pos (width t))
in_range_below t false v h = by (signed t) h
  where
    by : (b : Bool) → T (cond b (ltb v (2 ^ (width t - 1))) (ltb v (2 ^ width t))) → v < 2 ^ width t
    by true h = omega (arith, ltb→lt v (2 ^ (width t - 1)) h, (powers t).half)
    by false h = ltb→lt v (2 ^ width t) h

magnitude_below : (t : ℕ) (s : Bool) (m : Option ℕ) → bits_held (bits_below t s m) < 2 ^ width t
unfolding bits_in
magnitude_below t s None = pow_pos (width t)
magnitude_below t s (Some v) = by (number_in_range t s v) refl
  where
    by : (b : Bool) → number_in_range t s v ≡ b → bits_held (cond b (Some (bits_of t s v)) None) < 2 ^ width t
    by true e = in_range_below t s v (of_true _ e)
    by false e = pow_pos (width t)

held_below : (t : ℕ) (d : Option Decimal) → bits_held (bits_from t d) < 2 ^ width t
held_below t None = pow_pos (width t)
held_below t (Some d) = magnitude_below t d.negative d.magnitude

-- ---- all of them

module _ (f : Func) (g : Given) where
  counted : length (arguments_of f g) ≡ g.count
  unfolding arguments_of
  counted = length-map (below g.count) (λ k. bits_held (argument_bits f g k)) ∙ length_below g.count

  argument_at : (j : ℕ) → j < g.count → get_or (arguments_of f g) j 0 ≡ bits_held (argument_bits f g j)
  unfolding arguments_of
  argument_at j l = get_or_map_from (λ k. bits_held (argument_bits f g k)) 0 0 g.count j l ∙ ap (λ k. bits_held (argument_bits f g k)) (zero-add j)

  argument_below : (j : ℕ) → j < g.count → get_or (arguments_of f g) j 0 < 2 ^ width (type_at f j)
  argument_below j l = rw (argument_at j l) (held_below (type_at f j) (get_or g.numbers j unkept))

  abbrev test : Register → ℕ → Bool
  test r v = ltb v (2 ^ width r.type)

  all_fit : g.count ≤ length f.registers → first_unfit f (arguments_of f g) ≡ length (arguments_of f g)
  unfolding first_unfit
  all_fit few =
      let n = counted in
      let room : length (arguments_of f g) ≤ length f.registers = omega arith in
      let m : length (together test f.registers (arguments_of f g)) ≡ length (arguments_of f g) = length_together_le test f.registers (arguments_of f g) room in
      sym
      (position_is (λ b. not b) true (together test f.registers (arguments_of f g)) (length (arguments_of f g)) (omega arith)
      (λ k c.
      ap not
      (get_or_together test no_register 0 true f.registers (arguments_of f g) k room c
      ∙ lt-ltb (get_or (arguments_of f g) k 0) (2 ^ width (type_at f k)) (argument_below k (omega arith))))
      (λ c. absurd (omega arith)))

pub call_runs : CallRuns
unfolding call_function run_function
call_runs p i g budget e l same inside =
    let f = get_or p i no_function in
    let s = sound_parts [] f (clean_of_check p i e l).head in
    let few : g.count ≤ length f.registers = omega (arith, s.params) in
    rw (
      lt-ltb i (length p) l,
      eq-eqb g.count f.params same,
      eq-eqb (first_outside f g) g.count inside,
      eq-eqb (length (arguments_of f g)) f.params (counted f g ∙ same),
      eq-eqb (first_unfit f (arguments_of f g)) (length (arguments_of f g)) (all_fit f g few),
      le-ltb max_registers (length f.registers) s.registers,
    )
    refl
