-- A number below 2^64 is below 2^w where nothing is left of it above w bits.
use mathlib.Core.Path.{◌≡◌, sym, ◌∙◌}
use mathlib.Core.Bool.{true}
use Prim.Native.Nat.{ℕ, ◌/◌, ◌^◌, ◌≤◌, ◌<◌}
use native.Mathlib.Nat.{div-eq_of_lt, le-div_iff_mul-le, one-mul}
use native.Mathlib.Decide.{dec_lt}
use native.Mathlib.Omega.{arith}
use lib.Dec.{eqb, ltb}
use lib.Pow.{pow_pos}
use borrow.Author.Rules.{rules}
use borrow.Author.Tests.{lt-ltb, le-ltb, eq-eqb, ne_eqb}
use Rattle.language.specs.Instructions.{width}
use Rattle.language.proofs.Widths.{powers}
use Rattle.instructions.proofs.number_fits.Goals as goal

module _ (kind v w : ℕ) (e : w ≡ width kind) where
  all_fit : w ≡ 64 → v < 2 ^ 64 → true ≡ ltb v (2 ^ width kind)
  all_fit h l = sym (lt-ltb v (2 ^ width kind) (rw (← e, h) l))

  narrower : (w ≡ 64 → ⊥) → w < 64
  narrower h = omega (arith, (powers kind).most)

  -- nothing is left above w bits exactly if the number is below 2^w
  left_over : eqb (v / 2 ^ w) 0 ≡ ltb v (2 ^ width kind)
  left_over = rw (← e) (shifted (2 ^ w) (pow_pos w))
    where
      shifted : (d : ℕ) → 0 < d → eqb (v / d) 0 ≡ ltb v d
      shifted d l =
          elim (dec_lt v d) [
            | yes h ↦ eq-eqb (v / d) 0 (div-eq_of_lt h) ∙ sym (lt-ltb v d h)
            | no h ↦
                (let m : 1 ≤ v / d = (le-div_iff_mul-le l).1 (rw one-mul (omega arith)) in
                ne_eqb (v / d) 0 (λ e. omega arith) ∙ sym (le-ltb v d (omega arith)))
          ]

pub returns-then-w-eq64 : goal.returns-then-w-eq64
returns-then-w-eq64 c = all_fit c.args.t _ _ c.width-w.ensures c.if-w-eq64.true (search rules)

pub overflow_shr-result : goal.overflow_shr-result
overflow_shr-result c = narrower c.args.t c.args.n _ c.width-w.ensures c.if-w-eq64.false

pub returns : goal.returns
returns c = left_over c.args.t c.args.n _ c.width-w.ensures
