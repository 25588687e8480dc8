-- `instructions::ranges::largest`: a type has one of four widths.
use mathlib.Core.Path.{ap, sym, ◌∙◌}
use Prim.Native.Nat.{ℕ, ◌^◌}
use Rattle.instructions.proofs.RangesLaws.{width_last}
use Rattle.instructions.proofs.ranges.largest.Goals as goal

pub returns-in-8 : goal.returns-in-8
returns-in-8 c = ap (λ (w : ℕ). 2 ^ w) (sym c.in-8.is ∙ c.width-w.ensures)

pub returns-in-16 : goal.returns-in-16
returns-in-16 c = ap (λ (w : ℕ). 2 ^ w) (sym c.in-16.is ∙ c.width-w.ensures)

pub returns-in-32 : goal.returns-in-32
returns-in-32 c = ap (λ (w : ℕ). 2 ^ w) (sym c.in-32.is ∙ c.width-w.ensures)

pub returns-in_default : goal.returns-in_default
returns-in_default c =
    let e = c.width-w.ensures in
    let r = c.in_default.in_default-own.rest in
    ap (λ (w : ℕ). 2 ^ w) (sym (width_last c.args.kind (λ k. r.0.0.1 (e ∙ k)) (λ k. r.0.1 (e ∙ k)) (λ k. r.1 (e ∙ k))))
